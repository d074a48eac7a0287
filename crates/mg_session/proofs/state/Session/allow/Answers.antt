use Rattle.std.proofs.Common.{arith}
use Rattle.mg_session.proofs.Phasing.{allow_begins, allow_next, allow_done}
use Rattle.mg_session.proofs.state.Session.allow.Goals as goal

pub loop-place-init : goal.loop-place-init
loop-place-init c = allow_begins _ _ _ c.count-place-end.ensures

pub allow_at-requires : goal.allow_at-requires
allow_at-requires c =
    let long = c.loop-place.invariant.long in
    let upto = c.loop-place.invariant.upto in omega arith

pub loop-place-preserved : goal.loop-place-preserved
loop-place-preserved c = allow_next _ _ _ _ _ _ c.loop-place-test.true c.loop-place.invariant c.allow_at.ensures

pub returns : goal.returns
returns c = allow_done _ _ _ _ _ c.loop-place-test.false c.loop-place.invariant
