use Rattle.std.proofs.Common.{arith}
use Rattle.mg_session.proofs.Phasing.{settle_begins, settle_next, settle_done}
use Rattle.mg_session.proofs.state.Session.settle.Goals as goal

pub loop-place-init : goal.loop-place-init
loop-place-init c = settle_begins _ _ c.count-place-end.ensures

pub settle_at-requires : goal.settle_at-requires
settle_at-requires c =
    let long = c.loop-place.invariant.long in
    let upto = c.loop-place.invariant.upto in omega arith

pub loop-place-preserved : goal.loop-place-preserved
loop-place-preserved c = settle_next _ _ _ _ _ c.loop-place-test.true c.requires c.loop-place.invariant c.settle_at.ensures

pub returns : goal.returns
returns c = settle_done _ _ _ _ c.loop-place-test.false c.loop-place.invariant
