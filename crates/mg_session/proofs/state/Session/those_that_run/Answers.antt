use Rattle.std.proofs.Common.{arith}
use Rattle.mg_session.specs.At.{once}
use Rattle.mg_session.proofs.Firsts.{pairs_taken}
use Rattle.mg_session.proofs.Phasing.{Taking, taking_next}
use Rattle.mg_session.proofs.state.Session.those_that_run.Goals as goal

pub loop-place-preserved : goal.loop-place-preserved
loop-place-preserved c =
    let upto = c.loop-place.invariant.1 in
    (taking_next once c.args.self.now c.loop-place.place _ _ c.takes_part.result (omega arith) c.in_ok-push.ensures.items c.takes_part.ensures c.loop-place.invariant.0, c.loop-place.invariant.1)

pub returns : goal.returns
returns c =
    let upto = c.loop-place.invariant.1 in pairs_taken (Taking once c.args.self.now) c.args.self.now.searches c.loop-place.runs.items c.loop-place.place (omega arith) c.loop-place.invariant.0
