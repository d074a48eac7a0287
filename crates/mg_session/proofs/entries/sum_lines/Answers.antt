use Rattle.mg_report.specs.Values.{sum_of}
use Rattle.mg_session.specs.Output.{IsSumLine}
use Rattle.mg_session.proofs.Logged.{pairs_pushed}
use Rattle.mg_session.proofs.entries.sum_lines.Goals as goal

pub loop-place-preserved : goal.loop-place-preserved
loop-place-preserved c =
    let at = c.loop-place in
    let state = c.args.session.now in
    let sum = c.sum_at.ensures in
    pairs_pushed (IsSumLine c.args.plan.now state) sum_of state.searches at.place sum.0 at.lines.items c.push.new.self.items c.sum_at.result c.in_ok-push.ensures.items sum.1 at.invariant sum.2
