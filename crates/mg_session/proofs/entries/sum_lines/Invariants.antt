use Rattle.std.proofs.Common.{take, map}
use Rattle.mg_workers.specs.Rows.{EachPair}
use Rattle.mg_report.specs.Values.{sum_of}
use Rattle.mg_session.specs.Output.{IsSumLine}
use Rattle.mg_session.proofs.entries.sum_lines.Given as goal

abbrev pub invariant-loop-place : goal.invariant-loop-place
invariant-loop-place l = EachPair (IsSumLine l.plan l.session) (take l.place l.session.searches) (map sum_of l.lines.items)
