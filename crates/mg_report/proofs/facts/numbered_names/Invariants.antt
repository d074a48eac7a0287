use Rattle.std.proofs.Common.{◌≡◌}
use Rattle.mg_report.specs.Log.{standard_names}
use Rattle.mg_report.proofs.facts.numbered_names.Given as goal

abbrev pub invariant-loop-place : goal.invariant-loop-place
invariant-loop-place l = l.names ≡ standard_names l.place
