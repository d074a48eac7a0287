use Rattle.std.proofs.Common.{◌≤◌, ◌-◌, length}
use Rattle.mg_core.proofs.Gathers.{Gathered}
use Rattle.mg_core.proofs.scan.models_above.Given as goal

abbrev pub invariant-loop-count : goal.invariant-loop-count
invariant-loop-count g l = record {
  few : l.number ≤ length l.facts;
  most : l.count ≤ l.most;
  gathered : Gathered g.R.Record.recording.model_of l.group l.after l.facts l.number l.upto l.count l.records;
}

abbrev pub decreases-loop-count : goal.decreases-loop-count
decreases-loop-count g l = length l.facts - l.number
