use Rattle.std.proofs.Common.{◌≡◌, take}
use Rattle.std.specs.List.{AllByRecursion}
use Rattle.mg_core.proofs.scan.count_of.Given as goal

abbrev pub invariant-loop-record : goal.invariant-loop-record
invariant-loop-record g l = (l.count ≡ l.record-index) × AllByRecursion g.R.Record.recording.valid (take l.record-index l.records)
