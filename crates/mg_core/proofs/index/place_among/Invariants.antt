use Rattle.std.proofs.Common.{◌≡◌, ◌+◌, take}
use Rattle.mg_core.specs.Index.{NoneSettles}
use Rattle.mg_core.proofs.index.place_among.Given as goal

abbrev pub invariant-loop-record : goal.invariant-loop-record
invariant-loop-record g l = (l.place ≡ l.fn.facts + l.record-index) × NoneSettles g.R.Record.recording.settles (take l.record-index l.records) l.key
