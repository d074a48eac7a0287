use Rattle.std.proofs.Common.{◌-◌}
use Rattle.mg_core.specs.Index.{IsBetween}
use Rattle.mg_core.proofs.index.place_for.Given as goal

abbrev pub invariant-loop-low : goal.invariant-loop-low
invariant-loop-low g l = IsBetween g.R.Record.recording.settles g.R.Key.Ord.cmp l.facts l.places l.key l.low l.high

abbrev pub decreases-loop-low : goal.decreases-loop-low
decreases-loop-low g l = l.high - l.low
