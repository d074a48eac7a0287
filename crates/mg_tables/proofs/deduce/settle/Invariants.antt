use Rattle.std.specs.Prelude.{◌≡◌, false, length}
use Rattle.mg_tables.specs.Gaps.{packed}
use Rattle.mg_tables.proofs.Reaching.{Deducing}
use Rattle.mg_tables.proofs.deduce.settle.Given as goal

abbrev pub invariant-loop-table : goal.invariant-loop-table
invariant-loop-table l =
    Deducing l.group l.subgroup l.initial.table l.table l.rows.items × (l.joined ≡ false → length (packed l.table.places) ≡ length (packed l.initial.table.places))

abbrev pub decreases-loop-table : goal.decreases-loop-table
decreases-loop-table l = length (packed l.table.places)
