use Rattle.std.specs.Prelude.{◌≡◌, length}
use Rattle.mg_tables.specs.Gaps.{packed}
use Rattle.mg_tables.specs.Enumerating.{left_to_set}
use Rattle.mg_tables.proofs.Reaching.{Deducing}
use Rattle.mg_tables.proofs.deduce.deduce.Given as goal

abbrev pub invariant-loop-pair : goal.invariant-loop-pair
invariant-loop-pair l =
    Deducing l.group l.subgroup l.initial.table l.table l.rows.items × (length (packed l.table.places) ≡ length (packed l.initial.table.places))

abbrev pub decreases-loop-pair : goal.decreases-loop-pair
decreases-loop-pair l = left_to_set l.table l.rows.items
