use Rattle.std.specs.Prelude.{◌≡◌, ℕ, ◌<◌, ℤ, List, Some, slice_get}
use Rattle.mg_tables.specs.Gaps.{packed}
use Rattle.mg_tables.specs.Scan.{ForcesNothing}
use Rattle.mg_tables.proofs.look.look_at_subgroup.Given as goal

-- the words before force nothing
abbrev pub invariant-loop-place : goal.invariant-loop-place
invariant-loop-place l = (k : ℕ) (w : List ℤ) → k < l.place → slice_get l.subgroup k ≡ Some w → ForcesNothing (packed l.table.places) 0 w
