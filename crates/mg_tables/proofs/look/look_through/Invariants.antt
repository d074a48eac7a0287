use Rattle.std.specs.Prelude.{◌≡◌, ℕ, ◌<◌, ℤ, List, Some, slice_get}
use Rattle.mg_tables.specs.Looking.{IsQuiet}
use Rattle.mg_tables.proofs.look.look_through.Given as goal

-- the relators before force nothing
abbrev pub invariant-loop-place : goal.invariant-loop-place
invariant-loop-place l = (k : ℕ) (w : List ℤ) → k < l.place → slice_get l.group.relators k ≡ Some w → IsQuiet l.table.places l.row w
