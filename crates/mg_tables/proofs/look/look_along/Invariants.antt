use Rattle.std.specs.Prelude.{ℕ, ◌<◌}
use Rattle.mg_tables.specs.Looking.{IsQuietAt}
use Rattle.mg_tables.proofs.look.look_along.Given as goal

-- at the places before nothing is forced
abbrev pub invariant-loop-place : goal.invariant-loop-place
invariant-loop-place l = (j : ℕ) → j < l.place → IsQuietAt l.table.places l.row l.word j
