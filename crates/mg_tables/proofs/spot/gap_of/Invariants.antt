use Rattle.std.specs.Prelude.{◌≡◌, ℕ, ◌<◌, ℤ, Some}
use Rattle.mg_words.specs.Letter.{IsLetterOf}
use Rattle.mg_tables.specs.Table.{column}
use Rattle.mg_tables.specs.Gaps.{cell_at}
use Rattle.mg_tables.proofs.spot.gap_of.Given as goal

-- the entries before are there
abbrev pub invariant-loop-place : goal.invariant-loop-place
invariant-loop-place l = (y : ℤ) → IsLetterOf l.table.generators y → column y < l.place → (d : ℕ) × (cell_at l.table.places l.row (column y) ≡ Some d)
