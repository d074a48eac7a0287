-- What notes know of cells. A note is seen as the name of its cell and what is known of the cell's value.
use Rattle.std.specs.Prelude.{◌≡◌, ◌≢◌, ℕ, zero, suc, List, [], ◌∷◌, map, Option, None, Some, IfSome}
use Rattle.once_cell.specs.declared.race.note.Note.{Note}

abbrev pub noted : {R : Type 0} → Note R → ℕ × Option R
noted note = (note.cell, note.known)

-- the note of a cell that knows nothing
abbrev pub unknown : {R : Type 0} → ℕ → ℕ × Option R
unknown cell = (cell, None)

-- the cells that notes are of
abbrev pub cells_of : {R : Type 0} → List (ℕ × Option R) → List ℕ
cells_of notes = map (λ note. note.0) notes

-- what note i knows
abbrev pub known_at : {R : Type 0} → List (ℕ × Option R) → ℕ → Option R
known_at [] i = None
known_at (note ∷ notes) zero = note.1
known_at (note ∷ notes) (suc i) = known_at notes i

-- notes of which note i alone may have learned something
abbrev pub OnlyAt : {R : Type 0} → ℕ → List (ℕ × Option R) → List (ℕ × Option R) → Type 0
OnlyAt i old new = (j : ℕ) → j ≢ i → known_at new j ≡ known_at old j

-- a value that was known is known
abbrev pub StillKnows : {R : Type 0} → Option R → Option R → Type 0
StillKnows old new = IfSome old (λ value. new ≡ Some value)
