-- Tables that are reached from the table of one row (Todd and Coxeter).
use Rattle.std.specs.Prelude.{◌≡◌, ℕ, ◌+◌, ◌<◌, ℤ, List, [], ◌∷◌, length, None, IsSome, ◌⊎◌}
use Rattle.mg_words.specs.Letter.{IsLetterOf}
use Rattle.mg_present.specs.Presentation.{Group}
use Rattle.mg_tables.specs.Table.{Table, column, entry, first_table, filled, with_row}
use Rattle.mg_tables.specs.Force.{Cut, ForcesJoining, ForcesEntry, IsStable}
use Rattle.mg_tables.specs.Joining.{Joins}

-- the entry c.y stands before p.x: row by row, columns in their order
abbrev pub StandsBefore : ℕ → ℤ → ℕ → ℤ → Type 0
StandsBefore c y p x = (c < p) ⊎ ((c ≡ p) × (column y < column x))

-- p.x is the first empty entry
pub record IsFirstEmpty (generators : ℕ) (table : Table) (p : ℕ) (x : ℤ) : Type 0 where
  pub row : p < length table
  pub letter : IsLetterOf generators x
  pub empty : entry table p x ≡ None
  pub first : (c : ℕ) (y : ℤ) → IsLetterOf generators y → StandsBefore c y p x → IsSome (entry table c y)

-- one step from a table to the next, which makes so many rows: a forced entry, a forced joining, or, from a stable
-- table only, a new last row at the first empty entry
pub data Step (group : Group) (subgroup : List (List ℤ)) (old new : Table) (made : ℕ) : Type 0 where
  an_entry : (cut : Cut) (p : ℕ) (x : ℤ) (q : ℕ) → ForcesEntry group subgroup old cut p x q → new ≡ filled old p x q → made ≡ 0 → Step group subgroup old new made
  a_joining : (cut : Cut) (p q : ℕ) → ForcesJoining group subgroup old cut p q → Joins group.generators old p q new → made ≡ 0 → Step group subgroup old new made
  a_row : (p : ℕ) (x : ℤ) → IsStable group subgroup old → IsFirstEmpty group.generators old p x → new ≡ with_row group.generators old p x → made ≡ 1 → Step group subgroup old new made

-- the tables lead from the old one to the new one, each next one by a step, and so many rows are made
abbrev pub Leads : Group → List (List ℤ) → Table → List Table → ℕ → Table → Type 0
Leads group subgroup old [] made new = (old ≡ new) × (made ≡ 0)
Leads group subgroup old (table ∷ tables) made new =
    (first : ℕ) × (rest : ℕ) × Step group subgroup old table first × Leads group subgroup table tables rest new × (made ≡ first + rest)

-- the table is stable, and some list of tables leads to it from the table of one row without entries, with so many
-- new rows
pub record Enumerated (group : Group) (subgroup : List (List ℤ)) (made : ℕ) (table : Table) : Type 0 where
  pub tables : List Table
  pub leads : Leads group subgroup (first_table group.generators) tables made table
  pub stable : IsStable group subgroup table
