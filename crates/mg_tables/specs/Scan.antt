-- What one word forces at one row of a table. Places of a table with gaps are called by their numbers.
use Rattle.std.specs.Prelude.{◌≡◌, ℕ, ◌<◌, ◌≤◌, ℤ, neg_ℤ, List, [], ◌∷◌, ◌++◌, length, Some, None}
use Rattle.mg_tables.specs.Table.{Table, entry, row_after}
use Rattle.mg_words.specs.Word.{inv}
use Rattle.mg_tables.specs.Force.{ForcesRows, ForcesLetter}
use Rattle.mg_tables.specs.Gaps.{Places, Stands, number, packed}
use Rattle.mg_tables.specs.declared.scan.Forced.{Forced}
use Rattle.mg_tables.specs.declared.scan.Forced.TheVariants as forced

-- no cut of the word forces anything at the row
pub record ForcesNothing (table : Table) (row : ℕ) (w : List ℤ) : Type 0 where
  pub no_rows : (u v : List ℤ) (p q : ℕ) → w ≡ u ++ v → ForcesRows table row u v p q → ⊥
  pub no_letter : (u v : List ℤ) (x : ℤ) (p q : ℕ) → w ≡ u ++ x ∷ v → ForcesLetter table row u x v p q → ⊥

-- the cut at the place forces the rows at two places to be joined, and no longer beginning leads anywhere
pub record RowsForced (places : Places) (row : ℕ) (w : List ℤ) (place first second : ℕ) : Type 0 where
  pub front : List ℤ
  pub back : List ℤ
  pub word : w ≡ front ++ back
  pub at : length front ≡ place
  pub first_stands : Stands places first
  pub second_stands : Stands places second
  pub forces : ForcesRows (packed places) (number places row) front back (number places first) (number places second)
  pub farthest : (u v : List ℤ) → w ≡ u ++ v → place < length u → row_after (packed places) (number places row) u ≡ None

-- the cut around the letter at the place forces an entry
pub record EntryForced (places : Places) (row : ℕ) (w : List ℤ) (place from to : ℕ) : Type 0 where
  pub front : List ℤ
  pub letter : ℤ
  pub back : List ℤ
  pub word : w ≡ front ++ letter ∷ back
  pub at : length front ≡ place
  pub from_stands : Stands places from
  pub to_stands : Stands places to
  pub forces : ForcesLetter (packed places) (number places row) front letter back (number places from) (number places to)

-- what a scan of the word answers at the row
abbrev pub IsForced : Places → ℕ → List ℤ → Forced → Type 0
IsForced places row w forced.Nothing = ForcesNothing (packed places) (number places row) w
IsForced places row w (forced.Rows place first second) = RowsForced places row w place first second
IsForced places row w (forced.Entry place from to) = EntryForced places row w place from to

-- so far a word leads on from a row, and no further
pub record IsAhead (places : Places) (row : ℕ) (w : List ℤ) (place at : ℕ) : Type 0 where
  pub front : List ℤ
  pub back : List ℤ
  pub word : w ≡ front ++ back
  pub reached : length front ≡ place
  pub stands : Stands places at
  pub leads : row_after (packed places) (number places row) front ≡ Some (number places at)
  pub stuck : (x : ℤ) (rest : List ℤ) → back ≡ x ∷ rest → entry (packed places) (number places at) x ≡ None

-- so far the inverse of a word leads from a row, not beyond a place, and no further
pub record IsBehind (places : Places) (row : ℕ) (w : List ℤ) (least place at : ℕ) : Type 0 where
  pub front : List ℤ
  pub back : List ℤ
  pub word : w ≡ front ++ back
  pub reached : length front ≡ place
  pub within : least ≤ place
  pub stands : Stands places at
  pub leads : row_after (packed places) (number places row) (inv back) ≡ Some (number places at)
  pub stuck : (rest : List ℤ) (x : ℤ) → front ≡ rest ++ x ∷ [] → least < place → entry (packed places) (number places at) (neg_ℤ x) ≡ None
