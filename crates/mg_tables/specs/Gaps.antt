-- Tables with gaps: at each place stands a row, or it is a gap, where a row is gone. Entries name places.
use Rattle.std.specs.Prelude.{◌≡◌, ℕ, zero, suc, ◌*◌, ℤ, neg_ℤ, Bool, List, [], ◌∷◌, length, map, Option, Some, None, IsSome, is_none, slice_index_or, slice_set}
use Rattle.std.specs.Option.{option_map}
use Rattle.mg_words.specs.Letter.{IsLetterOf}
use Rattle.mg_tables.specs.Table.{Row, Table, column}

abbrev pub Places : Type 0
Places = List (Option Row)

-- what contracts see of a table with gaps
pub record Gapped : Type 0 where
  pub generators : ℕ
  pub places : Places

-- a row stands at the place
abbrev pub Stands : Places → ℕ → Type 0
Stands places c = IsSome (slice_index_or places c None)

-- which places are gaps
abbrev pub gaps : Places → List Bool
gaps places = map is_none places

-- the number of a place: how many rows stand before it
abbrev pub number : Places → ℕ → ℕ
number places zero = 0
number [] (suc c) = 0
number (None ∷ places) (suc c) = number places c
number (Some row ∷ places) (suc c) = suc (number places c)

-- the rows without the gaps
abbrev pub standing : Places → List Row
standing [] = []
standing (None ∷ places) = standing places
standing (Some row ∷ places) = row ∷ standing places

-- the table without the gaps: rows are called by their numbers
abbrev pub packed : Places → Table
packed places = map (map (option_map (number places))) (standing places)

abbrev pub row_or_none : Option Row → Row
row_or_none None = []
row_or_none (Some row) = row

-- the entry in a column at a place
abbrev pub cell_at : Places → ℕ → ℕ → Option ℕ
cell_at places c i = slice_index_or (row_or_none (slice_index_or places c None)) i None

-- a row stands at place 0, rows have a place for the entry of each letter, entries lead to places where rows
-- stand, and each has its inverse
pub record IsGapped (generators : ℕ) (places : Places) : Type 0 where
  pub first : Stands places 0
  pub width : (c : ℕ) → Stands places c → length (row_or_none (slice_index_or places c None)) ≡ 2 * generators
  pub there : (c i d : ℕ) → cell_at places c i ≡ Some d → Stands places d
  pub inverse : (c d : ℕ) (x : ℤ) → IsLetterOf generators x → cell_at places c (column x) ≡ Some d → cell_at places d (column (neg_ℤ x)) ≡ Some c

-- a row with its place
abbrev pub row_at : Places → ℕ → Row
row_at places c = row_or_none (slice_index_or places c None)

-- an entry is set
abbrev pub put : Places → ℕ → ℕ → ℕ → Places
put places c i d = slice_set places c (Some (slice_set (row_at places c) i (Some d)))

-- an entry is set with its inverse
abbrev pub fill_at : Places → ℕ → ℤ → ℕ → Places
fill_at places p x q = put (put places p (column x) q) q (column (neg_ℤ x)) p

-- an entry is taken away
abbrev pub empty_at : Places → ℕ → ℕ → Places
empty_at places c i = slice_set places c (Some (slice_set (row_at places c) i None))

-- the entry c.x = d is taken away with its inverse
abbrev pub cleared : Places → ℕ → ℤ → ℕ → Places
cleared places c x d = empty_at (empty_at places c (column x)) d (column (neg_ℤ x))

-- a row goes
abbrev pub without : Places → ℕ → Places
without places c = slice_set places c None
