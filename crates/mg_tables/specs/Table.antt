-- Coset tables (Todd and Coxeter): rows, counted from 0, and for each row and each letter at most one entry.
use Rattle.std.specs.Prelude.{◌≡◌, ℕ, zero, suc, ◌+◌, ◌*◌, ◌<◌, ℤ, pos, negsuc, neg_ℤ, List, [], ◌∷◌, ◌++◌, length, replicate, Option, Some, None, IsSome, slice_index_or, slice_set}
use Rattle.std.specs.Option.{option_and_then}
use Rattle.mg_words.specs.Letter.{IsLetterOf}

-- the entries of a row, in the order x1, x1^-1, x2 and so on
abbrev pub Row : Type 0
Row = List (Option ℕ)

-- the rows, so that equal tables are equal values
abbrev pub Table : Type 0
Table = List Row

-- the place of a letter's entry in a row
abbrev pub column : ℤ → ℕ
column (pos zero) = 0
column (pos (suc n)) = 2 * n
column (negsuc n) = 2 * n + 1

-- c.x
abbrev pub entry : Table → ℕ → ℤ → Option ℕ
entry table c x = slice_index_or (slice_index_or table c []) (column x) None

-- c.w: the row to which a word leads from c, where every entry on the way is there
abbrev pub row_after : Table → ℕ → List ℤ → Option ℕ
row_after table c [] = Some c
row_after table c (x ∷ w) = option_and_then (λ d. row_after table d w) (entry table c x)

-- each row has a place for the entry of each letter, entries lead to rows, and c.x = d exactly where d.x^-1 = c
pub record IsTable (generators : ℕ) (table : Table) : Type 0 where
  pub width : (c : ℕ) → c < length table → length (slice_index_or table c []) ≡ 2 * generators
  pub rows : (c d : ℕ) (x : ℤ) → IsLetterOf generators x → entry table c x ≡ Some d → d < length table
  pub inverse : (c d : ℕ) (x : ℤ) → IsLetterOf generators x → entry table c x ≡ Some d → entry table d (neg_ℤ x) ≡ Some c

-- no entry is empty
abbrev pub IsComplete : ℕ → Table → Type 0
IsComplete generators table = (c : ℕ) (x : ℤ) → c < length table → IsLetterOf generators x → IsSome (entry table c x)

-- a row without entries
abbrev pub empty_row : ℕ → Row
empty_row generators = replicate (2 * generators) None

-- the table of one row without entries
abbrev pub first_table : ℕ → Table
first_table generators = empty_row generators ∷ []

-- the table with the entry c.x = d
abbrev pub with_entry : Table → ℕ → ℤ → ℕ → Table
with_entry table c x d = slice_set table c (slice_set (slice_index_or table c []) (column x) (Some d))

-- the table with the entry p.x = q and its inverse
abbrev pub filled : Table → ℕ → ℤ → ℕ → Table
filled table p x q = with_entry (with_entry table p x q) q (neg_ℤ x) p

-- the table with a new last row, to which p.x leads
abbrev pub with_row : ℕ → Table → ℕ → ℤ → Table
with_row generators table p x = filled (table ++ empty_row generators ∷ []) p x (length table)
