-- What a table is forced to: relators lead each row to itself, and subgroup words row 0.
use Rattle.std.specs.Prelude.{◌≡◌, ◌≢◌, ℕ, ◌<◌, ℤ, neg_ℤ, List, ◌∷◌, ◌++◌, length, Some, None, slice_get}
use Rattle.mg_words.specs.Word.{inv}
use Rattle.mg_present.specs.Presentation.{Group}
use Rattle.mg_tables.specs.Table.{Table, entry, row_after}

-- which word is read, each by its place from 0
pub data Sign : Type 0 where
  a_relator : ℕ → Sign
  a_member : ℕ → Sign

-- a word at a row, cut in two at a place
pub record Cut : Type 0 where
  pub sign : Sign
  pub row : ℕ
  pub place : ℕ

-- a relator is read at any row, and a subgroup word at row 0 alone
abbrev pub IsRead : Group → List (List ℤ) → Table → Sign → ℕ → List ℤ → Type 0
IsRead group subgroup table (a_relator k) row w = (slice_get group.relators k ≡ Some w) × (row < length table)
IsRead group subgroup table (a_member k) row w = (slice_get subgroup k ≡ Some w) × (row ≡ 0)

-- the row leads by u and by the inverse of v to rows p and q that differ
pub record ForcesRows (table : Table) (row : ℕ) (u v : List ℤ) (p q : ℕ) : Type 0 where
  pub before : row_after table row u ≡ Some p
  pub after : row_after table row (inv v) ≡ Some q
  pub differ : p ≢ q

-- the row leads by u and by the inverse of v to rows p and q, but neither p.x nor q.x^-1 is there
pub record ForcesLetter (table : Table) (row : ℕ) (u : List ℤ) (x : ℤ) (v : List ℤ) (p q : ℕ) : Type 0 where
  pub before : row_after table row u ≡ Some p
  pub after : row_after table row (inv v) ≡ Some q
  pub empty : entry table p x ≡ None
  pub empty_back : entry table q (neg_ℤ x) ≡ None

-- the cut of a word into u v forces the rows p and q to be joined
pub record ForcesJoining (group : Group) (subgroup : List (List ℤ)) (table : Table) (cut : Cut) (p q : ℕ) : Type 0 where
  pub front : List ℤ
  pub back : List ℤ
  pub read : IsRead group subgroup table cut.sign cut.row (front ++ back)
  pub place : length front ≡ cut.place
  pub forces : ForcesRows table cut.row front back p q

-- the cut of a word into u x v forces the entry p.x = q
pub record ForcesEntry (group : Group) (subgroup : List (List ℤ)) (table : Table) (cut : Cut) (p : ℕ) (x : ℤ) (q : ℕ) : Type 0 where
  pub front : List ℤ
  pub back : List ℤ
  pub read : IsRead group subgroup table cut.sign cut.row (front ++ x ∷ back)
  pub place : length front ≡ cut.place
  pub forces : ForcesLetter table cut.row front x back p q

-- no cut forces anything
pub record IsStable (group : Group) (subgroup : List (List ℤ)) (table : Table) : Type 0 where
  pub no_joining : (cut : Cut) (p q : ℕ) → ForcesJoining group subgroup table cut p q → ⊥
  pub no_entry : (cut : Cut) (p : ℕ) (x : ℤ) (q : ℕ) → ForcesEntry group subgroup table cut p x q → ⊥
