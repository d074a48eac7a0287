-- Joining two rows: the table divided by the least equivalence of its rows that joins them and that its entries
-- keep. An equivalence is a list of labels, one for each row: it joins the rows with equal labels.
use Rattle.std.specs.Prelude.{◌≡◌, ℕ, ◌<◌, ℤ, List, length, Some, slice_index}
use Rattle.mg_words.specs.Letter.{IsLetterOf}
use Rattle.mg_tables.specs.Table.{Table, entry, IsTable}

-- entries of joined rows under one letter lead to joined rows
pub record IsKept (generators : ℕ) (table : Table) (labels : List ℕ) : Type 0 where
  pub count : length labels ≡ length table
  pub kept : (a b c d : ℕ) (x : ℤ) → IsLetterOf generators x → entry table a x ≡ Some c → entry table b x ≡ Some d →
      slice_index labels a ≡ slice_index labels b → slice_index labels c ≡ slice_index labels d

-- of all that are kept and join p and q these labels join the fewest rows
pub record IsLeast (generators : ℕ) (table : Table) (p q : ℕ) (labels : List ℕ) : Type 0 where
  pub kept : IsKept generators table labels
  pub joins : slice_index labels p ≡ slice_index labels q
  pub least : (others : List ℕ) → IsKept generators table others → slice_index others p ≡ slice_index others q →
      (a b : ℕ) → a < length table → b < length table → slice_index labels a ≡ slice_index labels b →
      slice_index others a ≡ slice_index others b

-- the new rows are the labels, in the order of their lowest members, and the new entries are those of their members
pub record IsDivided (generators : ℕ) (table : Table) (labels : List ℕ) (new : Table) : Type 0 where
  pub whole : IsTable generators new
  pub named : (a : ℕ) → a < length table → slice_index labels a < length new
  pub used : (r : ℕ) → r < length new → (a : ℕ) × (a < length table) × (slice_index labels a ≡ r)
  pub in_order : (a r : ℕ) → a < length table → r < slice_index labels a → (b : ℕ) × (b < a) × (slice_index labels b ≡ r)
  pub forward : (a b : ℕ) (x : ℤ) → IsLetterOf generators x → entry table a x ≡ Some b →
      entry new (slice_index labels a) x ≡ Some (slice_index labels b)
  pub back : (r s : ℕ) (x : ℤ) → IsLetterOf generators x → entry new r x ≡ Some s →
      (a : ℕ) × (b : ℕ) × (entry table a x ≡ Some b) × (slice_index labels a ≡ r) × (slice_index labels b ≡ s)

-- the new table is the old one with the rows p and q joined
pub record Joins (generators : ℕ) (table : Table) (p q : ℕ) (new : Table) : Type 0 where
  pub labels : List ℕ
  pub least : IsLeast generators table p q labels
  pub divided : IsDivided generators table labels new
