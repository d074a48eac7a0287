-- A collapse on its way: rows are joined one after another, and each that goes keeps the place of the one it went to.
use Rattle.std.specs.Prelude.{◌≡◌, ℕ, ◌+◌, ◌-◌, ◌*◌, ◌<◌, ℤ, List, ◌∷◌, length, Some, None, ◌⊎◌, slice_index_or}
use Rattle.std.specs.List.{AllByRecursion}
use Rattle.mg_words.specs.Letter.{IsLetterOf}
use Rattle.mg_tables.specs.Table.{column}
use Rattle.mg_tables.specs.Gaps.{Places, Stands, gaps, standing, cell_at, IsGapped}
use Rattle.mg_tables.specs.Cells.{places_of, IsKept}
use Rattle.mg_tables.specs.declared.join.Pair.{Pair}
use Rattle.mg_tables.specs.declared.table.TheConstants.{GONE}

-- an entry leads from place to place
abbrev pub Leads : Places → ℕ → ℤ → ℕ → Type 0
Leads ps c x d = cell_at ps c (column x) ≡ Some d

-- labels of places that all entries keep
abbrev pub Keeps : ℕ → Places → (ℕ → ℕ) → Type 0
Keeps m ps f = (a b c d : ℕ) (x : ℤ) → IsLetterOf m x → Leads ps a x c → Leads ps b x d → f a ≡ f b → f c ≡ f d

-- an entry like this, up to the labels
pub record Like (ps : Places) (f : ℕ → ℕ) (a : ℕ) (x : ℤ) (b : ℕ) : Type 0 where
  pub c : ℕ
  pub d : ℕ
  pub leads : Leads ps c x d
  pub from : f c ≡ f a
  pub to : f d ≡ f b

-- the labels join each row that went with the one it went to
abbrev pub JoinsGone : Places → Places → (ℕ → ℕ) → (ℕ → ℕ) → Type 0
JoinsGone old new went f = (c : ℕ) → Stands old c → (Stands new c → ⊥) → f c ≡ f (went c)

-- the labels join each pair, and each row that went with the one it went to
pub record JoinsAll (old new : Places) (went : ℕ → ℕ) (pairs : List Pair) (f : ℕ → ℕ) : Type 0 where
  pub pairs_joined : AllByRecursion (λ (e : Pair). f e.left ≡ f e.right) pairs
  pub gone_joined : JoinsGone old new went f

-- p and q are being joined, and these pairs are still to be
pub record Collapsing (m : ℕ) (old new : Places) (p q : ℕ) (went : ℕ → ℕ) (pairs : List Pair) : Type 0 where
  pub gapped : IsGapped m new
  pub stood : (c : ℕ) → Stands new c → Stands old c
  pub lower : (c : ℕ) → Stands old c → (Stands new c → ⊥) → (went c < c) × Stands old (went c)
  pub least : (f : ℕ → ℕ) → Keeps m old f → f p ≡ f q → JoinsAll old new went pairs f
  pub back : (f : ℕ → ℕ) → Keeps m old f → f p ≡ f q → (c d : ℕ) (x : ℤ) → IsLetterOf m x → Leads new c x d → Like old f c x d
  pub joins : (f : ℕ → ℕ) → JoinsAll old new went pairs f → f p ≡ f q
  pub forth : (f : ℕ → ℕ) → JoinsAll old new went pairs f → (a b : ℕ) (x : ℤ) → IsLetterOf m x → Leads old a x b → Like new f a x b

-- the place that a row that is gone keeps
abbrev pub went_of : ℕ → List ℕ → ℕ → ℕ
went_of width cells c = slice_index_or cells (c * width + 0) 0 - GONE

-- so many numbers are a table in which p and q of a first table are being joined
pub record IsCollapse (m n : ℕ) (first : Places) (p q : ℕ) (pairs : List Pair) (cells : List ℕ) : Type 0 where
  pub kept : IsKept m n cells
  pub count : length first ≡ n
  pub collapsing : Collapsing m first (places_of (2 * m) n cells) p q (went_of (2 * m) cells) pairs
  pub pairs_stood : AllByRecursion (λ (e : Pair). Stands first e.left × Stands first e.right) pairs

-- rows that are gone keep the places of the ones they went to
abbrev pub KeepsGone : ℕ → ℕ → List ℕ → List ℕ → Type 0
KeepsGone m n old new = (c : ℕ) → (Stands (places_of (2 * m) n old) c → ⊥) → went_of (2 * m) new c ≡ went_of (2 * m) old c

-- the new numbers are a table with these places, and what is gone stays
pub record Makes (m n : ℕ) (old new : List ℕ) (ps : Places) : Type 0 where
  pub kept : IsKept m n new
  pub seen : places_of (2 * m) n new ≡ ps
  pub gone : KeepsGone m n old new

-- so many numbers and pairs lead on any collapse in which a row goes to a row that is kept; no row is gone yet
pub record Moved (m n keep go : ℕ) (old : List ℕ) (before : List Pair) (new : List ℕ) (after : List Pair) : Type 0 where
  pub kept : IsKept m n new
  pub gaps_same : gaps (places_of (2 * m) n new) ≡ gaps (places_of (2 * m) n old)
  pub bare : (i : ℕ) → cell_at (places_of (2 * m) n old) go i ≡ None → cell_at (places_of (2 * m) n new) go i ≡ None
  pub collapse : (first : Places) (p q : ℕ) → IsCollapse m n first p q (record { left = keep; right = go } ∷ before) old →
      IsCollapse m n first p q (record { left = keep; right = go } ∷ after) new
  pub told : (c i d : ℕ) → cell_at (places_of (2 * m) n new) c i ≡ Some d → (cell_at (places_of (2 * m) n old) c i ≡ Some d) ⊎ ((c ≡ keep) ⊎ (d ≡ keep))

-- how much is left to do: each row that stands may still bring as many pairs as it has entries
abbrev pub left_to_do : ℕ → ℕ → List ℕ → List Pair → ℕ
left_to_do m n cells pairs = length (standing (places_of (2 * m) n cells)) * (2 * m) + length pairs

-- some collapse
abbrev pub SomeCollapse : ℕ → ℕ → List Pair → List ℕ → Type 0
SomeCollapse m n pairs cells = (first : Places) × (p : ℕ) × (q : ℕ) × IsCollapse m n first p q pairs cells

-- so many numbers and pairs lead on any collapse
abbrev pub LeadsOn : ℕ → ℕ → List ℕ → List Pair → List ℕ → List Pair → Type 0
LeadsOn m n old before new after = (first : Places) (p q : ℕ) → IsCollapse m n first p q before old → IsCollapse m n first p q after new
