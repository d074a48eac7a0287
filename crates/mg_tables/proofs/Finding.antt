-- The row that stands for a place is found by the places that rows keep which are gone.
use Rattle.std.proofs.Common.{◌≡◌, ℕ, zero, suc, ◌+◌, ◌-◌, ◌*◌, ◌<◌, ◌≤◌, List, [], ◌∷◌, length, get_or, refl, sym, ap, subst, ◌∙◌, arith}
use Rattle.std.specs.Prelude.{◌↔◌}
use Rattle.std.proofs.lemmas.List.{get_or_read}
use Rattle.mg_tables.specs.Gaps.{Places, Stands}
use Rattle.mg_tables.specs.Cells.{places_of, seen, IsKept}
use Rattle.mg_tables.specs.Collapse.{JoinsGone, IsCollapse, went_of}
use Rattle.mg_tables.specs.declared.join.Pair.{Pair}
use Rattle.mg_tables.specs.declared.table.TheConstants.{GONE}
use Rattle.mg_tables.proofs.Gaps.{stands_below}
use Rattle.mg_tables.proofs.Kept.{stands_by}

-- a row stands for a place in each collapse that these numbers are
pub record StandsFor (m n : ℕ) (xs : List ℕ) (place row : ℕ) : Type 0 where
  pub below : row ≤ place
  pub inside : row < n
  pub kept : IsKept m n xs
  pub stood : (first : Places) (p q : ℕ) (pairs : List Pair) → IsCollapse m n first p q pairs xs → Stands first place → Stands first row
  pub joined : (first : Places) (p q : ℕ) (pairs : List Pair) (f : ℕ → ℕ) → IsCollapse m n first p q pairs xs → Stands first place →
      JoinsGone first (places_of (2 * m) n xs) (went_of (2 * m) xs) f → f row ≡ f place

-- some collapse
abbrev pub Some_collapse : ℕ → ℕ → List ℕ → ℕ → Type 0
Some_collapse m n xs place = (first : Places) × (p : ℕ) × (q : ℕ) × (pairs : List Pair) × IsCollapse m n first p q pairs xs × Stands first place

pub find_start : (m n : ℕ) (xs : List ℕ) (place : ℕ) → Some_collapse m n xs place → StandsFor m n xs place place
find_start m n xs place (first, p, q, pairs, k, h) = record {
  below = omega arith;
  inside = omega (arith, stands_below first place h, k.count);
  kept = k.kept;
  stood = λ first p q pairs k h. h;
  joined = λ first p q pairs f k h j. refl;
}

pub find_inside : (m n i : ℕ) (xs : List ℕ) (place row z : ℕ) → StandsFor m n xs place row → i ≡ row * (2 * m) + 0 → z ≡ get_or xs i z → (i < length xs) × ((z < GONE) ↔ Stands (places_of (2 * m) n xs) row)
find_inside m n i xs place row z s e r = stands_by m n row i z xs (seen m n xs) refl s.kept s.inside e r

module _ (m n i : ℕ) (xs : List ℕ) (place row z : ℕ) (s : StandsFor m n xs place row) (e : i ≡ row * (2 * m) + 0) (r : z ≡ get_or xs i z) (high : GONE ≤ z) where
  gone_row : Stands (places_of (2 * m) n xs) row → ⊥
  gone_row h = let low : z < GONE = (find_inside m n i xs place row z s e r).1.1 h in omega (arith, low, high)

  next_is : went_of (2 * m) xs row ≡ z - GONE
  next_is = ap (λ k. k - GONE) (ap (λ j. get_or xs j 0) (sym e) ∙ sym (get_or_read xs i z (find_inside m n i xs place row z s e r).0 r 0))

  next_lower : (first : Places) (p q : ℕ) (pairs : List Pair) → IsCollapse m n first p q pairs xs → Stands first place → (z - GONE < row) × Stands first (z - GONE)
  next_lower first p q pairs k h = subst (λ a. (a < row) × Stands first a) next_is (k.collapsing.lower row (s.stood first p q pairs k h) gone_row)

  pub find_lower : Some_collapse m n xs place → z - GONE < row
  find_lower (first, p, q, pairs, k, h) = (next_lower first p q pairs k h).0

  pub find_next : Some_collapse m n xs place → StandsFor m n xs place (z - GONE)
  find_next some =
      let less : z - GONE < row = find_lower some in
      record {
        below = omega (arith, less, s.below);
        inside = omega (arith, less, s.inside);
        kept = s.kept;
        stood = λ first p q pairs k h. (next_lower first p q pairs k h).1;
        joined = λ first p q pairs f k h j.
            ap f (sym next_is) ∙ (sym (j row (s.stood first p q pairs k h) gone_row) ∙ s.joined first p q pairs f k h j);
      }

pub read_again : (xs : List ℕ) (i : ℕ) → get_or xs i 0 ≡ get_or xs i (get_or xs i 0)
read_again [] i = refl
read_again (x ∷ xs) zero = refl
read_again (x ∷ xs) (suc i) = read_again xs i
