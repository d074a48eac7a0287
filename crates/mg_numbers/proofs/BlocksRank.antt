use Rattle.std.proofs.Common.{◌≡◌, ℕ, zero, suc, ◌+◌, ◌-◌, ◌<◌, ◌≤◌, List, [], ◌∷◌, ◌++◌, Bool, true, false, ltb, refl, sym, ◌∙◌, ap, inl, inr, arith, sum_by}
use Rattle.std.specs.List.{range_with_len}
use Rattle.std.proofs.lemmas.Bool.{cases_order}
use Rattle.std.proofs.lemmas.Bool.Decides.{nat_tests}
use Rattle.std.proofs.lemmas.List.Sums.{sum_by_push}
use Rattle.std.proofs.Math.Nat.{add-zero}
use Rattle.std.proofs.Math.Numerals.{add-one}

-- one number more at the end
range_with_len-more : (a n : ℕ) → range_with_len a (suc n) ≡ range_with_len a n ++ (a + n) ∷ []
range_with_len-more a zero = ap (λ (x : ℕ). x ∷ []) (sym (add-zero a))
range_with_len-more a (suc n) =
    let e : a + 1 + n ≡ a + suc n = omega arith in
    ap (λ (xs : List ℕ). a ∷ xs) (range_with_len-more (a + 1) n ∙ ap (λ (x : ℕ). range_with_len (a + 1) n ++ x ∷ []) e)

-- how many places the blocks from the first one up to that of this size have together
abbrev pub places_below : (ℕ → ℕ) → ℕ → ℕ → ℕ
places_below size_of first n = sum_by size_of (range_with_len first (n - first))

pub places_below-first : (size_of : ℕ → ℕ) (first : ℕ) → places_below size_of first first ≡ 0
places_below-first size_of first =
    let e : first - first ≡ 0 = omega arith in
    ap (λ n. sum_by size_of (range_with_len first n)) e

pub places_below-suc : (size_of : ℕ → ℕ) (first n : ℕ) → first ≤ n → places_below size_of first (suc n) ≡ places_below size_of first n + size_of n
places_below-suc size_of first n h =
    let e : suc n - first ≡ suc (n - first) = omega arith in
    let f : first + (n - first) ≡ n = omega arith in
    ap (λ k. sum_by size_of (range_with_len first k)) e ∙ ap (sum_by size_of) (range_with_len-more first (n - first)) ∙ sum_by_push size_of (range_with_len first (n - first)) (first + (n - first)) ∙ ap (λ k. sum_by size_of (range_with_len first (n - first)) + size_of k) f

-- the later block has all places of the earlier one below it
pub places_below-rises : (size_of : ℕ → ℕ) (first n k : ℕ) → first ≤ n → places_below size_of first n + size_of n ≤ places_below size_of first (suc n + k)
places_below-rises size_of first n zero h = omega (arith, places_below-suc size_of first n h, ap (places_below size_of first) (add-zero (suc n)))
places_below-rises size_of first n (suc k) h =
    let e : suc n + suc k ≡ suc (suc n + k) = omega arith in
    omega (arith, places_below-rises size_of first n k h, places_below-suc size_of first (suc n + k) (omega arith), ap (places_below size_of first) e)

-- a place in a block, with all that it needs
pub record IsPlace (size_of : ℕ → ℕ) (first k n i : ℕ) : Type 0 where
  pub from_first : first ≤ n
  pub within : i < size_of n
  pub place : places_below size_of first n + i ≡ k

-- the next place, in this block if there is one, or else the first one of the next block
abbrev pub next_place : Bool → ℕ → ℕ → ℕ × ℕ
next_place true n i = (n, i + 1)
next_place false n i = (n + 1, 0)

-- the block and the place in it before which k places are
abbrev pub block_at : (ℕ → ℕ) → ℕ → ℕ → ℕ × ℕ
block_at size_of first zero = (first, 0)
block_at size_of first (suc k) =
    let b = block_at size_of first k in next_place (ltb (b.1 + 1) (size_of b.0)) b.0 b.1

next_place-is : (size_of : ℕ → ℕ) (first : ℕ) (positive : (n : ℕ) → first ≤ n → 0 < size_of n) (k n i : ℕ) (b : Bool) → (b ≡ true → i + 1 < size_of n) → (b ≡ false → size_of n ≤ i + 1) → IsPlace size_of first k n i → IsPlace size_of first (suc k) (next_place b n i).0 (next_place b n i).1
next_place-is size_of first positive k n i true yes_in no_in p = record { from_first = p.from_first; within = yes_in refl; place = omega (arith, p.place) }
next_place-is size_of first positive k n i false yes_in no_in p =
    record {
      from_first = omega (arith, p.from_first);
      within = positive (n + 1) (omega (arith, p.from_first));
      place = omega (arith, p.place, p.within, no_in refl, places_below-suc size_of first n p.from_first, ap (places_below size_of first) (add-one n));
    }

pub block_at-is : (size_of : ℕ → ℕ) (first : ℕ) (positive : (n : ℕ) → first ≤ n → 0 < size_of n) (k : ℕ) → IsPlace size_of first k (block_at size_of first k).0 (block_at size_of first k).1
block_at-is size_of first positive zero = record { from_first = omega arith; within = positive first (omega arith); place = omega (arith, places_below-first size_of first) }
block_at-is size_of first positive (suc k) =
    let b = block_at size_of first k in
    next_place-is size_of first positive k b.0 b.1 (ltb (b.1 + 1) (size_of b.0)) (λ e. grind (arith, nat_tests)) (λ e. grind (arith, nat_tests)) (block_at-is size_of first positive k)

-- a later block begins after every place of this one
pub later_block : (size_of : ℕ → ℕ) (first n m : ℕ) → first ≤ n → n < m → places_below size_of first n + size_of n ≤ places_below size_of first m
later_block size_of first n m h l =
    let e : suc n + (m - suc n) ≡ m = omega arith in
    omega (arith, places_below-rises size_of first n (m - suc n) h, ap (places_below size_of first) e)

-- there is one place before which k places are
pub one_place : (size_of : ℕ → ℕ) (first k n i m j : ℕ) → IsPlace size_of first k n i → IsPlace size_of first k m j → (n ≡ m) × (i ≡ j)
one_place size_of first k n i m j p q =
    elim (cases_order n m) [
      | inl e ↦ (e, omega (arith, p.place, q.place, ap (places_below size_of first) e))
      | inr (inl l) ↦ absurd (omega (arith, later_block size_of first n m p.from_first l, p.place, q.place, p.within))
      | inr (inr l) ↦ absurd (omega (arith, later_block size_of first m n q.from_first l, p.place, q.place, q.within))
    ]
