-- Lemmas on going through lists.
use Rattle.std.proofs.Common.{◌≡◌, ℕ, zero, suc, ◌+◌, ◌<◌, ◌≤◌, List, [], ◌∷◌, ◌++◌, length, take, drop, Some, refl, ap, arith, add-one, length-drop}
use Rattle.std.specs.Prelude.{slice_get, slice_set}
use Rattle.std.specs.List.{AllByRecursion}

-- a list of no members
pub nil_of : {X : Type 0} (xs : List X) → length xs ≡ 0 → xs ≡ []
nil_of [] e = refl
nil_of (x ∷ xs) e = absurd (omega (arith, e))

-- a list of which nothing is left from a place on
pub drop_end : {X : Type 0} (xs : List X) (n : ℕ) → drop n xs ≡ [] → length xs ≤ n
drop_end xs n e = omega (arith, length-drop n xs, ap length e)

-- the member at a place, and those behind it
pub drop_at : {X : Type 0} (xs : List X) (n : ℕ) (x : X) → slice_get xs n ≡ Some x → (n < length xs) × (drop n xs ≡ x ∷ drop (n + 1) xs)
drop_at [] n x there = absurd (cc)
drop_at (y ∷ xs) zero x there = (omega arith, cc)
drop_at (y ∷ xs) (suc n) x there =
    let h = drop_at xs n x there in
    (omega (arith, h.0), rw add-one (rw add-one at h.1))

-- a list whose last member stands at the place, and that list with another last member
pub last_at : {X : Type 0} (xs : List X) (n : ℕ) (x y : X) → slice_get xs n ≡ Some x → n + 1 ≡ length xs → (xs ≡ take n xs ++ x ∷ []) × (slice_set xs n y ≡ take n xs ++ y ∷ [])
last_at [] n x y there last = absurd (omega (arith, last))
last_at (z ∷ []) zero x y there last = (cc, refl)
last_at (z ∷ q ∷ xs) zero x y there last = absurd (omega (arith, last))
last_at (z ∷ xs) (suc n) x y there last =
    let h = last_at xs n x y there (omega (arith, last)) in
    (ap (λ rest. z ∷ rest) h.0, ap (λ rest. z ∷ rest) h.1)

-- a fact that holds of each member holds of each member of both parts
pub all_push : {X : Type 0} (P : X → Type 0) (xs : List X) (x : X) → AllByRecursion P xs → P x → AllByRecursion P (xs ++ x ∷ [])
all_push P [] x h p = (p, tt)
all_push P (y ∷ ys) x h p = (h.0, all_push P ys x h.1 p)

pub all_append : {X : Type 0} (P : X → Type 0) (xs ys : List X) → AllByRecursion P xs → AllByRecursion P ys → AllByRecursion P (xs ++ ys)
all_append P [] ys h g = g
all_append P (x ∷ xs) ys h g = (h.0, all_append P xs ys h.1 g)
