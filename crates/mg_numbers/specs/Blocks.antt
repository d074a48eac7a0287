use Rattle.std.specs.Prelude.{◌≡◌, ◌≢◌, ℕ, ◌+◌, ◌*◌, ◌^◌, ◌↔◌, List, [], ◌∷◌, length, Contains, AllPairs}
use Rattle.std.specs.Ordering.{nat_cmp}
use Rattle.std.specs.declared.cmp.Ordering.TheVariants.{Less}
use Rattle.std.specs.Cmp.Lexicographic.{slice_cmp}

-- The first list comes before the second in lexicographic order.
abbrev pub Earlier : List ℕ → List ℕ → Type 0
Earlier xs ys = slice_cmp nat_cmp xs ys ≡ Less

-- x is the n-th, from 1, of the things that are P: a list has each of those before x once, and no other, and n is one more than its length.
pub record IsNth {A : Type 0} (P : A → Type 0) (Before : A → A → Type 0) (n : ℕ) (x : A) : Type 0 where
  pub is : P x
  pub earlier : List A
  pub once : AllPairs (λ y z. y ≢ z) earlier
  pub just : (y : A) → Contains earlier y ↔ (P y × Before y x)
  pub number : n ≡ length earlier + 1

-- the number that digits stand for in a base, the first most significant
abbrev pub number_in : ℕ → List ℕ → ℕ
number_in base [] = 0
number_in base (d ∷ ds) = d * base ^ length ds + number_in base ds
