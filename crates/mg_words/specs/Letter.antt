-- Letters as whole numbers: the place of a generator from 1, negative for its inverse.
use Rattle.std.specs.Prelude.{◌≡◌, ℕ, ℤ, pos, negsuc, ◌-◌, ◌+◌, ◌≤◌, Bool, true, false, nat_abs, refl}
use Rattle.std.proofs.Math.Nat.{sub-add_cancel}
use Rattle.mg_words.specs.declared.letter.Letter.TheInside.{Inside}
use Rattle.mg_words.specs.declared.limits.TheConstants.{MOST_PLACE}

abbrev pub number_of : ℕ → Bool → ℤ
number_of place false = pos place
number_of place true = negsuc (place - 1)

abbrev pub fields_of : ℤ → Inside
fields_of (pos n) = record { generator = n; inverse = false }
fields_of (negsuc n) = record { generator = n + 1; inverse = true }

-- a letter or an inverse letter of the first m generators
pub record IsLetterOf (m : ℕ) (x : ℤ) : Type 0 where
  pub least : 1 ≤ nat_abs x
  pub most : nat_abs x ≤ m

-- the place of a generator
pub record IsPlace (place : ℕ) : Type 0 where
  pub least : 1 ≤ place
  pub most : place ≤ MOST_PLACE

fields_back_of : (place : ℕ) (inverse : Bool) → 1 ≤ place → fields_of (number_of place inverse) ≡ record { generator = place; inverse = inverse }
fields_back_of place false h = refl
fields_back_of place true h = let e : place - 1 + 1 ≡ place = sub-add_cancel h in λ i. record { generator = e i; inverse = true }

-- a letter gives its fields back
pub fields_back : (a : Inside) → IsPlace a.generator → fields_of (number_of a.generator a.inverse) ≡ a
fields_back a h = fields_back_of a.generator a.inverse h.least
