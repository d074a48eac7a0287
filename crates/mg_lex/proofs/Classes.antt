-- Tests on bytes that the laws about tokens speak of.
use Rattle.std.proofs.Common.{◌≡◌, ℕ, Bool, true, false, ◌&&◌, List, [], ◌∷◌, refl, ◌⊎◌, inl, inr}
use Rattle.std.specs.Prelude.{◌==◌, not}
use Rattle.std.specs.Char.{is_ascii_digit}
use Rattle.std.specs.List.{list_all}
use Rattle.mg_lex.specs.Line.{is_allowed, is_blank}

-- a byte that a token may have: an allowed one that is no blank and begins no comment
abbrev pub is_token_byte : ℕ → Bool
is_token_byte b = is_allowed b && (not (is_blank b) && not (b == 35))

-- whether the bytes are the letter r and digits
abbrev pub is_sign : List ℕ → Bool
is_sign [] = false
is_sign (b ∷ bs) = (b == 114) && list_all is_ascii_digit bs

-- both of two tests
pub and_true : (a b : Bool) → (a && b) ≡ true → (a ≡ true) × (b ≡ true)
and_true true b both = (refl, both)
and_true false b both = absurd cc

-- a test passes or fails
pub cases_of : (b : Bool) → (b ≡ true) ⊎ (b ≡ false)
cases_of true = inl refl
cases_of false = inr refl

pub true_and : (a b : Bool) → a ≡ true → b ≡ true → (a && b) ≡ true
true_and a b first second = cc
