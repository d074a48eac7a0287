-- A value is a word that clap takes for no option: it is not empty, and doesn't begin with a hyphen.
use Rattle.std.proofs.Common.{◌≡◌, ◌==◌, ◌&&◌, ℕ, Bool, true, false, List, [], ◌∷◌, Some, None, refl, ap, arith, codes}
use Rattle.std.specs.Prelude.{option_and_then, if◌then◌else◌}
use Rattle.std.specs.Char.{is_ascii_digit}
use Rattle.std.specs.List.{list_all}
use Rattle.std.specs.Str.{bytes_eq}
use Rattle.std.proofs.lemmas.Bool.Decides.{nat_tests}
use Rattle.clap.specs.Lexer.{long_of, short_of, long_of_rest, short_of_rest, strip_byte}
use Rattle.mg_lex.specs.Number.{IsNumber}
use Rattle.mg_command.specs.declared.command.PolicyName.{PolicyName}
use Rattle.mg_command.specs.declared.command.PolicyName.TheVariants.{Even, Doubling}
use Rattle.mg_command.specs.Words.{policy_text}

pub record IsPlain (word : List ℕ) : Type 0 where
  pub no_dashes : bytes_eq word (codes "--") ≡ false
  pub no_long : long_of word ≡ None
  pub no_short : short_of word ≡ None

plain_first : (x : ℕ) (xs : List ℕ) → (x == 45) ≡ false → IsPlain (x ∷ xs)
plain_first x xs e = record {
  no_dashes = ap (λ (c : Bool). c && bytes_eq xs (codes "-")) e;
  no_long = ap (λ (c : Bool). option_and_then long_of_rest (option_and_then (strip_byte 45) (if c then Some xs else None))) e;
  no_short = ap (λ (c : Bool). option_and_then short_of_rest (if c then Some xs else None)) e;
}

first_digit : (x : ℕ) → is_ascii_digit x ≡ true → (x == 45) ≡ false
first_digit x e = grind (arith, nat_tests)

first_true : (a b : Bool) → (a && b) ≡ true → a ≡ true
first_true true b e = refl
first_true false b e = e

-- a number is plain
pub number_plain : (text : List ℕ) → IsNumber text → IsPlain text
number_plain [] is = absurd (omega (arith, is.0))
number_plain (x ∷ xs) is = plain_first x xs (first_digit x (first_true (is_ascii_digit x) (list_all is_ascii_digit xs) is.1))

-- the name of a policy is plain
pub policy_plain : (p : PolicyName) → IsPlain (policy_text p)
policy_plain Even = plain_first 101 (codes "ven") refl
policy_plain Doubling = plain_first 100 (codes "oubling") refl
