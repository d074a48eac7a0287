-- Laws about digits and the numbers that they write.
use Rattle.std.proofs.Common.{◌≡◌, ℕ, zero, suc, Bool, true, [], ◌∷◌, ◌+◌, ◌*◌, ◌<◌, ◌≤◌, List, length, get_or, take, arith}
use Rattle.std.specs.Char.{is_ascii_digit}
use Rattle.std.specs.Int.{IsInRange}
use Rattle.std.specs.List.{list_all}
use Rattle.std.proofs.lemmas.Bool.Decides.{nat_tests}
use Rattle.std.proofs.lemmas.Int.Digits.{digits_value_more}
use Rattle.std.proofs.lemmas.Str.{digit_value_digit}
use Rattle.std.proofs.lemmas.Str.Parse.{digits_value-take-le}
use Rattle.mg_lex.proofs.Classes.{and_true}
use Rattle.mg_lex.specs.Number.{IsNumber, number_value}

-- a test that every element passes is passed at each place
pub slice_all-at : (p : ℕ → Bool) (xs : List ℕ) (i : ℕ) → i < length xs → list_all p xs ≡ true → p (get_or xs i 0) ≡ true
slice_all-at p [] i within all = absurd (omega arith)
slice_all-at p (x ∷ xs) zero within all = (and_true (p x) (list_all p xs) all).0
slice_all-at p (x ∷ xs) (suc i) within all = slice_all-at p xs i (omega arith) (and_true (p x) (list_all p xs) all).1

-- the code of a digit
digit_in_range : (b : ℕ) → is_ascii_digit b ≡ true → IsInRange 48 57 b
digit_in_range b is = grind (arith, nat_tests)

-- each byte of a number is a digit
pub digit_at : (digits : List ℕ) (i : ℕ) → IsNumber digits → i < length digits → IsInRange 48 57 (get_or digits i 0)
digit_at digits i is within = digit_in_range _ (slice_all-at is_ascii_digit digits i within is.1)

-- one digit more
pub number_value-more : (digits : List ℕ) (i : ℕ) → IsNumber digits → i < length digits → number_value (take (i + 1) digits) + 48 ≡ 10 * number_value (take i digits) + get_or digits i 0
number_value-more digits i is within =
    omega (arith, digits_value_more 10 digits i within, digit_value_digit (get_or digits i 0) (digit_at digits i is within))

-- more digits write no smaller number
pub number_value-grows : (digits : List ℕ) (i : ℕ) → number_value (take i digits) ≤ number_value digits
number_value-grows digits i = digits_value-take-le 10 digits i (omega arith)
