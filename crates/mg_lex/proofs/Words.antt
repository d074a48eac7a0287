-- Laws about tokens: with which byte each kind begins, which bytes it has, and that a token has one kind.
use Rattle.std.proofs.Common.{◌≡◌, ℕ, zero, suc, ◌+◌, ◌<◌, ◌≤◌, Bool, true, false, cond, List, [], ◌∷◌, length, get_or, take, refl, sym, subst, arith, lit≤, length-take-le}
use Rattle.std.specs.Char.{is_ascii_alphabetic, is_ascii_digit}
use Rattle.std.specs.List.{list_all, prefix_len}
use Rattle.std.proofs.lemmas.Bool.Decides.{nat_tests}
use Rattle.std.proofs.lemmas.List.Sums.{prefix_len-le-length}
use Rattle.mg_lex.specs.declared.mark.Mark.{Mark}
use Rattle.mg_lex.specs.declared.mark.Mark.TheVariants as mark
use Rattle.mg_lex.specs.declared.token.TokenKind.{TokenKind}
use Rattle.mg_lex.specs.declared.token.TokenKind.TheVariants as kind
use Rattle.mg_lex.specs.Keyword.{IsKeyword}
use Rattle.mg_lex.specs.Mark.{mark_text, IsMark, IsLongestMark}
use Rattle.mg_lex.specs.Number.{IsNumber}
use Rattle.mg_lex.specs.Token.{is_word_byte, IsWord, IsRelatorSign, IsToken}
use Rattle.mg_lex.specs.Line.{IsLongest, BeginsNone}
use Rattle.mg_lex.proofs.Keywords.{KeywordForm, keyword_form}
use Rattle.mg_lex.proofs.Classes.{is_token_byte, is_sign, and_true, true_and}

-- A mark: one or two bytes, the first neither a letter nor a digit.
pub record MarkForm (bytes : List ℕ) : Type 0 where
  pub bounds : (1 ≤ length bytes) × (length bytes ≤ 2)
  pub no_letter : is_ascii_alphabetic (get_or bytes 0 0) ≡ false
  pub no_digit : is_ascii_digit (get_or bytes 0 0) ≡ false
  pub bytes_of_tokens : list_all is_token_byte bytes ≡ true

pub mark_form : (m : Mark) → MarkForm (mark_text m)
mark_form mark.Less = record { bounds = (lit≤ tt, lit≤ tt); no_letter = refl; no_digit = refl; bytes_of_tokens = refl }
mark_form mark.Greater = record { bounds = (lit≤ tt, lit≤ tt); no_letter = refl; no_digit = refl; bytes_of_tokens = refl }
mark_form mark.Comma = record { bounds = (lit≤ tt, lit≤ tt); no_letter = refl; no_digit = refl; bytes_of_tokens = refl }
mark_form mark.Bar = record { bounds = (lit≤ tt, lit≤ tt); no_letter = refl; no_digit = refl; bytes_of_tokens = refl }
mark_form mark.Equals = record { bounds = (lit≤ tt, lit≤ tt); no_letter = refl; no_digit = refl; bytes_of_tokens = refl }
mark_form mark.Caret = record { bounds = (lit≤ tt, lit≤ tt); no_letter = refl; no_digit = refl; bytes_of_tokens = refl }
mark_form mark.OpenRound = record { bounds = (lit≤ tt, lit≤ tt); no_letter = refl; no_digit = refl; bytes_of_tokens = refl }
mark_form mark.CloseRound = record { bounds = (lit≤ tt, lit≤ tt); no_letter = refl; no_digit = refl; bytes_of_tokens = refl }
mark_form mark.OpenSquare = record { bounds = (lit≤ tt, lit≤ tt); no_letter = refl; no_digit = refl; bytes_of_tokens = refl }
mark_form mark.CloseSquare = record { bounds = (lit≤ tt, lit≤ tt); no_letter = refl; no_digit = refl; bytes_of_tokens = refl }
mark_form mark.Colon = record { bounds = (lit≤ tt, lit≤ tt); no_letter = refl; no_digit = refl; bytes_of_tokens = refl }
mark_form mark.Semicolon = record { bounds = (lit≤ tt, lit≤ tt); no_letter = refl; no_digit = refl; bytes_of_tokens = refl }
mark_form mark.Star = record { bounds = (lit≤ tt, lit≤ tt); no_letter = refl; no_digit = refl; bytes_of_tokens = refl }
mark_form mark.Minus = record { bounds = (lit≤ tt, lit≤ tt); no_letter = refl; no_digit = refl; bytes_of_tokens = refl }
mark_form mark.Arrow = record { bounds = (lit≤ tt, lit≤ tt); no_letter = refl; no_digit = refl; bytes_of_tokens = refl }

-- what a mark is made of
pub mark_is : (bytes : List ℕ) → IsMark bytes → MarkForm bytes
mark_is bytes is = subst MarkForm is.1 (mark_form is.0)

keyword_is : (bytes : List ℕ) → IsKeyword bytes → KeywordForm bytes
keyword_is bytes is = subst KeywordForm is.1 (keyword_form is.0)

-- a test that implies another, on each element
list_all-weaker : (p q : ℕ → Bool) → ((b : ℕ) → p b ≡ true → q b ≡ true) → (xs : List ℕ) → list_all p xs ≡ true → list_all q xs ≡ true
list_all-weaker p q implies [] all = refl
list_all-weaker p q implies (x ∷ xs) all =
    let both = and_true (p x) (list_all p xs) all in
    true_and (q x) (list_all q xs) (implies x both.0) (list_all-weaker p q implies xs both.1)

prefix_step : (p : ℕ → Bool) (x : ℕ) (xs : List ℕ) (b : Bool) → p x ≡ b → list_all p (take (prefix_len p xs) xs) ≡ true → list_all p (take (cond b (1 + prefix_len p xs) 0) (x ∷ xs)) ≡ true
prefix_step p x xs true passes all =
    let more : suc (prefix_len p xs) ≡ 1 + prefix_len p xs = omega arith in
    subst (λ (n : ℕ). list_all p (take n (x ∷ xs)) ≡ true) more (true_and (p x) (list_all p (take (prefix_len p xs) xs)) passes all)
prefix_step p x xs false fails all = refl

-- the elements at the front that pass a test all pass it
pub list_all-prefix : (p : ℕ → Bool) (xs : List ℕ) → list_all p (take (prefix_len p xs) xs) ≡ true
list_all-prefix p [] = refl
list_all-prefix p (x ∷ xs) = prefix_step p x xs (p x) refl (list_all-prefix p xs)

-- and no longer front does
pub prefix_len-longest : (p : ℕ → Bool) (xs : List ℕ) (n : ℕ) → n ≤ length xs → list_all p (take n xs) ≡ true → n ≤ prefix_len p xs
prefix_len-longest p xs zero within all = omega arith
prefix_len-longest p [] (suc n) within all = within
prefix_len-longest p (x ∷ xs) (suc n) within all =
    let both = and_true (p x) (list_all p (take n xs)) all in
    let shorter = prefix_len-longest p xs n (omega arith) both.1 in
    rw both.0 (omega arith)

-- What a relator sign is made of.
pub record SignForm (bytes : List ℕ) : Type 0 where
  pub word : IsWord bytes
  pub sign : is_sign bytes ≡ true

digit_in_word : (b : ℕ) → is_ascii_digit b ≡ true → is_word_byte b ≡ true
digit_in_word b is = grind (arith, nat_tests)

sign_is : (bytes : List ℕ) → IsRelatorSign bytes → SignForm bytes
sign_is bytes is =
    subst SignForm (sym is.1) (record { word = (refl, list_all-weaker is_ascii_digit is_word_byte digit_in_word is.0 is.2.1); sign = is.2.1 })

-- a letter is no digit
letter_no_digit : (b : ℕ) → is_ascii_alphabetic b ≡ true → is_ascii_digit b ≡ true → ⊥
letter_no_digit b letter digit = grind (arith, nat_tests)

-- what begins with a letter and what begins with a digit are two things
word_no_number : (b : ℕ) (bs : List ℕ) → IsWord (b ∷ bs) → is_ascii_digit b ≡ true → ⊥
word_no_number b bs word digit = letter_no_digit b word.0 digit

digit_of_number : (b : ℕ) (bs : List ℕ) → IsNumber (b ∷ bs) → is_ascii_digit b ≡ true
digit_of_number b bs is = (and_true (is_ascii_digit b) (list_all is_ascii_digit bs) is.1).0

-- a token that begins with a letter is a word
pub word_from_letter : (k : TokenKind) (b : ℕ) (bs : List ℕ) → IsToken k (b ∷ bs) → is_ascii_alphabetic b ≡ true → IsWord (b ∷ bs)
word_from_letter kind.Name b bs is letter = is.word
word_from_letter kind.Keyword b bs is letter = (keyword_is (b ∷ bs) is).word
word_from_letter kind.RelatorSign b bs is letter = (sign_is (b ∷ bs) is).word
word_from_letter kind.Number b bs is letter = absurd (letter_no_digit b letter (digit_of_number b bs is))
word_from_letter kind.Mark b bs is letter = let form = mark_is (b ∷ bs) is in absurd cc

-- a token that begins with a digit is a number
pub number_from_digit : (k : TokenKind) (b : ℕ) (bs : List ℕ) → IsToken k (b ∷ bs) → is_ascii_digit b ≡ true → IsNumber (b ∷ bs)
number_from_digit kind.Name b bs is digit = absurd (word_no_number b bs is.word digit)
number_from_digit kind.Keyword b bs is digit = absurd (word_no_number b bs (keyword_is (b ∷ bs) is).word digit)
number_from_digit kind.RelatorSign b bs is digit = absurd (word_no_number b bs (sign_is (b ∷ bs) is).word digit)
number_from_digit kind.Number b bs is digit = is
number_from_digit kind.Mark b bs is digit = let form = mark_is (b ∷ bs) is in absurd cc

-- any other token is a mark
pub mark_from_other : (k : TokenKind) (b : ℕ) (bs : List ℕ) → IsToken k (b ∷ bs) → is_ascii_alphabetic b ≡ false → is_ascii_digit b ≡ false → IsMark (b ∷ bs)
mark_from_other kind.Name b bs is no_letter no_digit = let letter = is.word.0 in absurd cc
mark_from_other kind.Keyword b bs is no_letter no_digit = let letter = (keyword_is (b ∷ bs) is).word.0 in absurd cc
mark_from_other kind.RelatorSign b bs is no_letter no_digit = let letter = (sign_is (b ∷ bs) is).word.0 in absurd cc
mark_from_other kind.Number b bs is no_letter no_digit = let digit = digit_of_number b bs is in absurd cc
mark_from_other kind.Mark b bs is no_letter no_digit = is

-- a token has a byte
pub token_nonempty : (k : TokenKind) → IsToken k [] → ⊥
token_nonempty kind.Name is = is.word
token_nonempty kind.Keyword is = (keyword_is [] is).word
token_nonempty kind.RelatorSign is = (sign_is [] is).word
token_nonempty kind.Number is = omega (arith, is.0)
token_nonempty kind.Mark is = let form = mark_is [] is in omega (arith, form.bounds)

letter_in_word : (b : ℕ) → is_ascii_alphabetic b ≡ true → is_word_byte b ≡ true
letter_in_word b is = grind (arith, nat_tests)

letter_in_token : (b : ℕ) → is_ascii_alphabetic b ≡ true → is_token_byte b ≡ true
letter_in_token b is = grind (arith, nat_tests)

word_byte_in_token : (b : ℕ) → is_word_byte b ≡ true → is_token_byte b ≡ true
word_byte_in_token b is = grind (arith, nat_tests)

word_bytes : (bs : List ℕ) → IsWord bs → list_all is_token_byte bs ≡ true
word_bytes [] is = absurd is
word_bytes (b ∷ bs) is =
    true_and (is_token_byte b) (list_all is_token_byte bs) (letter_in_token b is.0) (list_all-weaker is_word_byte is_token_byte word_byte_in_token bs is.1)

digit_in_token : (b : ℕ) → is_ascii_digit b ≡ true → is_token_byte b ≡ true
digit_in_token b is = grind (arith, nat_tests)

-- a token has allowed bytes alone, no blank and no comment's sign
pub token_bytes_are : (k : TokenKind) (bs : List ℕ) → IsToken k bs → list_all is_token_byte bs ≡ true
token_bytes_are kind.Name bs is = word_bytes bs is.word
token_bytes_are kind.Keyword bs is = word_bytes bs (keyword_is bs is).word
token_bytes_are kind.RelatorSign bs is = word_bytes bs (sign_is bs is).word
token_bytes_are kind.Number bs is = list_all-weaker is_ascii_digit is_token_byte digit_in_token bs is.1
token_bytes_are kind.Mark bs is = (mark_is bs is).bytes_of_tokens

number_no_mark : (bs : List ℕ) → IsNumber bs → IsMark bs → ⊥
number_no_mark [] number mark = omega (arith, number.0)
number_no_mark (b ∷ bs) number mark = let digit = digit_of_number b bs number in let form = mark_is (b ∷ bs) mark in cc

word_is_no_number : (bs : List ℕ) → IsWord bs → IsNumber bs → ⊥
word_is_no_number [] word number = word
word_is_no_number (b ∷ bs) word number = word_no_number b bs word (digit_of_number b bs number)

word_is_no_mark : (bs : List ℕ) → IsWord bs → IsMark bs → ⊥
word_is_no_mark [] word mark = word
word_is_no_mark (b ∷ bs) word mark = let letter = word.0 in let form = mark_is (b ∷ bs) mark in cc

keyword_no_sign : (bs : List ℕ) → IsKeyword bs → IsRelatorSign bs → ⊥
keyword_no_sign bs keyword sign = let form = keyword_is bs keyword in let other = sign_is bs sign in cc

-- a token has one kind
pub one_kind : (j k : TokenKind) (bs : List ℕ) → IsToken j bs → IsToken k bs → j ≡ k
one_kind kind.Name kind.Name bs is other = refl
one_kind kind.Name kind.Keyword bs is other = absurd (is.no_keyword other)
one_kind kind.Name kind.RelatorSign bs is other = absurd (is.no_sign other)
one_kind kind.Name kind.Number bs is other = absurd (word_is_no_number bs is.word other)
one_kind kind.Name kind.Mark bs is other = absurd (word_is_no_mark bs is.word other)
one_kind kind.Keyword kind.Name bs is other = absurd (other.no_keyword is)
one_kind kind.Keyword kind.Keyword bs is other = refl
one_kind kind.Keyword kind.RelatorSign bs is other = absurd (keyword_no_sign bs is other)
one_kind kind.Keyword kind.Number bs is other = absurd (word_is_no_number bs (keyword_is bs is).word other)
one_kind kind.Keyword kind.Mark bs is other = absurd (word_is_no_mark bs (keyword_is bs is).word other)
one_kind kind.RelatorSign kind.Name bs is other = absurd (other.no_sign is)
one_kind kind.RelatorSign kind.Keyword bs is other = absurd (keyword_no_sign bs other is)
one_kind kind.RelatorSign kind.RelatorSign bs is other = refl
one_kind kind.RelatorSign kind.Number bs is other = absurd (word_is_no_number bs (sign_is bs is).word other)
one_kind kind.RelatorSign kind.Mark bs is other = absurd (word_is_no_mark bs (sign_is bs is).word other)
one_kind kind.Number kind.Name bs is other = absurd (word_is_no_number bs other.word is)
one_kind kind.Number kind.Keyword bs is other = absurd (word_is_no_number bs (keyword_is bs other).word is)
one_kind kind.Number kind.RelatorSign bs is other = absurd (word_is_no_number bs (sign_is bs other).word is)
one_kind kind.Number kind.Number bs is other = refl
one_kind kind.Number kind.Mark bs is other = absurd (number_no_mark bs is other)
one_kind kind.Mark kind.Name bs is other = absurd (word_is_no_mark bs other.word is)
one_kind kind.Mark kind.Keyword bs is other = absurd (word_is_no_mark bs (keyword_is bs other).word is)
one_kind kind.Mark kind.RelatorSign bs is other = absurd (word_is_no_mark bs (sign_is bs other).word is)
one_kind kind.Mark kind.Number bs is other = absurd (number_no_mark bs other is)
one_kind kind.Mark kind.Mark bs is other = refl

-- the longest mark at the front, where it is one of two bytes, or one of one byte
pub two_bytes_longest : (bytes : List ℕ) (n : ℕ) → n ≤ length bytes → IsMark (take n bytes) → n ≤ 2
two_bytes_longest bytes n within is = let form = mark_is (take n bytes) is in omega (arith, form.bounds, length-take-le n bytes within)

pub one_byte_longest : (bytes : List ℕ) → ((2 ≤ length bytes) × IsMark (take 2 bytes) → ⊥) → (n : ℕ) → n ≤ length bytes → IsMark (take n bytes) → n ≤ 1
one_byte_longest bytes no_two zero within is = omega arith
one_byte_longest bytes no_two (suc zero) within is = omega arith
one_byte_longest bytes no_two (suc (suc zero)) within is = absurd (no_two (within, is))
one_byte_longest bytes no_two (suc (suc (suc n))) within is = absurd (omega (arith, two_bytes_longest bytes (suc (suc (suc n))) within is))

pub no_mark : (bytes : List ℕ) → ((2 ≤ length bytes) × IsMark (take 2 bytes) → ⊥) → ((1 ≤ length bytes) × IsMark (take 1 bytes) → ⊥) → (n : ℕ) → n ≤ length bytes → IsMark (take n bytes) → ⊥
no_mark bytes no_two no_one zero within is = let form = mark_is [] is in omega (arith, form.bounds)
no_mark bytes no_two no_one (suc zero) within is = no_one (within, is)
no_mark bytes no_two no_one (suc (suc n)) within is = omega (arith, one_byte_longest bytes no_two (suc (suc n)) within is)

-- a token at the front of bytes that begin with a letter has word bytes alone
word_front : (k : TokenKind) (bytes : List ℕ) (n : ℕ) → is_ascii_alphabetic (get_or bytes 0 0) ≡ true → n ≤ length bytes → IsToken k (take n bytes) → list_all is_word_byte (take n bytes) ≡ true
word_front k bytes zero letter within is = refl
word_front k [] (suc n) letter within is = refl
word_front k (b ∷ bs) (suc n) letter within is =
    let word = word_from_letter k b (take n bs) is letter in
    true_and (is_word_byte b) (list_all is_word_byte (take n bs)) (letter_in_word b word.0) word.1

-- and of bytes that begin with a digit, digits alone
number_front : (k : TokenKind) (bytes : List ℕ) (n : ℕ) → is_ascii_digit (get_or bytes 0 0) ≡ true → n ≤ length bytes → IsToken k (take n bytes) → list_all is_ascii_digit (take n bytes) ≡ true
number_front k bytes zero digit within is = refl
number_front k [] (suc n) digit within is = refl
number_front k (b ∷ bs) (suc n) digit within is = (number_from_digit k b (take n bs) is digit).1

-- and is a mark where they begin with neither
mark_front : (k : TokenKind) (bytes : List ℕ) (n : ℕ) → is_ascii_alphabetic (get_or bytes 0 0) ≡ false → is_ascii_digit (get_or bytes 0 0) ≡ false → n ≤ length bytes → IsToken k (take n bytes) → IsMark (take n bytes)
mark_front k bytes zero no_letter no_digit within is = absurd (token_nonempty k is)
mark_front k [] (suc n) no_letter no_digit within is = absurd (token_nonempty k is)
mark_front k (b ∷ bs) (suc n) no_letter no_digit within is = mark_from_other k b (take n bs) is no_letter no_digit

prefix_len-more : (p : ℕ → Bool) (x : ℕ) (xs : List ℕ) → p x ≡ true → prefix_len p (x ∷ xs) ≡ suc (prefix_len p xs)
prefix_len-more p x xs passes = rw passes (omega arith)

digits_at_front : (bytes : List ℕ) → 0 < length bytes → is_ascii_digit (get_or bytes 0 0) ≡ true → 0 < length (take (prefix_len is_ascii_digit bytes) bytes)
digits_at_front [] within digit = absurd (omega arith)
digits_at_front (b ∷ bs) within digit =
    omega (arith, length-take-le (prefix_len is_ascii_digit (b ∷ bs)) (b ∷ bs) (prefix_len-le-length is_ascii_digit (b ∷ bs)), prefix_len-more is_ascii_digit b bs digit)

-- the word at the front
pub word_at_front : (bytes : List ℕ) → 0 < length bytes → is_ascii_alphabetic (get_or bytes 0 0) ≡ true → IsWord (take (prefix_len is_word_byte bytes) bytes)
word_at_front [] within letter = absurd (omega arith)
word_at_front (b ∷ bs) within letter =
    subst (λ (n : ℕ). IsWord (take n (b ∷ bs))) (sym (prefix_len-more is_word_byte b bs (letter_in_word b letter))) (letter, list_all-prefix is_word_byte bs)

pub word_is_longest : (k : TokenKind) (bytes : List ℕ) → 0 < length bytes → is_ascii_alphabetic (get_or bytes 0 0) ≡ true → IsToken k (take (prefix_len is_word_byte bytes) bytes) → IsLongest bytes k (prefix_len is_word_byte bytes)
word_is_longest k bytes within letter is = record {
  within = prefix_len-le-length is_word_byte bytes;
  token = is;
  longest = λ j n in_bytes other. prefix_len-longest is_word_byte bytes n in_bytes (word_front j bytes n letter in_bytes other);
}

pub number_is_longest : (bytes : List ℕ) → 0 < length bytes → is_ascii_digit (get_or bytes 0 0) ≡ true → IsLongest bytes kind.Number (prefix_len is_ascii_digit bytes)
number_is_longest bytes within digit = record {
  within = prefix_len-le-length is_ascii_digit bytes;
  token = (digits_at_front bytes within digit, list_all-prefix is_ascii_digit bytes);
  longest = λ j n in_bytes other. prefix_len-longest is_ascii_digit bytes n in_bytes (number_front j bytes n digit in_bytes other);
}

pub mark_is_longest : (bytes : List ℕ) (len : ℕ) → is_ascii_alphabetic (get_or bytes 0 0) ≡ false → is_ascii_digit (get_or bytes 0 0) ≡ false → IsLongestMark bytes len → IsLongest bytes kind.Mark len
mark_is_longest bytes len no_letter no_digit is = record {
  within = is.within;
  token = is.mark;
  longest = λ j n in_bytes other. is.longest n in_bytes (mark_front j bytes n no_letter no_digit in_bytes other);
}

pub none_begins : (bytes : List ℕ) → is_ascii_alphabetic (get_or bytes 0 0) ≡ false → is_ascii_digit (get_or bytes 0 0) ≡ false → ((n : ℕ) → n ≤ length bytes → IsMark (take n bytes) → ⊥) → BeginsNone bytes
none_begins bytes no_letter no_digit no_mark = λ k n in_bytes is. no_mark n in_bytes (mark_front k bytes n no_letter no_digit in_bytes is)
