use Rattle.std.proofs.Common.{◌≡◌, ℕ, ◌<◌, length, false, true, get_or, take, subst, sym, rules}
use Rattle.std.specs.List.{prefix_len}
use Rattle.std.specs.Char.{is_ascii_alphabetic, is_ascii_digit}
use Rattle.mg_lex.specs.Token.{is_word_byte, IsWord, IsToken}
use Rattle.mg_lex.specs.Line.{IsLongest}
use Rattle.mg_lex.proofs.Words.{word_at_front, word_is_longest, number_is_longest, mark_is_longest, none_begins}
use Rattle.mg_lex.proofs.front.longest_token.Goals as goal

pub word_kind-requires : goal.word_kind-requires
word_kind-requires c =
    let some : 0 < length c.args.bytes.now = search rules in
    let letter : is_ascii_alphabetic (get_or c.args.bytes.now 0 0) ≡ true = search rules in
    subst (λ (n : ℕ). IsWord (take n c.args.bytes.now)) (sym c.word_length-length.ensures) (word_at_front c.args.bytes.now some letter)

pub returns-then-is_ascii_alphabetic-clause-some : goal.returns-then-is_ascii_alphabetic-clause-some
returns-then-is_ascii_alphabetic-clause-some c =
    let some : 0 < length c.args.bytes.now = search rules in
    let letter : is_ascii_alphabetic (get_or c.args.bytes.now 0 0) ≡ true = search rules in
    let is : IsToken c.word_kind.result (take (prefix_len is_word_byte c.args.bytes.now) c.args.bytes.now) =
    subst (λ (n : ℕ). IsToken c.word_kind.result (take n c.args.bytes.now)) c.word_length-length.ensures c.word_kind.ensures in
    subst (IsLongest c.args.bytes.now c.word_kind.result) (sym c.word_length-length.ensures) (word_is_longest c.word_kind.result c.args.bytes.now some letter is)

pub returns-then-is_ascii_digit-clause-some : goal.returns-then-is_ascii_digit-clause-some
returns-then-is_ascii_digit-clause-some c =
    let some : 0 < length c.args.bytes.now = search rules in
    let digit : is_ascii_digit (get_or c.args.bytes.now 0 0) ≡ true = search rules in
    subst (IsLongest c.args.bytes.now _) (sym c.digits_length.ensures) (number_is_longest c.args.bytes.now some digit)

pub returns-in-Some-clause-some : goal.returns-in-Some-clause-some
returns-in-Some-clause-some c =
    let no_letter : is_ascii_alphabetic (get_or c.args.bytes.now 0 0) ≡ false = search rules in
    let no_digit : is_ascii_digit (get_or c.args.bytes.now 0 0) ≡ false = search rules in
    mark_is_longest c.args.bytes.now c.in-Some.length no_letter no_digit c.in-Some.ensures.some

pub returns-in-None-clause-none : goal.returns-in-None-clause-none
returns-in-None-clause-none c =
    let no_letter : is_ascii_alphabetic (get_or c.args.bytes.now 0 0) ≡ false = search rules in
    let no_digit : is_ascii_digit (get_or c.args.bytes.now 0 0) ≡ false = search rules in
    none_begins c.args.bytes.now no_letter no_digit c.in-None.ensures.none
