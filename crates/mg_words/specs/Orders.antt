-- The order of letters is x1 < x1^-1 < x2 and so on; words are compared letter by letter, and lists of
-- words word by word. What compares equal has the same letters.
use Rattle.std.specs.Prelude.{ℤ, List}
use Rattle.std.specs.declared.cmp.Ordering.{Ordering}
use Rattle.std.specs.Ordering.{nat_cmp, bool_cmp, ordering_then, on}
use Rattle.std.specs.Cmp.{IsTotalOrder, then_total, on_total, nat_cmp_total, bool_cmp_total}
use Rattle.std.specs.Cmp.Lexicographic.{slice_cmp, lists_total}
use Rattle.mg_words.specs.Letter.{fields_of}
use Rattle.mg_words.specs.Word.{Held}

abbrev pub letter_cmp : ℤ → ℤ → Ordering
letter_cmp a b = ordering_then (nat_cmp (fields_of a).generator (fields_of b).generator) (bool_cmp (fields_of a).inverse (fields_of b).inverse)

abbrev pub letters_cmp : List ℤ → List ℤ → Ordering
letters_cmp = slice_cmp letter_cmp

abbrev pub word_cmp : Held → Held → Ordering
word_cmp = on (λ w. w.letters) letters_cmp

abbrev pub words_cmp : List (List ℤ) → List (List ℤ) → Ordering
words_cmp = slice_cmp letters_cmp

pub letter_total : IsTotalOrder letter_cmp
letter_total = then_total (on_total (λ z. (fields_of z).generator) nat_cmp_total) (on_total (λ z. (fields_of z).inverse) bool_cmp_total)

pub letters_total : IsTotalOrder letters_cmp
letters_total = lists_total letter_total

pub word_total : IsTotalOrder word_cmp
word_total = on_total (λ w. w.letters) letters_total

pub words_total : IsTotalOrder words_cmp
words_total = lists_total letters_total
