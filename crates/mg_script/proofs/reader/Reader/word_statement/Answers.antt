use Rattle.std.proofs.Common.{None, refl}
use Rattle.std.proofs.lemmas.Result.{err_from_is_err_and}
use Rattle.mg_script.specs.Grammar.{Rest, end, word_then}
use Rattle.mg_script.specs.Reader.{any_word}
use Rattle.mg_script.proofs.Steps.{passed_on}
use Rattle.mg_script.proofs.reader.Reader.word_statement.Goals as goal

abbrev value_rest : Rest
value_rest = word_then None None (λ w. end)

pub returns-in_err-signs : goal.returns-in_err-signs
returns-in_err-signs c = λ s knows.
    passed_on s end c.signs.new.self c.from_residual.result c.in_err-signs.field-0.0 (err_from_is_err_and c.from_residual.result c.from_residual.ensures.1)
    (c.in_err-signs.ensures.brings s value_rest (rw (c.counted_name.ensures, c.keyword.ensures, c.mark.ensures) knows))

pub returns-in_err-word : goal.returns-in_err-word
returns-in_err-word c = λ s knows.
    let after = c.in_ok-signs.ensures.brings s value_rest (rw (c.counted_name.ensures, c.keyword.ensures, c.mark.ensures) knows) in
    passed_on s end c.word.new.self c.from_residual-in_err-word.result c.in_err-word.field-0.0
    (err_from_is_err_and c.from_residual-in_err-word.result c.from_residual-in_err-word.ensures.1)
    (c.in_err-word.ensures.brings s None (λ w. end) _ refl (any_word None None (λ w. end)) after)

pub returns : goal.returns
returns c = λ s knows.
    let after = c.in_ok-signs.ensures.brings s value_rest (rw (c.counted_name.ensures, c.keyword.ensures, c.mark.ensures) knows) in
    (c.in_ok-word.ensures.brings s None (λ w. end) _ refl (any_word None None (λ w. end)) after).2
