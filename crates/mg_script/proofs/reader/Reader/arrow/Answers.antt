use Rattle.std.proofs.Common.{None, refl}
use Rattle.std.proofs.lemmas.Result.{err_from_is_err_and}
use Rattle.mg_lex.specs.declared.mark.Mark.TheVariants as mark
use Rattle.mg_script.specs.Grammar.{mark_then, word_then}
use Rattle.mg_script.specs.Reader.{any_word}
use Rattle.mg_script.proofs.Steps.{passed_on}
use Rattle.mg_script.proofs.reader.Reader.arrow.Goals as goal

pub returns-in_err-sign-clause-brings : goal.returns-in_err-sign-clause-brings
returns-in_err-sign-clause-brings c = λ s r knows.
    passed_on s r c.sign.new.self c.from_residual.result c.in_err-sign.field-0.0 (err_from_is_err_and c.from_residual.result c.from_residual.ensures.1)
    (c.in_err-sign.ensures.brings s (mark_then mark.Arrow (word_then None None (λ w. r))) knows)

pub returns-in_err-sign-2-clause-brings : goal.returns-in_err-sign-2-clause-brings
returns-in_err-sign-2-clause-brings c = λ s r knows.
    let behind = c.in_ok-sign.ensures.brings s (mark_then mark.Arrow (word_then None None (λ w. r))) knows in
    passed_on s r c.sign-2.new.self c.from_residual-in_err-sign-2.result c.in_err-sign-2.field-0.0
    (err_from_is_err_and c.from_residual-in_err-sign-2.result c.from_residual-in_err-sign-2.ensures.1)
    (c.in_err-sign-2.ensures.brings s (word_then None None (λ w. r)) (rw c.mark.ensures behind))

pub returns-in_err-word-clause-brings : goal.returns-in_err-word-clause-brings
returns-in_err-word-clause-brings c = λ s r knows.
    let behind = c.in_ok-sign.ensures.brings s (mark_then mark.Arrow (word_then None None (λ w. r))) knows in
    let last = c.in_ok-sign-2.ensures.brings s (word_then None None (λ w. r)) (rw c.mark.ensures behind) in
    passed_on s r c.word.new.self c.from_residual-in_err-word.result c.in_err-word.field-0.0
    (err_from_is_err_and c.from_residual-in_err-word.result c.from_residual-in_err-word.ensures.1)
    (c.in_err-word.ensures.brings s None (λ w. r) _ refl (any_word None None (λ w. r)) last)

pub returns-clause-brings : goal.returns-clause-brings
returns-clause-brings c = λ s r knows.
    let behind = c.in_ok-sign.ensures.brings s (mark_then mark.Arrow (word_then None None (λ w. r))) knows in
    let last = c.in_ok-sign-2.ensures.brings s (word_then None None (λ w. r)) (rw c.mark.ensures behind) in
    (c.in_ok-word.ensures.brings s None (λ w. r) _ refl (any_word None None (λ w. r)) last).2
