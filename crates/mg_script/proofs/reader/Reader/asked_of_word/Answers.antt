use Rattle.std.proofs.Common.{None, refl}
use Rattle.std.proofs.lemmas.Result.{err_from_is_err_and}
use Rattle.mg_lex.specs.declared.keyword.Keyword.TheVariants as keyword
use Rattle.mg_script.specs.Grammar.{Rest, end, word_then, either, keyword_then, in_group, in_rest}
use Rattle.mg_script.specs.Reader.{any_word}
use Rattle.mg_script.proofs.Steps.{went_first, went_second, passed_on}
use Rattle.mg_script.proofs.reader.Reader.asked_of_word.Goals as goal

abbrev equal_rest : Rest
equal_rest = word_then None None (λ v. in_group)

abbrev central_rest : Rest
central_rest = keyword_then keyword.Central in_group

abbrev others_rest : Rest
others_rest = either (keyword_then keyword.In in_rest) central_rest

pub returns-in_err-word : goal.returns-in_err-word
returns-in_err-word c = λ s knows.
    let first = went_first s equal_rest others_rest c.takes.new.self c.takes.result (c.takes.ensures.chooses s equal_rest others_rest knows) c.if-takes.true in
    passed_on s end c.word.new.self c.from_residual.result c.in_err-word.field-0.0 (err_from_is_err_and c.from_residual.result c.from_residual.ensures.1)
    (c.in_err-word.ensures.brings s None (λ v. in_group) _ refl (any_word None None (λ v. in_group)) first)

pub returns-in_ok-word : goal.returns-in_ok-word
returns-in_ok-word c = λ s knows.
    let first = went_first s equal_rest others_rest c.takes.new.self c.takes.result (c.takes.ensures.chooses s equal_rest others_rest knows) c.if-takes.true in
    let word = c.in_ok-word.ensures.brings s None (λ v. in_group) _ refl (any_word None None (λ v. in_group)) first in
    let after = word.2 in
    c.signs.ensures.brings s end (rw c.keyword.ensures after)

pub returns-then-takes_keyword : goal.returns-then-takes_keyword
returns-then-takes_keyword c = λ s knows.
    let k = c.takes_keyword in
    let other = went_second s equal_rest others_rest c.takes.new.self c.takes.result (c.takes.ensures.chooses s equal_rest others_rest knows) c.if-takes.false in
    c.asked_in.ensures s (went_first s in_rest central_rest k.new.self k.result (k.ensures.chooses s in_rest central_rest other) c.if-takes_keyword.true)

pub returns-else-takes_keyword : goal.returns-else-takes_keyword
returns-else-takes_keyword c = λ s knows.
    let k = c.takes_keyword in
    let other = went_second s equal_rest others_rest c.takes.new.self c.takes.result (c.takes.ensures.chooses s equal_rest others_rest knows) c.if-takes.false in
    let last = went_second s in_rest central_rest k.new.self k.result (k.ensures.chooses s in_rest central_rest other) c.if-takes_keyword.false in
    c.signs-else-takes_keyword.ensures.brings s end (rw (c.keyword-else-takes_keyword.ensures, c.keyword-else-takes_keyword-2.ensures) last)
