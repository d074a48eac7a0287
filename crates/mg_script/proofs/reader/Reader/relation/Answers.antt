use Rattle.std.proofs.Common.{Some, None, refl}
use Rattle.std.proofs.lemmas.Result.{err_from_is_err_and}
use Rattle.mg_lex.specs.declared.mark.Mark.TheVariants as mark
use Rattle.mg_terms.specs.Word.{Word}
use Rattle.mg_script.specs.Grammar.{Rest, either, mark_then, word_then}
use Rattle.mg_script.specs.declared.counted.Counted.TheVariants as counted
use Rattle.mg_script.specs.Reader.{any_word}
use Rattle.mg_script.proofs.Steps.{passed_on}
use Rattle.mg_script.proofs.reader.Reader.relation.Goals as goal

-- behind the equals sign, and behind the left side
abbrev right_side : Rest → Word → Rest
right_side r u = word_then None (Some u) (λ v. r)

abbrev behind_left : Rest → Word → Rest
behind_left r u = either (mark_then mark.Equals (right_side r u)) r

pub returns-in_err-left-clause-brings : goal.returns-in_err-left-clause-brings
returns-in_err-left-clause-brings c = λ s r knows.
    passed_on s r c.word.new.self c.from_residual.result c.in_err-left.field-0.0 (err_from_is_err_and c.from_residual.result c.from_residual.ensures.1)
    (c.in_err-left.ensures.brings s None (behind_left r) _ refl (any_word (Some counted.Relators) None (behind_left r)) knows)

pub returns-in_err-word-clause-brings : goal.returns-in_err-word-clause-brings
returns-in_err-word-clause-brings c = λ s r knows.
    let h = c.in_ok-left.ensures.brings s None (behind_left r) _ refl (any_word (Some counted.Relators) None (behind_left r)) knows in
    let second = c.if-takes.ensures.chooses s (right_side r h.0) r h.2 in
    passed_on s r c.word-then-takes.new.self c.from_residual-in_err-word.result c.in_err-word.field-0.0
    (err_from_is_err_and c.from_residual-in_err-word.result c.from_residual-in_err-word.ensures.1)
    (c.in_err-word.ensures.brings s (Some h.0) (λ v. r) _ (h.0, refl, h.1.1) (any_word None (Some h.0) (λ v. r)) second)

pub returns-in_ok-word-clause-brings : goal.returns-in_ok-word-clause-brings
returns-in_ok-word-clause-brings c = λ s r knows.
    let h = c.in_ok-left.ensures.brings s None (behind_left r) _ refl (any_word (Some counted.Relators) None (behind_left r)) knows in
    let second = c.if-takes.ensures.chooses s (right_side r h.0) r h.2 in
    (c.in_ok-word.ensures.brings s (Some h.0) (λ v. r) _ (h.0, refl, h.1.1) (any_word None (Some h.0) (λ v. r)) second).2

pub returns-else-takes-clause-brings : goal.returns-else-takes-clause-brings
returns-else-takes-clause-brings c = λ s r knows.
    let h = c.in_ok-left.ensures.brings s None (behind_left r) _ refl (any_word (Some counted.Relators) None (behind_left r)) knows in
    c.if-takes.ensures.chooses s (right_side r h.0) r h.2
