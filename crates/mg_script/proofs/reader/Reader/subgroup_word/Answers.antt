use Rattle.std.proofs.Common.{Some, None, refl}
use Rattle.std.proofs.lemmas.Result.{err_from_is_err_and}
use Rattle.mg_script.specs.declared.counted.Counted.TheVariants as counted
use Rattle.mg_script.specs.Reader.{any_word}
use Rattle.mg_script.proofs.Steps.{passed_on}
use Rattle.mg_script.proofs.reader.Reader.subgroup_word.Goals as goal

pub returns-in_err-word-clause-brings : goal.returns-in_err-word-clause-brings
returns-in_err-word-clause-brings c = λ s r knows.
    passed_on s r c.word.new.self c.from_residual.result c.in_err-word.field-0.0 (err_from_is_err_and c.from_residual.result c.from_residual.ensures.1)
    (c.in_err-word.ensures.brings s None (λ w. r) _ refl (any_word (Some counted.Members) None (λ w. r)) knows)

pub returns-clause-brings : goal.returns-clause-brings
returns-clause-brings c = λ s r knows.
    (c.in_ok-word.ensures.brings s None (λ w. r) _ refl (any_word (Some counted.Members) None (λ w. r)) knows).2
