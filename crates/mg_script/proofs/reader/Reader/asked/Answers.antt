use Rattle.std.proofs.Common.{None, refl}
use Rattle.std.proofs.lemmas.Result.{err_from_is_err_and}
use Rattle.mg_script.specs.Grammar.{end, words_rest, asked_rest}
use Rattle.mg_script.specs.Reader.{no_property}
use Rattle.mg_script.proofs.Steps.{is_not, is_so, passed_on}
use Rattle.mg_script.proofs.Names.{name_taken}
use Rattle.mg_script.proofs.reader.Reader.asked.Goals as goal

pub returns-then-is_property_next : goal.returns-then-is_property_next
returns-then-is_property_next c = λ s knows.
    name_taken s c.args.self.now knows (is_so c.is_property_next.result c.if-is_property_next.true c.is_property_next.ensures.next)

pub returns-in_err-word : goal.returns-in_err-word
returns-in_err-word c = λ s knows.
    let apart = is_not c.is_property_next.result c.if-is_property_next.false c.is_property_next.ensures.next in
    passed_on s end c.word.new.self c.from_residual.result c.in_err-word.field-0.0 (err_from_is_err_and c.from_residual.result c.from_residual.ensures.1)
    (c.in_err-word.ensures.brings s None (λ w. words_rest) asked_rest refl (no_property apart) knows)

pub returns : goal.returns
returns c = λ s knows.
    let apart = is_not c.is_property_next.result c.if-is_property_next.false c.is_property_next.ensures.next in
    c.asked_of_word.ensures s (c.in_ok-word.ensures.brings s None (λ w. words_rest) asked_rest refl (no_property apart) knows).2
