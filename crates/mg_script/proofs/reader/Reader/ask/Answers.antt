use Rattle.std.proofs.lemmas.Result.{err_from_is_err_and}
use Rattle.mg_script.specs.Grammar.{end, asked_rest}
use Rattle.mg_script.proofs.Steps.{passed_on}
use Rattle.mg_script.proofs.reader.Reader.ask.Goals as goal

pub returns-in_err-signs : goal.returns-in_err-signs
returns-in_err-signs c = λ s knows.
    passed_on s end c.signs.new.self c.from_residual.result c.in_err-signs.field-0.0 (err_from_is_err_and c.from_residual.result c.from_residual.ensures.1)
    (c.in_err-signs.ensures.brings s asked_rest (rw (c.counted_name.ensures, c.mark.ensures) knows))

pub returns : goal.returns
returns c = λ s knows.
    c.asked.ensures s (c.in_ok-signs.ensures.brings s asked_rest (rw (c.counted_name.ensures, c.mark.ensures) knows))
