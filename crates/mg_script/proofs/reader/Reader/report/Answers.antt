use Rattle.std.proofs.lemmas.Result.{err_from_is_err_and}
use Rattle.mg_script.specs.Grammar.{end, report_rest}
use Rattle.mg_script.proofs.Steps.{passed_on}
use Rattle.mg_script.proofs.reader.Reader.report.Goals as goal

pub returns-in_err-sign : goal.returns-in_err-sign
returns-in_err-sign c = λ s knows.
    passed_on s end c.sign.new.self c.from_residual.result c.in_err-sign.field-0.0 (err_from_is_err_and c.from_residual.result c.from_residual.ensures.1)
    (c.in_err-sign.ensures.brings s report_rest knows)
