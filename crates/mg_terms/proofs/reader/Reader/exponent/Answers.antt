use Rattle.std.proofs.lemmas.Result.{err_from_is_err_and}
use Rattle.mg_terms.proofs.Taking.{number_taken, number_breaks}
use Rattle.mg_terms.proofs.reader.Reader.exponent.Goals as goal

pub returns-in_ok-grow-in-Number : goal.returns-in_ok-grow-in-Number
returns-in_ok-grow-in-Number c = λ fs before b negative has same here within.
    rw c.in-Number.is
    (number_taken fs before b negative c.in-Number.exponent c.args.base c.args.self.now c.grow.new.self has same c.in_ok-grow-in-Number.ensures.within c.in_ok-grow-in-Number.ensures.grown within)

pub returns-in_err-grow-in-Number : goal.returns-in_err-grow-in-Number
returns-in_err-grow-in-Number c = λ fs before b negative has same here within.
    let p = err_from_is_err_and c.from_residual.result c.from_residual.ensures.1 in
    rw (p.1, p.2)
    (number_breaks fs before b negative c.in-Number.exponent c.args.base c.args.place c.args.self.now c.grow.new.self c.in_err-grow-in-Number.field-0.0 c.args.lexeme c.in-Number.is has same here c.in_err-grow-in-Number.ensures.fault)
