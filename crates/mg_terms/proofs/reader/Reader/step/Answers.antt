use Rattle.mg_terms.proofs.Taking.{minus_steps}
use Rattle.mg_terms.proofs.reader.Reader.step.Goals as goal

pub returns-in-Minus : goal.returns-in-Minus
returns-in-Minus c = λ s keeps ready.
    minus_steps s c.args.lexeme c.args.place c.in-Minus.base c.args.self.now c.exponent.new.self c.exponent.result keeps ready c.in-Minus.is c.exponent.ensures
