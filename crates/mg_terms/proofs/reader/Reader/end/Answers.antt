use Rattle.mg_terms.proofs.Taking.{base_ends}
use Rattle.mg_terms.proofs.reader.Reader.end.Goals as goal

pub returns-in_ok-grow-in-Base : goal.returns-in_ok-grow-in-Base
returns-in_ok-grow-in-Base c = λ s keeps ready.
    base_ends s c.args.place c.in-Base.base c.args.self.now c.grow.new.self c.whole.result keeps ready c.in-Base.is c.in_ok-grow-in-Base.ensures.within c.in_ok-grow-in-Base.ensures.grown c.whole.ensures
