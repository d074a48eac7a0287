use Rattle.mg_terms.specs.Word.{bare}
use Rattle.mg_terms.specs.Reading.{joined}
use Rattle.mg_terms.proofs.Taking.{is_not, base_closed, closed_steps, closed_ready, kept_has}
use Rattle.mg_terms.proofs.reader.Reader.behind_base.Goals as goal

pub returns : goal.returns
returns c = λ fs before b has same ready.
    let closed = base_closed fs before b c.args.base c.args.self.now c.grow.new.self has same c.in_ok-grow.ensures.within c.in_ok-grow.ensures.grown ready.1 in
    closed_steps fs before b c.args.lexeme c.args.place c.grow.new.self c.go_on.new.self c.go_on.result (is_not c.is.result c.if-is.false c.is.ensures) closed
    (c.go_on.ensures fs (joined before (bare b)) (kept_has fs (joined before (bare b)) c.grow.new.self closed.keeps) (closed_ready fs before b c.args.place ready closed.within))
