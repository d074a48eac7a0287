use Rattle.std.proofs.Common.{false}
use Rattle.mg_terms.proofs.Taking.{is_not, caret_brings}
use Rattle.mg_terms.proofs.reader.Reader.behind_caret.Goals as goal

pub returns : goal.returns
returns c = λ fs before b has same ready.
    caret_brings fs before b c.args.lexeme c.args.place c.args.self.now c.exponent.new.self c.exponent.result (is_not c.is.result c.if-is.false c.is.ensures)
    (c.exponent.ensures fs before b false has same ready.0 ready.1)
