use Rattle.mg_terms.specs.Reading.{after}
use Rattle.std.proofs.Common.{false}
use Rattle.mg_terms.proofs.Taking.{is_not, whole_ready, begin_brings}
use Rattle.mg_terms.proofs.reader.Reader.go_on.Goals as goal

pub returns-else-is-4 : goal.returns-else-is-4
returns-else-is-4 c = λ fs w has ready.
    begin_brings fs w c.args.lexeme c.args.place c.args.self.now c.begin.new.self c.begin.result
    (is_not c.is.result c.if-is.false c.is.ensures)
    (is_not c.is-else-is.result c.if-is-2.false c.is-else-is.ensures)
    (is_not c.is-else-is-2.result c.if-is-3.false c.is-else-is-2.ensures)
    (is_not c.is-else-is-3.result c.if-is-4.false c.is-else-is-3.ensures)
    (c.begin.ensures fs (after w false) has (whole_ready fs w c.args.place ready))
