use Rattle.mg_script.specs.Reader.{class_of}
use Rattle.mg_script.proofs.Steps.{is_not, is_so, takes_first, leaves_first}
use Rattle.mg_script.proofs.reader.Reader.takes.Goals as goal

pub returns-then-is_next-clause-chooses : goal.returns-then-is_next-clause-chooses
returns-then-is_next-clause-chooses c = λ s a b knows.
    takes_first s (class_of c.args.expected) a b c.args.self.now knows (is_so c.is_next.result c.if-is_next.true c.is_next.ensures.next)

pub returns-clause-chooses : goal.returns-clause-chooses
returns-clause-chooses c = λ s a b knows.
    leaves_first s (class_of c.args.expected) a b c.args.self.now knows (is_not c.is_next.result c.if-is_next.false c.is_next.ensures.next)
