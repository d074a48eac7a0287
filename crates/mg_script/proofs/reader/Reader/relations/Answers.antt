use Rattle.mg_script.specs.Grammar.{list_then, listed_relation}
use Rattle.mg_script.proofs.reader.Reader.relations.Goals as goal

pub returns-then-takes : goal.returns-then-takes
returns-then-takes c = λ s r knows. c.list.ensures s r (c.if-takes.ensures.chooses s (list_then listed_relation r) r knows)
