use Rattle.mg_cyclic.proofs.Stretches.{none_of_map}
use Rattle.mg_cyclic.proofs.walk.Walk.tests.Goals as goal

pub returns-in_default-clause-refused : goal.returns-in_default-clause-refused
returns-in_default-clause-refused c = λ _. none_of_map c.args.ask.now c.args.self.now c.requires.place c.requires.whole c.in_default.ensures.none
