use Rattle.mg_cyclic.proofs.Stretches.{none_of_modulus}
use Rattle.mg_cyclic.proofs.walk.Walk.finds.Goals as goal

pub returns-then-is_idle-clause-refused : goal.returns-then-is_idle-clause-refused
returns-then-is_idle-clause-refused c = λ _. none_of_modulus c.args.ask.now c.args.self.now c.requires.place (c.is_idle.ensures c.if-is_idle.true)
