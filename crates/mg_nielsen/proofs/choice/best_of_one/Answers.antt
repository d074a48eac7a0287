use Rattle.std.proofs.Common.{false}
use Rattle.mg_nielsen.proofs.Choosing.{factor_reduced}
use Rattle.mg_nielsen.proofs.choice.best_of_one.Goals as goal

pub quotient_length-left-requires-clause-first : goal.quotient_length-left-requires-clause-first
quotient_length-left-requires-clause-first c = factor_reduced c.args.members.now c.loop-number.number false c.factor.result.now c.requires.members c.factor.ensures
