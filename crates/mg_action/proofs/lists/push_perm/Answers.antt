use Rattle.std.proofs.Common.{arith}
use Rattle.std.proofs.lemmas.Grind.{common_steps}
use Rattle.mg_action.proofs.lists.push_perm.Goals as goal

pub returns-clause-perm : goal.returns-clause-perm
returns-clause-perm c = (c.perm_of.new.out, grind (arith, common_steps), c.perm_of.ensures)
