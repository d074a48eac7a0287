use Rattle.mg_numbers.proofs.PermsSteps.{PermFrom}
use Rattle.mg_numbers.proofs.blocks.perm_of.Given as goal

abbrev pub invariant-loop-start : goal.invariant-loop-start
invariant-loop-start l = PermFrom l.fn.index l.out l.start l.rest

abbrev pub decreases-loop-start : goal.decreases-loop-start
decreases-loop-start l = l.start
