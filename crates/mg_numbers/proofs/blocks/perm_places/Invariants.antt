use Rattle.mg_numbers.proofs.BlocksSteps.{DigitsFrom}
use Rattle.mg_numbers.proofs.blocks.perm_places.Given as goal

abbrev pub invariant-loop-place : goal.invariant-loop-place
invariant-loop-place l = DigitsFrom l.perms l.fn.index l.out l.place l.rest

abbrev pub decreases-loop-place : goal.decreases-loop-place
decreases-loop-place l = l.place
