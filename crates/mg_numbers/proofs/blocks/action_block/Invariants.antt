use Rattle.mg_numbers.proofs.BlocksCounts.{ActionLoop}
use Rattle.mg_numbers.proofs.blocks.action_block.Given as goal

abbrev pub invariant-loop-index : goal.invariant-loop-index
invariant-loop-index l = ActionLoop l.generators l.fn.number l.size l.index l.perms

abbrev pub decreases-loop-index : goal.decreases-loop-index
decreases-loop-index l = l.index
