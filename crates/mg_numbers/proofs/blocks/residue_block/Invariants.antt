use Rattle.mg_numbers.proofs.BlocksCounts.{ResidueLoop}
use Rattle.mg_numbers.proofs.blocks.residue_block.Given as goal

abbrev pub invariant-loop-index : goal.invariant-loop-index
invariant-loop-index l = ResidueLoop l.generators l.fn.number l.size l.index

abbrev pub decreases-loop-index : goal.decreases-loop-index
decreases-loop-index l = l.index
