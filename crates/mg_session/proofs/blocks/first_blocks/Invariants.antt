use Rattle.std.proofs.Common.{take, map}
use Rattle.mg_report.specs.Values.{block_of}
use Rattle.mg_session.specs.Output.{AreBlocks}
use Rattle.mg_session.proofs.blocks.first_blocks.Given as goal

abbrev pub invariant-loop-place : goal.invariant-loop-place
invariant-loop-place l = AreBlocks l.plan l.session 0 (take l.place l.plan.questions) (map block_of l.blocks.items)
