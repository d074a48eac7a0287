use Rattle.std.proofs.Common.{arith}
use Rattle.mg_action.proofs.Reading.{moved_more}
use Rattle.mg_action.proofs.depths.moved_depth.Goals as goal

pub loop-point-preserved : goal.loop-point-preserved
loop-point-preserved c = record {
  some = c.depth_at-depth.ensures.some;
  most = omega (arith, c.depth_at-depth.ensures.most, c.loop-point.invariant.most);
  moved = moved_more c.args.action.now c.args.word.now c.loop-point.point c.loop-point.depth c.depth_at-depth.result c.args.most (omega (arith, c.degree-point-end.ensures.value)) c.depth_at-depth.ensures.moved c.loop-point.invariant.moved;
}
