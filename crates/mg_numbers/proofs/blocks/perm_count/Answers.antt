use Rattle.std.proofs.Common.{arith, ◌+◌}
use Rattle.mg_numbers.proofs.PermsRank.{factorial-fits, factorial-more}
use Rattle.mg_numbers.proofs.blocks.perm_count.Goals as goal

pub overflow_mul-count : goal.overflow_mul-count
overflow_mul-count c =
    let i = c.loop-points.points in
    omega (arith, factorial-more c.loop-points.count i (c.from.result + 1) c.loop-points.invariant (omega arith), factorial-fits (i + 1) (omega arith))

pub loop-points-preserved : goal.loop-points-preserved
loop-points-preserved c =
    factorial-more c.loop-points.count c.loop-points.points (c.from.result + 1) c.loop-points.invariant (omega arith)
