use Rattle.std.proofs.Common.{◌≡◌}
use Rattle.mg_numbers.specs.Perms.{factorial}
use Rattle.mg_numbers.proofs.blocks.perm_count.Given as goal

abbrev pub invariant-loop-points : goal.invariant-loop-points
invariant-loop-points l = l.count ≡ factorial l.points
