use Rattle.std.proofs.Common.{◌≢◌, ◌≤◌}
use Rattle.mg_numbers.specs.Perms.{PermTuple}
use Rattle.mg_action.specs.Permutation.{identity}
use Rattle.mg_action.specs.Action.{perm_of_word}
use Rattle.mg_action.specs.Walk.{Begins}
use Rattle.mg_action.proofs.depths.moved_depth.Given as goal

abbrev pub invariant-loop-point : goal.invariant-loop-point
invariant-loop-point l = record {
  some : 1 ≤ l.depth;
  most : l.depth ≤ l.most;
  moved : l.depth ≢ l.most → (t : PermTuple) → Begins l.action l.depth t → perm_of_word t l.word ≢ identity t.degree;
}
