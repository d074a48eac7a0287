use Rattle.std.proofs.Common.{◌≡◌, ◌<◌, ◌≤◌, drop, get_or}
use Rattle.mg_numbers.specs.Perms.{PermTuple}
use Rattle.mg_action.specs.Action.{perm_of_word}
use Rattle.mg_action.specs.Walk.{Begins}
use Rattle.mg_action.proofs.depths.read.Given as goal

abbrev pub invariant-loop-place : goal.invariant-loop-place
invariant-loop-place l = record {
  below : l.image < l.action.degree;
  some : 1 ≤ l.depth;
  reads : (t : PermTuple) → Begins l.action l.depth t → get_or (perm_of_word t l.word) l.point 0 ≡ get_or (perm_of_word t (drop l.place l.word)) l.image 0;
}
