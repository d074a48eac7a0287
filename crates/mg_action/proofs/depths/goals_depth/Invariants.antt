use Rattle.std.proofs.Common.{◌≡◌, ◌<◌, ◌≤◌, ℕ, []}
use Rattle.std.specs.Prelude.{slice_index_or}
use Rattle.mg_numbers.specs.Perms.{PermTuple}
use Rattle.mg_action.specs.Action.{image_of_zero}
use Rattle.mg_action.specs.Walk.{Begins}
use Rattle.mg_action.proofs.depths.goals_depth.Given as goal

abbrev pub invariant-loop-place : goal.invariant-loop-place
invariant-loop-place l = record {
  some : 1 ≤ l.depth;
  most : l.depth ≤ l.most;
  fixed : (t : PermTuple) → Begins l.action l.depth t → (k : ℕ) → k < l.place → image_of_zero t (slice_index_or l.ask.goals k []) ≡ 0;
}
