use Rattle.std.proofs.Common.{◌≡◌, ◌≤◌, ◌++◌, drop, length}
use Rattle.mg_rulelog.specs.Moves.{all_undone}
use Rattle.mg_complete.proofs.moves.push_undone.Given as goal

-- the moves from the place on are undone
abbrev pub invariant-loop-left : goal.invariant-loop-left
invariant-loop-left l = record {
  within : l.left ≤ length l.steps;
  put : l.moves ≡ l.initial.moves ++ all_undone (drop l.left l.steps);
}

abbrev pub decreases-loop-left : goal.decreases-loop-left
decreases-loop-left l = l.left
