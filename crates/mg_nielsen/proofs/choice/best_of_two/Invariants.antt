use Rattle.std.proofs.Common.{ℕ, ◌<◌, ◌≤◌}
use Rattle.mg_nielsen.specs.Choice.{Leaves, left_by}
use Rattle.mg_nielsen.specs.declared.choice.Pick.TheVariants.{Two}
use Rattle.mg_nielsen.proofs.choice.best_of_two.Given as goal

-- no second factor before the number leaves less
abbrev pub invariant-loop-number : goal.invariant-loop-number
invariant-loop-number l = record {
  best : Leaves l.members l.rest l.best.left l.best.by;
  no_more : l.best.left ≤ l.fn.best.left;
  all : (n : ℕ) → n < l.number → l.best.left ≤ left_by l.members l.rest (Two l.first n);
}
