use Rattle.std.proofs.Common.{ℕ, ◌<◌, ◌≤◌}
use Rattle.mg_nielsen.specs.Choice.{IsNumber, Leaves, left_by}
use Rattle.mg_nielsen.specs.declared.choice.Pick.TheVariants.{One, Two}
use Rattle.mg_nielsen.proofs.choice.best_peeling.Given as goal

-- no factor leaves less, and no product with a first factor before the number
abbrev pub invariant-loop-first : goal.invariant-loop-first
invariant-loop-first l = record {
  best : Leaves l.members l.rest l.best.left l.best.by;
  one : (n : ℕ) → IsNumber l.members n → l.best.left ≤ left_by l.members l.rest (One n);
  two : (m n : ℕ) → m < l.first → IsNumber l.members n → l.best.left ≤ left_by l.members l.rest (Two m n);
}
