use Rattle.std.proofs.Common.{ℕ, ◌<◌, ◌≤◌, ◌≢◌, Bool}
use Rattle.mg_nielsen.specs.Choice.{Gains, GainsMost, place_of}
use Rattle.mg_nielsen.proofs.choice.best_of_member.Given as goal

-- no factor before the number takes more off
abbrev pub invariant-loop-number : goal.invariant-loop-number
invariant-loop-number l = record {
  best : Gains l.members l.best.letters l.best.by;
  no_less : l.fn.best.letters ≤ l.best.letters;
  all : (n : ℕ) (left : Bool) → n < l.number → place_of l.members n ≢ l.place → GainsMost l.members l.best.letters (record { place = l.place; number = n; left = left });
}
