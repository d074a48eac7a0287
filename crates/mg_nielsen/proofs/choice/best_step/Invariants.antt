use Rattle.std.proofs.Common.{ℕ, ◌<◌, ◌≢◌, Bool}
use Rattle.mg_nielsen.specs.Choice.{IsNumber, Gains, GainsMost, place_of}
use Rattle.mg_nielsen.proofs.choice.best_step.Given as goal

-- no step of a member before the place takes more off
abbrev pub invariant-loop-place : goal.invariant-loop-place
invariant-loop-place l = record {
  best : Gains l.members l.best.letters l.best.by;
  all : (place n : ℕ) (left : Bool) → place < l.place → IsNumber l.members n → place_of l.members n ≢ place → GainsMost l.members l.best.letters (record { place = place; number = n; left = left });
}
