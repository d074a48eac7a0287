use Rattle.std.proofs.Common.{◌<◌, ◌≤◌, length, vec_capacity}
use Rattle.mg_numbers.proofs.TextsSteps.{Carrying}
use Rattle.mg_numbers.proofs.texts.Digits.advance.Given as goal

abbrev pub invariant-loop-place : goal.invariant-loop-place
invariant-loop-place l = record {
  carrying : Carrying l.base l.fn.self l.self-inside.digits.items l.place;
  room : length l.self-inside.digits.items < 4096;
  capacity : 4096 ≤ vec_capacity l.self-inside.digits;
}

abbrev pub decreases-loop-place : goal.decreases-loop-place
decreases-loop-place l = l.place
