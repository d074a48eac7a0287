use Rattle.std.proofs.Common.{◌≡◌, ◌-◌, ◌^◌, min}
use Rattle.mg_numbers.specs.Perms.{factorial}
use Rattle.mg_action.proofs.walk.saturated_factorial.Given as goal

abbrev pub invariant-loop-place : goal.invariant-loop-place
invariant-loop-place l = l.count ≡ min (factorial l.place) (2 ^ 64 - 1)
