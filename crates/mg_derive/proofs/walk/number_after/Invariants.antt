use Rattle.std.proofs.Common.{◌≡◌, ◌-◌, ◌^◌, min}
use Rattle.mg_derive.proofs.walk.number_after.Given as goal

abbrev pub invariant-loop-digit : goal.invariant-loop-digit
invariant-loop-digit l = l.block ≡ min (l.base ^ l._digit) (2 ^ 64 - 1)
