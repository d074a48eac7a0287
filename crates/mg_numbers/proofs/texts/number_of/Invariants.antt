use Rattle.std.proofs.Common.{◌≡◌, ◌≤◌, ◌^◌, take}
use Rattle.mg_numbers.specs.Texts.{value}
use Rattle.mg_numbers.proofs.texts.number_of.Given as goal

-- the value of the digits so far is told
abbrev pub invariant-loop-digit : goal.invariant-loop-digit
invariant-loop-digit l = (l.value ≡ value l.base (take l.digit-index l.digits)) × (l.value ≤ 2 ^ 62)
