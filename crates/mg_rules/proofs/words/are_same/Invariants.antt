use Rattle.std.proofs.Common.{◌≡◌, take}
use Rattle.mg_rules.proofs.words.are_same.Given as goal

-- the letters before the place are the same
abbrev pub invariant-loop-place : goal.invariant-loop-place
invariant-loop-place l = take l.place l.u ≡ take l.place l.v
