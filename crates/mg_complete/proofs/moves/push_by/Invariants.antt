use Rattle.std.proofs.Common.{◌≡◌, ◌++◌, take}
use Rattle.mg_complete.specs.Equations.{by_each}
use Rattle.mg_complete.proofs.moves.push_by.Given as goal

-- the rewritings before the place are appended
abbrev pub invariant-loop-one : goal.invariant-loop-one
invariant-loop-one l = l.moves ≡ l.initial.moves ++ by_each (take l.one-index l.told)
