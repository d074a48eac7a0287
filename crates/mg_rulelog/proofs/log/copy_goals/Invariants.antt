use Rattle.std.proofs.Common.{◌≡◌, take}
use Rattle.mg_rulelog.proofs.log.copy_goals.Given as goal

-- the lists before the place are copied
abbrev pub invariant-loop-moves : goal.invariant-loop-moves
invariant-loop-moves l = l.same ≡ take l.moves-index l.goals
