use Rattle.std.proofs.Common.{◌≡◌, take}
use Rattle.mg_words.specs.Word.{letters_of}
use Rattle.mg_nielsen.specs.Turn.{first_rests}
use Rattle.mg_nielsen.proofs.nielsen.first_rests.Given as goal

-- the goals before the place are there
abbrev pub invariant-loop-goal : goal.invariant-loop-goal
invariant-loop-goal l = l.rests.items ≡ first_rests (letters_of (take l.goal-index l.goal-items))
