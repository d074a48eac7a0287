use Rattle.std.proofs.Common.{ℕ, ◌<◌, ◌≤◌, length}
use Rattle.mg_nielsen.specs.Expressed.{Expressed}
use Rattle.mg_nielsen.specs.Moves.{member_at, IsFactor}
use Rattle.mg_nielsen.specs.Choice.{quotient_length}
use Rattle.mg_nielsen.proofs.choice.first_peeling.Given as goal

-- no goal before the place can be peeled
abbrev pub invariant-loop-goal : goal.invariant-loop-goal
invariant-loop-goal l = (g : ℕ) (p : Expressed) → g < l.goal → IsFactor l.members p → length (member_at l.rests g).word ≤ quotient_length p.word (member_at l.rests g).word
