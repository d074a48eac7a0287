use Rattle.mg_cyclic.specs.Map.{RefutesNoneBefore}
use Rattle.mg_cyclic.proofs.evidence.first_refuted.Given as goal

-- no goal so far is refuted
abbrev pub invariant-loop-goal : goal.invariant-loop-goal
invariant-loop-goal l = RefutesNoneBefore l.ask l.goal l.map
