use Rattle.mg_cyclic.proofs.Sums.{refuted_does_not_lie, refuted_does_not_hold}
use Rattle.mg_cyclic.proofs.laws.refuted_goals_do_not_lie.Goals as goal

pub returns-clause-goal : goal.returns-clause-goal
returns-clause-goal c = refuted_does_not_lie

pub returns-clause-ask : goal.returns-clause-ask
returns-clause-ask c = refuted_does_not_hold

pub returns-clause-number : goal.returns-clause-number
returns-clause-number c ask n h = refuted_does_not_hold ask h.goal h.map h.refutes
