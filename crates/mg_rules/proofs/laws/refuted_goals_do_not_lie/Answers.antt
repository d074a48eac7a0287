use Rattle.mg_rules.proofs.Groups.{refuted_does_not_lie, refuted_does_not_hold}
use Rattle.mg_rules.proofs.laws.refuted_goals_do_not_lie.Goals as goal

pub returns-clause-goal : goal.returns-clause-goal
returns-clause-goal c = refuted_does_not_lie

pub returns-clause-ask : goal.returns-clause-ask
returns-clause-ask c = refuted_does_not_hold
