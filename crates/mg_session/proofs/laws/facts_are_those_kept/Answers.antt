use Rattle.mg_session.proofs.Printed.{facts_valid}
use Rattle.mg_session.proofs.Verdicts.{facts_kept, facts_counted}
use Rattle.mg_session.proofs.laws.facts_are_those_kept.Goals as goal

pub returns-clause-valid : goal.returns-clause-valid
returns-clause-valid c = facts_valid

pub returns-clause-kept : goal.returns-clause-kept
returns-clause-kept c = λ state lines each. facts_kept state state.log lines each

pub returns-clause-counted : goal.returns-clause-counted
returns-clause-counted c = λ state lines each. facts_counted state state.log lines each
