use Rattle.mg_certs.proofs.verdict.Yes.is_accepted.Goals as goal

pub returns-in-RuleLog : goal.returns-in-RuleLog
returns-in-RuleLog c = rw c.in-RuleLog.is c.accepts-in-RuleLog.ensures
