use Rattle.mg_session.proofs.Meanings.{meaning_or_refusal, one_scope, one_refusal, never_both}
use Rattle.mg_session.proofs.laws.a_meaning_or_a_refusal.Goals as goal

pub returns-clause-some : goal.returns-clause-some
returns-clause-some c = meaning_or_refusal

pub returns-clause-meaning : goal.returns-clause-meaning
returns-clause-meaning c = one_scope

pub returns-clause-refusal : goal.returns-clause-refusal
returns-clause-refusal c = one_refusal

pub returns-clause-never_both : goal.returns-clause-never_both
returns-clause-never_both c = never_both
