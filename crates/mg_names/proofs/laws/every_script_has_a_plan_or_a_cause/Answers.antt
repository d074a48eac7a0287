use Rattle.mg_names.proofs.Lines.{all_read}
use Rattle.mg_names.proofs.Refusals.{plan_or_refusal, never_both, one_plan, one_refusal}
use Rattle.mg_names.proofs.laws.every_script_has_a_plan_or_a_cause.Goals as goal

pub returns-clause-some : goal.returns-clause-some
returns-clause-some c = λ bytes script is. plan_or_refusal script (all_read bytes script is)

pub returns-clause-never_both : goal.returns-clause-never_both
returns-clause-never_both c = never_both

pub returns-clause-one_plan : goal.returns-clause-one_plan
returns-clause-one_plan c = one_plan

pub returns-clause-one_cause : goal.returns-clause-one_cause
returns-clause-one_cause c = one_refusal
