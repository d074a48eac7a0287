use Rattle.mg_script.proofs.Scripts.{one_script, one_refusal, never_both}
use Rattle.mg_script.proofs.Total.{script_or_refusal}
use Rattle.mg_script.proofs.laws.a_script_or_a_refusal.Goals as goal

pub returns-clause-some : goal.returns-clause-some
returns-clause-some c = script_or_refusal

pub returns-clause-script : goal.returns-clause-script
returns-clause-script c = one_script

pub returns-clause-refusal : goal.returns-clause-refusal
returns-clause-refusal c = one_refusal

pub returns-clause-never_both : goal.returns-clause-never_both
returns-clause-never_both c = never_both
