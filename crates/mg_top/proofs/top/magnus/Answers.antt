use Rattle.std.proofs.Common.{◌≡◌, ◌∙◌, inl, ap, sym, refl}
use Rattle.std.specs.Prelude.{Ok, Err}
use Rattle.mg_command.specs.declared.command.Command.TheVariants.{Run, Check, Sample}
use Rattle.mg_command.specs.declared.command.WordsRefused.TheVariants as refused
use Rattle.mg_top.specs.declared.status.Status.TheVariants.{Usage}
use Rattle.mg_top.specs.Command.{is_check, is_sample}
use Rattle.mg_top.proofs.Worded.{one_lacking, no_cause, no_other, no_run_checked, no_run_sampled, no_run_lacking, no_other_lacking}
use Rattle.mg_top.proofs.top.magnus.Goals as goal

pub run_command-requires-clause-some : goal.run_command-requires-clause-some
run_command-requires-clause-some g c = (c.in-Ok-Run.ensures.workers c.in-Ok-Run.workers c.in-Ok-Run.policy (ap Ok c.in-Ok-Run.field-0-is)).0

pub run_command-requires-clause-few : goal.run_command-requires-clause-few
run_command-requires-clause-few g c = (c.in-Ok-Run.ensures.workers c.in-Ok-Run.workers c.in-Ok-Run.policy (ap Ok c.in-Ok-Run.field-0-is)).1

pub returns-in-Ok-Run-clause-headline : goal.returns-in-Ok-Run-clause-headline
returns-in-Ok-Run-clause-headline g c = λ done. (c.in-Ok-Run.workers, c.in-Ok-Run.policy, (c.in-Ok-Run.ensures.says (Run c.in-Ok-Run.workers c.in-Ok-Run.policy) (ap Ok c.in-Ok-Run.field-0-is)), c.run_command.ensures.headline done)

pub returns-in-Ok-Run-clause-written : goal.returns-in-Ok-Run-clause-written
returns-in-Ok-Run-clause-written g c = λ fault. (c.in-Ok-Run.workers, c.in-Ok-Run.policy, (c.in-Ok-Run.ensures.says (Run c.in-Ok-Run.workers c.in-Ok-Run.policy) (ap Ok c.in-Ok-Run.field-0-is)), c.run_command.ensures.written fault)

pub returns-in-Ok-Run-clause-usage : goal.returns-in-Ok-Run-clause-usage
returns-in-Ok-Run-clause-usage g c = λ cause told. absurd (c.run_command.ensures.usage cause told)

pub returns-in-Ok-Run-clause-lacks : goal.returns-in-Ok-Run-clause-lacks
returns-in-Ok-Run-clause-lacks g c = λ cause lacking. absurd (no_cause c.args.words.now _ c.in-Ok-Run.ensures.said c.in-Ok-Run.ensures.lacking (Run c.in-Ok-Run.workers c.in-Ok-Run.policy) (ap Ok c.in-Ok-Run.field-0-is) cause lacking)

pub returns-in-Ok-Run-clause-whole : goal.returns-in-Ok-Run-clause-whole
returns-in-Ok-Run-clause-whole g c = λ _ read. c.run_command.ensures.whole read

pub returns-in-Ok-Run-clause-not_built : goal.returns-in-Ok-Run-clause-not_built
returns-in-Ok-Run-clause-not_built g c = λ line told. absurd (c.run_command.ensures.not_built line told)

pub returns-in-Ok-Run-clause-other_form : goal.returns-in-Ok-Run-clause-other_form
returns-in-Ok-Run-clause-other_form g c = λ form. absurd (no_other c.args.words.now _ c.in-Ok-Run.ensures.said c.in-Ok-Run.ensures.lacking c.in-Ok-Run.workers c.in-Ok-Run.policy (ap Ok c.in-Ok-Run.field-0-is) form)

pub returns-in-Ok-Run-clause-complete : goal.returns-in-Ok-Run-clause-complete
returns-in-Ok-Run-clause-complete g c = λ _. c.run_command.ensures.complete

pub returns-in-Ok-Check-clause-lacks : goal.returns-in-Ok-Check-clause-lacks
returns-in-Ok-Check-clause-lacks g c = λ cause lacking. absurd (no_cause c.args.words.now _ c.in-Ok-Check.ensures.said c.in-Ok-Check.ensures.lacking Check (ap Ok c.in-Ok-Check.field-0-is) cause lacking)

pub returns-in-Ok-Check-clause-whole : goal.returns-in-Ok-Check-clause-whole
returns-in-Ok-Check-clause-whole g c = λ run _. absurd (no_run_checked c.args.words.now _ c.in-Ok-Check.ensures.said c.in-Ok-Check.ensures.lacking (ap Ok c.in-Ok-Check.field-0-is) run)

pub returns-in-Ok-Check-clause-not_built : goal.returns-in-Ok-Check-clause-not_built
returns-in-Ok-Check-clause-not_built g c = λ line told. (is_check (c.in-Ok-Check.ensures.says Check (ap Ok c.in-Ok-Check.field-0-is)), (let zero_is : 0 ≡ line = cc told in sym zero_is))

pub returns-in-Ok-Check-clause-complete : goal.returns-in-Ok-Check-clause-complete
returns-in-Ok-Check-clause-complete g c = λ run. absurd (no_run_checked c.args.words.now _ c.in-Ok-Check.ensures.said c.in-Ok-Check.ensures.lacking (ap Ok c.in-Ok-Check.field-0-is) run)

pub returns-in-Ok-Sample-clause-lacks : goal.returns-in-Ok-Sample-clause-lacks
returns-in-Ok-Sample-clause-lacks g c = λ cause lacking. absurd (no_cause c.args.words.now _ c.in-Ok-Sample.ensures.said c.in-Ok-Sample.ensures.lacking (Sample c.in-Ok-Sample.field-0-0 c.in-Ok-Sample.field-0-1) (ap Ok c.in-Ok-Sample.field-0-is) cause lacking)

pub returns-in-Ok-Sample-clause-whole : goal.returns-in-Ok-Sample-clause-whole
returns-in-Ok-Sample-clause-whole g c = λ run _. absurd (no_run_sampled c.args.words.now _ c.in-Ok-Sample.ensures.said c.in-Ok-Sample.ensures.lacking c.in-Ok-Sample.field-0-0 c.in-Ok-Sample.field-0-1 (ap Ok c.in-Ok-Sample.field-0-is) run)

pub returns-in-Ok-Sample-clause-not_built : goal.returns-in-Ok-Sample-clause-not_built
returns-in-Ok-Sample-clause-not_built g c = λ line told. (is_sample c.in-Ok-Sample.field-0-0 c.in-Ok-Sample.field-0-1 (c.in-Ok-Sample.ensures.says (Sample c.in-Ok-Sample.field-0-0 c.in-Ok-Sample.field-0-1) (ap Ok c.in-Ok-Sample.field-0-is)), (let zero_is : 0 ≡ line = cc told in sym zero_is))

pub returns-in-Ok-Sample-clause-complete : goal.returns-in-Ok-Sample-clause-complete
returns-in-Ok-Sample-clause-complete g c = λ run. absurd (no_run_sampled c.args.words.now _ c.in-Ok-Sample.ensures.said c.in-Ok-Sample.ensures.lacking c.in-Ok-Sample.field-0-0 c.in-Ok-Sample.field-0-1 (ap Ok c.in-Ok-Sample.field-0-is) run)

pub returns-in-Err-Usage-clause-usage : goal.returns-in-Err-Usage-clause-usage
returns-in-Err-Usage-clause-usage g c = λ cause told. c.in-Err-Usage.ensures.lacks cause (let same : c.in-Err-Usage.cause ≡ cause = cc told in ap Err (c.in-Err-Usage.field-0-is ∙ ap refused.Usage same))

pub returns-in-Err-Usage-clause-lacks : goal.returns-in-Err-Usage-clause-lacks
returns-in-Err-Usage-clause-lacks g c = λ cause lack. (inl (rw c.in-Err-Usage.field-0-is (ap Usage (one_lacking c.args.words.now _ c.in-Err-Usage.ensures.said c.in-Err-Usage.ensures.lacking c.in-Err-Usage.cause cause (ap Err c.in-Err-Usage.field-0-is) lack))), refl)

pub returns-in-Err-Usage-clause-other_form : goal.returns-in-Err-Usage-clause-other_form
returns-in-Err-Usage-clause-other_form g c = λ form. absurd (no_other_lacking c.args.words.now _ c.in-Err-Usage.ensures.said c.in-Err-Usage.ensures.lacking c.in-Err-Usage.cause (ap Err c.in-Err-Usage.field-0-is) form)

pub returns-in-Err-Usage-clause-complete : goal.returns-in-Err-Usage-clause-complete
returns-in-Err-Usage-clause-complete g c = λ run. absurd (no_run_lacking c.args.words.now _ c.in-Err-Usage.ensures.said c.in-Err-Usage.ensures.lacking c.in-Err-Usage.cause (ap Err c.in-Err-Usage.field-0-is) run)
