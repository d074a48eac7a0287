use Rattle.std.specs.Prelude.{[]}
use Rattle.mg_names.specs.Plan.{report_facts, report_log}
use Rattle.mg_top.specs.Command.{params_of}
use Rattle.mg_session.proofs.Printed.{facts_valid}
use Rattle.mg_session.proofs.Verdicts.{facts_kept, facts_counted, text_at}
use Rattle.mg_top.proofs.Answers.{ok_at}
use Rattle.mg_top.proofs.laws.printed_facts_are_those_kept.Goals as goal

pub returns-clause-valid : goal.returns-clause-valid
returns-clause-valid c = λ workers policy script output legal step state at. facts_valid legal.scope.plan workers state (ok_at workers policy script output legal step state at)

pub returns-clause-facts : goal.returns-clause-facts
returns-clause-facts c = λ workers policy script output legal step state text at_step at at_text.
    (text_at legal.scope.plan (params_of workers policy) [] legal.scope.plan.steps legal.prints.states legal.prints.texts step report_facts state text legal.prints.texts_are at_step at at_text).2.1

pub returns-clause-log : goal.returns-clause-log
returns-clause-log c = λ workers policy script output legal step state text at_step at at_text.
    let printed = (text_at legal.scope.plan (params_of workers policy) [] legal.scope.plan.steps legal.prints.states legal.prints.texts step report_log state text legal.prints.texts_are at_step at at_text).2 in
    record {
      lines = printed.1;
      sums = printed.3;
      text_is = printed.5;
      facts = facts_kept state state.log printed.1 printed.2;
      counted = facts_counted state state.log printed.1 printed.2;
    }
