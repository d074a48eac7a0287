use Rattle.std.specs.Prelude.{None}
use Rattle.mg_names.specs.Plan.{run}
use Rattle.mg_top.specs.Command.{params_of}
use Rattle.mg_session.proofs.Runs.{run_is_ok}
use Rattle.mg_session.proofs.Steps.{step_at}
use Rattle.mg_top.proofs.Answers.{ok_at}
use Rattle.mg_top.proofs.Spent.{all_spent}
use Rattle.mg_top.proofs.laws.runs_without_a_bound_spend_all.Goals as goal

pub returns : goal.returns
returns c workers policy script output legal step old new stepped before after =
    let plan = legal.scope.plan in
    let ran = step_at plan (params_of workers policy) legal.prints.states legal.prints.session step (run None) old new stepped before after in
    let ok = run_is_ok plan (params_of workers policy) None old new ran (ok_at workers policy script output legal step old before) in
    all_spent new.log old.searches new.searches ok.searches
