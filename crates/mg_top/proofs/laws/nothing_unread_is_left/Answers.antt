use Rattle.mg_names.specs.Plan.{run}
use Rattle.mg_session.proofs.Steps.{step_at}
use Rattle.mg_session.proofs.Recalls as recalls
use Rattle.mg_top.specs.Command.{params_of}
use Rattle.mg_top.proofs.Answers.{ok_at}
use Rattle.mg_top.proofs.laws.nothing_unread_is_left.Goals as goal

pub returns : goal.returns
returns c workers policy script output legal step bound old new place search after stepped at_old at_new there here reads unsettled less =
    recalls.nothing_unread_is_left legal.scope.plan (params_of workers policy) bound old new (ok_at workers policy script output legal step old at_old)
    (step_at legal.scope.plan (params_of workers policy) legal.prints.states legal.prints.session step (run bound) old new stepped at_old at_new) place search after there here reads unsettled less
