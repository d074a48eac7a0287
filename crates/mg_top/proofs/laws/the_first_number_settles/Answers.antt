use Rattle.std.proofs.Common.{refl}
use Rattle.mg_workers.proofs.Pairs.{all_at}
use Rattle.mg_names.specs.Plan.{run}
use Rattle.mg_session.specs.StateOk.{StateOk}
use Rattle.mg_session.proofs.States.{session_ok}
use Rattle.mg_session.proofs.Steps.{step_at}
use Rattle.mg_session.proofs.Reaching.{reaches, spends_reach, keeps_first}
use Rattle.mg_top.specs.Command.{params_of}
use Rattle.mg_top.proofs.laws.the_first_number_settles.Goals as goal

pub returns-clause-settles : goal.returns-clause-settles
returns-clause-settles c workers policy script output legal step bound old new place search n stepped before after there first within =
    let states = legal.prints.states in
    let ok = all_at (StateOk legal.scope.plan workers) states step old (session_ok legal.scope.plan workers (params_of workers policy) states refl legal.prints.session) before in
    reaches legal.scope.plan (params_of workers policy) bound old new (step_at legal.scope.plan (params_of workers policy) states legal.prints.session step (run bound) old new stepped before after) ok place search there n first within

pub returns-clause-spends : goal.returns-clause-spends
returns-clause-spends c workers policy script output legal step bound old new place search stepped before after there built unsettled =
    let states = legal.prints.states in
    let ok = all_at (StateOk legal.scope.plan workers) states step old (session_ok legal.scope.plan workers (params_of workers policy) states refl legal.prints.session) before in
    spends_reach legal.scope.plan (params_of workers policy) bound old new (step_at legal.scope.plan (params_of workers policy) states legal.prints.session step (run bound) old new stepped before after) ok place search there built unsettled

pub returns-clause-least : goal.returns-clause-least
returns-clause-least c workers policy script output legal step state place search entry at there tests keeper same =
    let states = legal.prints.states in
    let ok = all_at (StateOk legal.scope.plan workers) states step state (session_ok legal.scope.plan workers (params_of workers policy) states refl legal.prints.session) at in
    keeps_first legal.scope.plan workers state place search entry ok there tests keeper same
