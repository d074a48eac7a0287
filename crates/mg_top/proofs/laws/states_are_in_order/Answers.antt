use Rattle.std.proofs.Common.{refl}
use Rattle.mg_session.proofs.States.{session_ok}
use Rattle.mg_top.specs.Command.{params_of}
use Rattle.mg_top.proofs.laws.states_are_in_order.Goals as goal

pub returns : goal.returns
returns c workers policy script output legal = session_ok legal.scope.plan workers (params_of workers policy) legal.prints.states refl legal.prints.session
