use Rattle.std.proofs.Common.{refl}
use Rattle.mg_session.proofs.States.{session_ok}
use Rattle.mg_session.proofs.laws.states_are_in_order.Goals as goal

pub returns : goal.returns
returns g c plan policy workers states h = session_ok plan workers (record { workers = workers; IsSize = g.P.Sizes.is_size policy }) states refl h
