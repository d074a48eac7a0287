use Rattle.mg_session.proofs.Printed.{session_length}
use Rattle.mg_session.proofs.laws.sessions_have_a_state_more.Goals as goal

pub returns : goal.returns
returns g c plan policy workers states h = session_length plan (record { workers = workers; IsSize = g.P.Sizes.is_size policy }) states h
