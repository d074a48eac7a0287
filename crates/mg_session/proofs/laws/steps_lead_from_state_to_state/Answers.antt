use Rattle.mg_session.proofs.Steps.{step_at}
use Rattle.mg_session.proofs.laws.steps_lead_from_state_to_state.Goals as goal

pub returns : goal.returns
returns g c plan policy workers states place step old new h stepped before after = step_at plan (record { workers = workers; IsSize = g.P.Sizes.is_size policy }) states h place step old new stepped before after
