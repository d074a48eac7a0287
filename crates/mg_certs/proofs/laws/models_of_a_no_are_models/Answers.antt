use Rattle.mg_certs.proofs.Truth.{refuting_is_a_model}
use Rattle.mg_certs.proofs.laws.models_of_a_no_are_models.Goals as goal

pub returns : goal.returns
returns c = refuting_is_a_model
