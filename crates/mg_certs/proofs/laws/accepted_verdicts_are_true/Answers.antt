use Rattle.mg_certs.proofs.Truth.{accepted_is_true}
use Rattle.mg_certs.proofs.laws.accepted_verdicts_are_true.Goals as goal

pub returns : goal.returns
returns c = accepted_is_true
