use Rattle.mg_certs.proofs.Truth.{no_contradiction}
use Rattle.mg_certs.proofs.laws.no_two_verdicts_contradict.Goals as goal

pub returns : goal.returns
returns c = no_contradiction
