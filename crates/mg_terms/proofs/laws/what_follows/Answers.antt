use Rattle.mg_terms.proofs.Beginnings.{follows, can_follow}
use Rattle.mg_terms.proofs.laws.what_follows.Goals as goal

pub returns : goal.returns
returns c = λ w x. (follows w x, can_follow w x)
