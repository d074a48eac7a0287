use Rattle.mg_terms.proofs.Beginnings as beginnings
use Rattle.mg_terms.proofs.laws.one_end.Goals as goal

pub returns : goal.returns
returns c = beginnings.one_end
