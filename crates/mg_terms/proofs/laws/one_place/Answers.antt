use Rattle.mg_terms.proofs.Reaches.{one_reach}
use Rattle.mg_terms.proofs.Faults.{one_first}
use Rattle.mg_terms.proofs.laws.one_place.Goals as goal

pub returns-clause-reach : goal.returns-clause-reach
returns-clause-reach c = one_reach

pub returns-clause-first : goal.returns-clause-first
returns-clause-first c = one_first
