use Rattle.mg_script.proofs.Reaches.{one_reach, one_first}
use Rattle.mg_script.proofs.laws.one_place.Goals as goal

pub returns-clause-reach : goal.returns-clause-reach
returns-clause-reach c = one_reach

pub returns-clause-first : goal.returns-clause-first
returns-clause-first c = one_first
