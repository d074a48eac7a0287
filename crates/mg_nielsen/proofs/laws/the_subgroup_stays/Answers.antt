use Rattle.mg_nielsen.proofs.Keeping.{subgroup_stays}
use Rattle.mg_nielsen.proofs.laws.the_subgroup_stays.Goals as goal

pub returns : goal.returns
returns c = subgroup_stays
