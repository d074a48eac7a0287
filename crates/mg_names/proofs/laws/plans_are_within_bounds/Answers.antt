use Rattle.mg_names.proofs.Plans.{script_within}
use Rattle.mg_names.proofs.laws.plans_are_within_bounds.Goals as goal

pub returns : goal.returns
returns c = script_within
