use Rattle.mg_rules.proofs.Confluence.{one_normal}
use Rattle.mg_rules.proofs.laws.normal_descendants_are_equal.Goals as goal

pub returns : goal.returns
returns c rules w u v decrease join = one_normal rules decrease join w u v
