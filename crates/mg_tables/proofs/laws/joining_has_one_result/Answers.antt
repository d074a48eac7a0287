use Rattle.mg_tables.proofs.Joining.{one_result}
use Rattle.mg_tables.proofs.laws.joining_has_one_result.Goals as goal

pub returns : goal.returns
returns c m t p q a b h k = one_result m t p q a b h k
