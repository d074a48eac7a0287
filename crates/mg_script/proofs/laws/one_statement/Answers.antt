use Rattle.mg_script.proofs.Trees.{one_statement}
use Rattle.mg_script.proofs.laws.one_statement.Goals as goal

pub returns : goal.returns
returns c = one_statement
