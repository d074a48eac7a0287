use Rattle.mg_core.proofs.Logs.{facts_of-append}
use Rattle.mg_core.proofs.laws.facts_of_appended.Goals as goal

pub returns : goal.returns
returns g c = facts_of-append
