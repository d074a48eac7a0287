use Rattle.mg_ledger.proofs.Balances.{balances}
use Rattle.mg_ledger.proofs.ledger.every_run_balances.Goals as goal

pub returns : goal.returns
returns c = balances
