use Rattle.mg_workers.proofs.Events.{runs_keep}
use Rattle.mg_workers.proofs.laws.balances_stay.Goals as goal

pub returns : goal.returns
returns g c workers policy begin old new funded h = runs_keep _ _ workers (g.P.Sizes.is_size policy) begin g.met.S.Searcher.sound old new funded h
