use Rattle.mg_workers.proofs.Events.{runs_begins}
use Rattle.mg_workers.proofs.laws.log_grows.Goals as goal

pub returns : goal.returns
returns g c workers policy begin old new h = runs_begins _ _ workers (g.P.Sizes.is_size policy) begin old new h
