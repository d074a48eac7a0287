use Rattle.mg_workers.proofs.Events.{runs_then}
use Rattle.mg_workers.proofs.laws.runs_join.Goals as goal

pub returns : goal.returns
returns g c workers policy begin old mid new a b = runs_then _ _ workers (g.P.Sizes.is_size policy) begin old mid new a b
