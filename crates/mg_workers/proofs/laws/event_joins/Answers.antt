use Rattle.mg_workers.proofs.Events.{runs_push}
use Rattle.mg_workers.proofs.laws.event_joins.Goals as goal

pub returns : goal.returns
returns g c workers policy begin old mid new a b = runs_push _ _ workers (g.P.Sizes.is_size policy) begin old mid new a b
