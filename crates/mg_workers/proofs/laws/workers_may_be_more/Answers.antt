use Rattle.mg_workers.proofs.Events.{runs_widen}
use Rattle.mg_workers.proofs.laws.workers_may_be_more.Goals as goal

pub returns : goal.returns
returns g c workers more policy begin old new fewer h = runs_widen _ _ begin workers more (g.P.Sizes.is_size policy) (g.P.Sizes.is_size policy) fewer (λ turns spent allowed units is. is) old new h
