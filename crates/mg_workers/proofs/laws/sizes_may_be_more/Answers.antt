use Rattle.std.proofs.Common.{arith}
use Rattle.mg_workers.proofs.Events.{runs_widen}
use Rattle.mg_workers.proofs.laws.sizes_may_be_more.Goals as goal

pub returns : goal.returns
returns g c workers policy other begin old new wider h = runs_widen _ _ begin workers workers (g.P.Sizes.is_size policy) (g.Q.Sizes.is_size other) (omega arith) wider old new h
