use Rattle.std.proofs.Common.{lit≤}
use Rattle.mg_workers.proofs.Thirds.{finds}
use Rattle.mg_workers.proofs.laws.five_units_find.Goals as goal

pub returns : goal.returns
returns g c verdict key group workers number policy begin new h finished = finds _ verdict workers (g.P.Sizes.is_size policy) begin 5 key group number new (lit≤ tt) h finished
