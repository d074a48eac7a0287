use Rattle.std.proofs.Common.{lit<, lit≤}
use Rattle.mg_workers.proofs.Thirds.{spends_all}
use Rattle.mg_workers.proofs.laws.two_units_do_not_find.Goals as goal

pub returns : goal.returns
returns g c verdict key group workers number policy begin new h finished = spends_all _ verdict workers (g.P.Sizes.is_size policy) begin 2 key group number new (lit≤ tt) (lit< tt) h finished
