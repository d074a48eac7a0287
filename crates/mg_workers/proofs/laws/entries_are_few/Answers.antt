use Rattle.mg_workers.proofs.Counts.{runs_total}
use Rattle.mg_workers.proofs.laws.entries_are_few.Goals as goal

pub returns : goal.returns
returns g c workers policy begin old new h = runs_total _ _ workers (g.P.Sizes.is_size policy) begin g.met.S.Searcher.sound old new h
