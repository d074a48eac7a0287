use Rattle.mg_workers.proofs.Counts.{runs_count}
use Rattle.mg_workers.proofs.laws.entries_sum_to_spent.Goals as goal

pub returns : goal.returns
returns g c workers policy begin old new apart h = runs_count _ _ workers (g.P.Sizes.is_size policy) begin g.met.S.Searcher.sound old new apart h
