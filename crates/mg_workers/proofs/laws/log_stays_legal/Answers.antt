use Rattle.mg_workers.proofs.Legality.{runs_legal}
use Rattle.mg_workers.proofs.laws.log_stays_legal.Goals as goal

pub returns : goal.returns
returns g c asks workers policy begin old new funded asked h legal = runs_legal _ _ (λ r valid model. (g.met.R.Record.lawful.one_of_both r valid).1 model) workers (g.P.Sizes.is_size policy) begin g.met.S.Searcher.sound asks old new funded asked h legal
