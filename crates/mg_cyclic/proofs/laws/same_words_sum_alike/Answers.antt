use Rattle.mg_cyclic.proofs.Sums.{same_sum_alike}
use Rattle.mg_cyclic.proofs.laws.same_words_sum_alike.Goals as goal

pub returns : goal.returns
returns c = same_sum_alike
