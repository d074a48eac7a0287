use Rattle.mg_terms.proofs.Unique as unique
use Rattle.mg_terms.proofs.laws.one_word.Goals as goal

pub returns : goal.returns
returns c = unique.one_word
