use Rattle.mg_words.proofs.Exact.{words_exact, words_same}
use Rattle.mg_words.proofs.words.equal_lists_are_one.Goals as goal

pub returns : goal.returns
returns c = λ a b. (words_exact a b, words_same a b)
