use Rattle.mg_action.proofs.Words.{same_act_alike}
use Rattle.mg_action.proofs.laws.same_words_act_alike.Goals as goal

pub returns : goal.returns
returns c = same_act_alike
