use Rattle.mg_questions.proofs.Agreement.{agree}
use Rattle.mg_questions.proofs.laws.asks_keep_the_meaning.Goals as goal

pub returns : goal.returns
returns c = agree
