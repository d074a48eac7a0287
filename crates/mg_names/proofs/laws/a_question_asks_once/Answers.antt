use Rattle.mg_names.proofs.Asks.{asks_once}
use Rattle.mg_names.proofs.laws.a_question_asks_once.Goals as goal

pub returns : goal.returns
returns c = asks_once
