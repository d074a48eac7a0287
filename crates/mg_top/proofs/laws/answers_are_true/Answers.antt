use Rattle.mg_top.proofs.Answers.{answers_question}
use Rattle.mg_top.proofs.laws.answers_are_true.Goals as goal

pub returns : goal.returns
returns c = answers_question
