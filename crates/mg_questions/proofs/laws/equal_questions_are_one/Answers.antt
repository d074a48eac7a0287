use Rattle.mg_questions.proofs.Exact.{content_exact, content_itself}
use Rattle.mg_questions.proofs.laws.equal_questions_are_one.Goals as goal

pub returns : goal.returns
returns c a b = (content_exact a b, content_itself a b)
