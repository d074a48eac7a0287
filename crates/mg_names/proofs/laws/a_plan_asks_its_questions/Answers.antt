use Rattle.mg_names.proofs.Plans.{question_asks, question_means}
use Rattle.mg_names.proofs.laws.a_plan_asks_its_questions.Goals as goal

pub returns-clause-asks : goal.returns-clause-asks
returns-clause-asks c = question_asks

pub returns-clause-means : goal.returns-clause-means
returns-clause-means c = question_means
