-- What verdicts say of a question.
use Rattle.mg_questions.specs.declared.question.Question.{Question}
use Rattle.mg_questions.specs.Meaning.{Meaning}
use Rattle.mg_certs.specs.Claim.{Verdict, affirmed, refuted}

-- YES says that what the question asks is so, and NO that it isn't
abbrev pub Answers : Question → Verdict → Type 0
Answers question (affirmed certificate) = Meaning question
Answers question (refuted goal model) = Meaning question → ⊥
