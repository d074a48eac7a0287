use Rattle.std.proofs.Common.{IfOk, List, map, sym, subst}
use Rattle.std.specs.List.{AllZip}
use Rattle.mg_words.specs.Word.{Held, letters_of}
use Rattle.mg_words.specs.Reduction.{IsFormOf}
use Rattle.mg_present.specs.Image.{image_of}
use Rattle.mg_questions.specs.declared.question.Question.{Question}
use Rattle.mg_questions.specs.Goals.{goals_of}
use Rattle.mg_questions.proofs.goals.asked_goals.Goals as goal

pub returns-in-InKernel : goal.returns-in-InKernel
returns-in-InKernel c =
    subst (λ (q : Question). IfOk c.images-in-InKernel.result (λ goals. AllZip IsFormOf (goals_of q) goals)) (sym c.in-InKernel.is)
    (subst (λ (ws : List Held). IfOk c.images-in-InKernel.result (λ goals. AllZip IsFormOf (map (image_of c.in-InKernel.map) (letters_of ws)) goals)) c.from_ref-in-InKernel.ensures.value c.images-in-InKernel.ensures)
