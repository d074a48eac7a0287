use Rattle.std.proofs.Common.{◌≤◌, ap, subst, ◌∙◌}
use Rattle.mg_present.specs.Presentation.{Group}
use Rattle.mg_present.specs.declared.presentation.TheConstants.{MOST_GENERATORS}
use Rattle.mg_questions.specs.Goals.{group_of}
use Rattle.mg_questions.proofs.Bounds.{normal_refusal, never_refused}
use Rattle.mg_questions.proofs.limits.refusal.Goals as goal

pub returns-in-Normal : goal.returns-in-Normal
returns-in-Normal c =
    normal_refusal c.args.question.now c.in-Normal.group c.in-Normal.subgroup c.generators-generators.result c.len.result c.too_many.result c.in-Normal.is c.requires
    (c.generators-generators.ensures.value ∙ ap (λ (g : Group). g.generators) (c.asked_group.ensures ∙ ap group_of c.in-Normal.is)) c.len.ensures c.too_many.ensures

pub returns-in_default : goal.returns-in_default
returns-in_default c =
    let few : (group_of c.args.question.now).generators ≤ MOST_GENERATORS = subst (λ (g : Group). g.generators ≤ MOST_GENERATORS) c.asked_group.ensures c.generators-generators.ensures.fits.generators in
    never_refused c.args.question.now c.requires few c.in_default.not-Normal c.in_default.not-Extends c.in_default.not-InKernel
