use Rattle.std.proofs.Common.{◌≡◌, ℤ, List, [], subst, ◌∙◌}
use Rattle.std.specs.List.{AllByRecursion}
use Rattle.mg_action.proofs.Stretches.{none_without_letters}
use Rattle.mg_action.proofs.walk.first_number.Goals as goal

pub returns-clause-none : goal.returns-clause-none
returns-clause-none c =
    none_without_letters c.args.ask.now 0 _ (subst (λ (t : List (List ℤ)). AllByRecursion (λ w. w ≡ []) t) (c.as_slice.ensures ∙ c.goals.ensures.value) (c.has_letters.ensures c.if-has_letters.false))
