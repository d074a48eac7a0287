use Rattle.std.proofs.Common.{◌≡◌, ◌++◌, List, ap, sym, subst, ◌∙◌, ℤ}
use Rattle.std.specs.Prelude.{Some, slice_get}
use Rattle.mg_complete.specs.Equations.{by_each}
use Rattle.mg_complete.proofs.Affirming.{goal_erased}
use Rattle.mg_complete.proofs.work.Work.erase.Goals as goal

pub returns-clause-erases : goal.returns-clause-erases
returns-clause-erases c wanted there =
    goal_erased c.args.self.now.ask.group c.args.self.now.system.rules c.args.self.now.ask.goals c.args.place c.letters.result.now wanted c.descend_and_tell.new.self c.clear_told.new.told c.descend_and_tell.new.told c.push_by.new.moves
    (c.each_word_has_one_first_descendant.ensures.one c.args.self.now.system.rules) c.requires.vanish
    (subst (λ (t : List (List ℤ)). slice_get t c.args.place ≡ Some c.letters.result.now) c.goals.ensures.value (c.at-goal.ensures ∙ ap Some (sym c.letters.ensures)))
    there c.clear_told.ensures c.in_ok-descend_and_tell.ensures.first c.in_ok-descend_and_tell.ensures.told
    (c.in_ok-push_by.ensures ∙ (ap (λ t. t ++ by_each c.as_slice.result.now) c.new-moves.ensures ∙ ap by_each c.as_slice.ensures))
