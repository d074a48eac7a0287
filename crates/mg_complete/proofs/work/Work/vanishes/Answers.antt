use Rattle.std.proofs.Common.{◌≡◌, ℤ, List, ap, sym, subst, ◌∙◌, arith}
use Rattle.std.specs.Prelude.{Some, slice_get}
use Rattle.mg_complete.proofs.Vanishing.{goal_vanishes, goal_remains}
use Rattle.mg_complete.proofs.work.Work.vanishes.Goals as goal

pub returns-clause-vanish : goal.returns-clause-vanish
returns-clause-vanish c none d =
    goal_vanishes c.args.self.now.system.rules c.args.self.now.ask.goals c.args.place c.letters.result.now c.word.result.now c.descend.new.self
    (subst (λ (t : List (List ℤ)). slice_get t c.args.place ≡ Some c.letters.result.now) c.goals.ensures.value (c.at-goal.ensures ∙ ap Some (sym c.letters.ensures)))
    c.in_ok-descend.ensures c.word.ensures (grind (arith, none)) d

pub returns-clause-remains : goal.returns-clause-remains
returns-clause-remains c some =
    goal_remains c.args.self.now.ask c.args.self.now.system.rules c.args.place c.letters.result.now c.word.result.now c.descend.new.self
    (subst (λ (t : List (List ℤ)). slice_get t c.args.place ≡ Some c.letters.result.now) c.goals.ensures.value (c.at-goal.ensures ∙ ap Some (sym c.letters.ensures)))
    c.in_ok-descend.ensures c.word.ensures (λ e. grind (arith, some, e))
