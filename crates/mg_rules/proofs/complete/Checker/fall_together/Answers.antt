use Rattle.std.proofs.Common.{◌≡◌, ◌∙◌, ◌++◌, sym, subst, ap, List, ℤ}
use Rattle.mg_rules.specs.First.{IsFirstDescendant}
use Rattle.mg_rules.specs.Checking.{one_result, other_result}
use Rattle.mg_rules.proofs.Checks.{fall_found}
use Rattle.mg_rules.proofs.complete.Checker.fall_together.Goals as goal

pub returns : goal.returns
returns c =
    let one : List ℤ = one_result c.args.first.now c.args.second.now c.args.place in
    let other : List ℤ = other_result c.args.first.now c.args.second.now c.args.place in
    let first : IsFirstDescendant c.args.rules.now one c.descend.new.self =
    subst (λ (t : List ℤ). IsFirstDescendant c.args.rules.now t c.descend.new.self) (c.deref.ensures.value ∙ c.in_ok-put_one_result.ensures) c.in_ok-descend.ensures in
    let second : IsFirstDescendant c.args.rules.now other c.descend-2.new.self =
    subst (λ (t : List ℤ). IsFirstDescendant c.args.rules.now t c.descend-2.new.self) (c.deref-2.ensures.value ∙ c.in_ok-put_other_result.ensures) c.in_ok-descend-2.ensures in
    let kept : c.deref-3.result.now ≡ c.descend.new.self =
    c.deref-3.ensures.value ∙ (c.in_ok-extend_from_slice.ensures.items ∙ (ap (λ t. t ++ c.word.result.now) c.clear.ensures.items ∙ c.word.ensures)) in
    let found = fall_found c.args.rules.now one other c.descend.new.self c.descend-2.new.self first second in (
      λ t. found.0 (sym kept ∙ (c.are_same.ensures.0 t ∙ c.word-2.ensures)),
      λ h. c.are_same.ensures.1 (kept ∙ (found.1 h ∙ sym c.word-2.ensures)),
    )
