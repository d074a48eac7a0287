use Rattle.std.proofs.Common.{◌≡◌, ◌∙◌, true, false, sym, subst, ℕ}
use Rattle.std.specs.List.{AllByRecursion}
use Rattle.mg_words.specs.Word.{letters_of}
use Rattle.mg_rules.specs.declared.meeting.Meeting.{Meeting}
use Rattle.mg_rules.specs.Complete.{IsRuleOver, IsComplete}
use Rattle.mg_rules.specs.Checking.{Vanishes, LettersVanish, ResultsFall}
use Rattle.mg_rules.proofs.Checks.{letters_of_complete, relators_of_complete, results_of_complete, complete_from, if_ok_exactly}
use Rattle.mg_rules.proofs.complete.is_complete_for.Goals as goal

pub returns-then-not-branch : goal.returns-then-not-branch
returns-then-not-branch c = (
  λ (t : false ≡ true). absurd cc,
  λ h. (let passes : c.in_ok-letters_vanish.field-0 ≡ true = c.in_ok-letters_vanish.ensures.1
      (subst (LettersVanish c.args.rules.now) (sym c.generators-2.ensures.value) (letters_of_complete c.args.group.now c.args.rules.now h)) in
      let fails : c.in_ok-letters_vanish.field-0 ≡ false = c.if-not-branch.true in cc),
)

pub returns-then-not-branch-2 : goal.returns-then-not-branch-2
returns-then-not-branch-2 c =
    let words : letters_of c.as_slice.result.now ≡ c.args.group.now.relators = c.as_slice.ensures ∙ c.relators.ensures.value in (
      λ (t : false ≡ true). absurd cc,
      λ h. (let passes : c.in_ok-words_vanish.field-0 ≡ true = c.in_ok-words_vanish.ensures.1
          (subst (AllByRecursion (Vanishes c.args.rules.now)) (sym words) (relators_of_complete c.args.group.now c.args.rules.now h)) in
          let fails : c.in_ok-words_vanish.field-0 ≡ false = c.if-not-branch-2.true in cc),
    )

pub returns : goal.returns
returns c =
    let words : letters_of c.as_slice.result.now ≡ c.args.group.now.relators = c.as_slice.ensures ∙ c.relators.ensures.value in
    let over : AllByRecursion (IsRuleOver c.args.group.now.generators) c.args.rules.now =
    subst (λ (n : ℕ). AllByRecursion (IsRuleOver n) c.args.rules.now) c.generators.ensures.value (c.are_over.ensures.0 c.if-not-are_over.false) in
    let letters : LettersVanish c.args.rules.now c.args.group.now.generators =
    subst (LettersVanish c.args.rules.now) c.generators-2.ensures.value (c.in_ok-letters_vanish.ensures.0 c.if-not-branch.false) in
    let relators : AllByRecursion (Vanishes c.args.rules.now) c.args.group.now.relators =
    subst (AllByRecursion (Vanishes c.args.rules.now)) words (c.in_ok-words_vanish.ensures.0 c.if-not-branch-2.false) in
    if_ok_exactly c.all_join.result ((m : Meeting) → ResultsFall c.args.rules.now m) (IsComplete c.args.group.now c.args.rules.now) c.all_join.ensures (
      λ h. results_of_complete c.args.group.now c.args.rules.now h,
      λ fall. complete_from c.args.group.now c.args.rules.now over (c.all_decrease.ensures.0 c.if-not-all_decrease.false) letters relators fall,
    )
