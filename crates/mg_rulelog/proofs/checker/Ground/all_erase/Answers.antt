use Rattle.std.proofs.Common.{true≢false, refl, sym, subst, ◌∙◌, arith}
use Rattle.std.proofs.lemmas.Option.{slice_get_within, get_or_from_slice_get}
use Rattle.mg_rulelog.specs.Rule.{all_sides}
use Rattle.mg_rulelog.specs.Acceptance.{Erases}
use Rattle.mg_rulelog.proofs.Following.{erase_as_many, erase_on, erase_stops, erase_ends}
use Rattle.mg_rulelog.proofs.checker.Ground.all_erase.Goals as goal

pub loop-place-init : goal.loop-place-init
loop-place-init c = (λ h. h, λ h. h)

pub returns-then-not-branch : goal.returns-then-not-branch
returns-then-not-branch c = (
  λ never. absurd (true≢false (sym never)),
  λ h. absurd (erase_stops c.args.self.now.group.now (all_sides c.args.self.now.rules.now) c.args.lists.now c.args.goals.now c.loop-place.place c.index-lists-place.result c.at.result.now.letters
      c.loop-place-test.true (slice_get_within c.args.goals.now c.loop-place.place _ c.at.ensures) c.index-lists-place.is (sym (get_or_from_slice_get c.args.goals.now c.loop-place.place _ _ c.at.ensures))
      (λ erases. true≢false (sym (c.in_ok-erases.ensures.1
      (subst (λ t. Erases c.args.self.now.group.now (all_sides c.args.self.now.rules.now) t c.at.result.now.letters) (sym c.as_slice.ensures) erases)) ∙ c.if-not-branch.true))
      c.loop-place.invariant h),
)

pub loop-place-preserved : goal.loop-place-preserved
loop-place-preserved c =
    erase_on c.args.self.now.group.now (all_sides c.args.self.now.rules.now) c.args.lists.now c.args.goals.now c.loop-place.place c.index-lists-place.result c.at.result.now.letters
    c.loop-place-test.true (slice_get_within c.args.goals.now c.loop-place.place _ c.at.ensures) c.index-lists-place.is (sym (get_or_from_slice_get c.args.goals.now c.loop-place.place _ _ c.at.ensures))
    (subst (λ t. Erases c.args.self.now.group.now (all_sides c.args.self.now.rules.now) t c.at.result.now.letters) c.as_slice.ensures (c.in_ok-erases.ensures.0 c.if-not-branch.false))
    c.loop-place.invariant

pub returns : goal.returns
returns c = (
  λ _. erase_ends c.args.self.now.group.now (all_sides c.args.self.now.rules.now) c.args.lists.now c.args.goals.now c.loop-place.place
      (omega (arith, c.loop-place-test.false)) (omega (arith, c.loop-place-test.false, c.if-lists-len.false, c.len.ensures)) c.loop-place.invariant,
  λ _. refl,
)

pub returns-then-lists-len : goal.returns-then-lists-len
returns-then-lists-len c = (
  λ never. absurd (true≢false (sym never)),
  λ h. absurd (c.if-lists-len.true (erase_as_many c.args.self.now.group.now (all_sides c.args.self.now.rules.now) c.args.lists.now c.args.goals.now h ∙ sym c.len.ensures)),
)
