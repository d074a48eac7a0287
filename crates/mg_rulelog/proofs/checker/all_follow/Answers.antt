use Rattle.std.proofs.Common.{true≢false, refl, sym, ap, ◌∙◌, arith}
use Rattle.std.specs.Prelude.{Some}
use Rattle.std.proofs.lemmas.Option.{slice_get-get_or}
use Rattle.mg_rulelog.proofs.Following.{below_none, below_next, below_all}
use Rattle.mg_rulelog.proofs.checker.all_follow.Goals as goal

pub loop-place-init : goal.loop-place-init
loop-place-init c = below_none c.args.group.now c.args.rules.now

pub returns-then-not-branch : goal.returns-then-not-branch
returns-then-not-branch c = (
  λ never. absurd (true≢false (sym never)),
  λ follow. absurd (true≢false (sym (c.in_ok-follows.ensures.1
      (follow c.loop-place.place c.index-rules-place.result (slice_get-get_or c.args.rules.now c.loop-place.place c.index-rules-place.result c.loop-place-test.true ∙ ap Some (sym c.index-rules-place.is)))) ∙ c.if-not-branch.true)),
)

pub loop-place-preserved : goal.loop-place-preserved
loop-place-preserved c =
    below_next c.args.group.now c.args.rules.now c.loop-place.place c.index-rules-place.result c.loop-place.invariant
    (slice_get-get_or c.args.rules.now c.loop-place.place c.index-rules-place.result c.loop-place-test.true ∙ ap Some (sym c.index-rules-place.is)) (c.in_ok-follows.ensures.0 c.if-not-branch.false)

pub returns : goal.returns
returns c = (λ _. below_all c.args.group.now c.args.rules.now c.loop-place.place (omega (arith, c.loop-place-test.false)) c.loop-place.invariant, λ _. refl)
