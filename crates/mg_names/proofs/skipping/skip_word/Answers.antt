use Rattle.std.proofs.Common.{◌≡◌, ◌∙◌, ℕ, length, sym, ap, arith}
use Rattle.mg_names.proofs.Skips.{skipped, behind_word, stays_here, none_left}
use Rattle.mg_names.proofs.skipping.skip_word.Goals as goal

pub returns-then-not-goes_on : goal.returns-then-not-goes_on
returns-then-not-goes_on c w rest e h =
    sym (stays_here c.loop-step.cursor c.in-Some.lexeme (sym c.in-Some.is ∙ c.lexeme.ensures) (sym c.goes_on.ensures ∙ c.if-not-goes_on.true))
    ∙ (ap (λ (n : ℕ). skipped n c.loop-step.cursor) (sym c.if-depth-eq0.true) ∙ (c.loop-step.invariant.same ∙ behind_word c.args.cursor.now w rest e h))

pub returns : goal.returns
returns c w rest e h =
    let all = c.left-step-end.ensures in
    let left = c.loop-step.invariant.left in
    let end = c.loop-step-test.false in
    let none : length c.loop-step.cursor ≡ 0 = omega arith in
    none_left c.loop-step.depth c.loop-step.cursor none ∙ (c.loop-step.invariant.same ∙ behind_word c.args.cursor.now w rest e h)
