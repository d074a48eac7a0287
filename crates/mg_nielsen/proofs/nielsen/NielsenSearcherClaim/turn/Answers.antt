use Rattle.std.proofs.Common.{ℕ, true≢false, refl, sym, subst, arith, ap, Some, ◌∙◌, ◌≡◌}
use Rattle.mg_present.specs.Ask.{Inquiry}
use Rattle.mg_nielsen.specs.Moves.{Nielsen, Reaches}
use Rattle.mg_nielsen.proofs.Running.{turn_goes_on, turn_is_over}
use Rattle.mg_nielsen.proofs.nielsen.NielsenSearcherClaim.turn.Goals as goal

pub returns-in-Some-clause-turns : goal.returns-in-Some-clause-turns
returns-in-Some-clause-turns g c =
    let known = rw c.in-Some.is at c.in_ok-seen.ensures.some in
    turn_goes_on c.args.self.now c.loop-spent.self c.args.units c.loop-spent.spent _ c.requires.is_open (omega arith) c.loop-spent.invariant.reaches refl
    (known.1, known.2 ∙ ap (λ (a : Inquiry). Some a) (ap (λ (s : Nielsen). s.ask) c.self.view_is))

pub returns-in-Some-2-clause-turns : goal.returns-in-Some-2-clause-turns
returns-in-Some-2-clause-turns g c =
    let tried = rw c.in-Some-2.is at c.in_ok-end.ensures in
    turn_is_over c.args.self.now c.loop-spent.self _ c.args.units c.loop-spent.spent c.in-Some-2.end (omega arith) c.loop-spent.invariant.reaches (c.self-in-loop-spent.view_is ∙ tried.0) tried.1

pub returns-then-is_done-clause-turns : goal.returns-then-is_done-clause-turns
returns-then-is_done-clause-turns g c =
    let all : c.loop-spent.spent ≡ c.args.units = omega arith in
    turn_is_over c.args.self.now c.loop-spent.self _ c.args.units c.args.units c.in_ok-end-2.end (omega arith) (subst (λ (n : ℕ). Reaches n c.args.self.now c.loop-spent.self) all c.loop-spent.invariant.reaches) c.self-2.view_is c.in_ok-end-2.ensures

pub returns-clause-turns : goal.returns-clause-turns
returns-clause-turns g c =
    let all : c.loop-spent.spent ≡ c.args.units = omega arith in
    turn_goes_on c.args.self.now c.loop-spent.self c.args.units c.args.units _ c.requires.is_open (omega arith) (subst (λ (n : ℕ). Reaches n c.args.self.now c.loop-spent.self) all c.loop-spent.invariant.reaches) refl
    (refl, λ none. true≢false (sym (c.is_done.ensures.1 none) ∙ c.if-is_done.false))
