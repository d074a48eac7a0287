use Rattle.std.proofs.Common.{rules, ◌≡◌, ◌↔◌, IsTrue, sym, subst, true≢false, arith}
use Rattle.std.proofs.lemmas.Result.{IfOk-weaker}
use Rattle.mg_rulelog.specs.Rule.{all_sides}
use Rattle.mg_rulelog.specs.Tape.{spelled}
use Rattle.mg_rulelog.proofs.Making.{walk_begins, walk_on, walk_stops, walk_ends}
use Rattle.mg_rulelog.proofs.checker.Ground.lead.Goals as goal

pub loop-step-init : goal.loop-step-init
loop-step-init c =
    let same : spelled c.load.new.self ≡ c.args.from.now.letters = search rules in
    walk_begins c.args.self.now.group.now (all_sides c.args.self.now.rules.now) c.args.moves.now c.args.from.now.letters _ c.args.to.now.letters same

pub returns-then-not-branch : goal.returns-then-not-branch
returns-then-not-branch c = (
  λ never. absurd (true≢false (sym never)),
  λ h. absurd (walk_stops c.args.self.now.group.now (all_sides c.args.self.now.rules.now) c.args.moves.now c.loop-step.step-index c.step-item.result c.args.from.now.letters
      (spelled c.loop-step.tape) _ c.args.to.now.letters c.in_ok-make.field-0 c.loop-step-test.true c.step-item.is c.in_ok-make.ensures c.if-not-branch.true c.loop-step.invariant h),
)

pub loop-step-preserved : goal.loop-step-preserved
loop-step-preserved c =
    walk_on c.args.self.now.group.now (all_sides c.args.self.now.rules.now) c.args.moves.now c.loop-step.step-index c.step-item.result c.args.from.now.letters
    (spelled c.loop-step.tape) (spelled c.make.new.tape) c.args.to.now.letters c.loop-step-test.true c.step-item.is
    (c.in_ok-make.ensures.yes c.if-not-branch.false) c.loop-step.invariant

pub returns : goal.returns
returns c =
    IfOk-weaker c.spells.result (λ same. IsTrue same ↔ (spelled c.loop-step.tape ≡ c.letters-2.result.now)) _
    (λ same compared. walk_ends c.args.self.now.group.now (all_sides c.args.self.now.rules.now) c.args.moves.now c.loop-step.step-index c.args.from.now.letters
    (spelled c.loop-step.tape) c.args.to.now.letters same (omega (arith, c.loop-step-test.false)) c.loop-step.invariant
    (subst (λ t. IsTrue same ↔ (spelled c.loop-step.tape ≡ t)) c.letters-2.ensures compared))
    c.spells.ensures
