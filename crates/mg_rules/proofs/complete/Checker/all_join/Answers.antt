use Rattle.std.proofs.Common.{◌≡◌, true, false, refl}
use Rattle.mg_rules.specs.Checking.{ResultsFall}
use Rattle.mg_rules.proofs.Orders.{checked_none, checked_next, checked_all, next_nearer}
use Rattle.mg_rules.proofs.Checks.{meets_from}
use Rattle.mg_rules.proofs.complete.Checker.all_join.Goals as goal

pub loop-next-init : goal.loop-next-init
loop-next-init c = checked_none c.args.rules.now (ResultsFall c.args.rules.now) c.before_all-at.result c.before_all-at.ensures.value c.before_all-at.ensures.before

pub returns-then-not-branch : goal.returns-then-not-branch
returns-then-not-branch c = (
  λ (t : false ≡ true). absurd cc,
  λ h. (let passes : c.in_ok-joins.field-0 ≡ true = c.in_ok-joins.ensures.1 (h c.in-Some.next) in let fails : c.in_ok-joins.field-0 ≡ false = c.if-not-branch.true in cc),
)

pub loop-next-smaller : goal.loop-next-smaller
loop-next-smaller c = next_nearer c.args.rules.now c.loop-next.at c.in-Some.next c.loop-next.invariant.below c.in-Some.ensures.some

pub loop-next-preserved : goal.loop-next-preserved
loop-next-preserved c =
    checked_next c.args.rules.now (ResultsFall c.args.rules.now) c.loop-next.at c.in-Some.next c.loop-next.invariant c.in-Some.ensures.some (c.in_ok-joins.ensures.0 c.if-not-branch.false)

pub returns : goal.returns
returns c = (
  λ t m u v r. checked_all c.args.rules.now (ResultsFall c.args.rules.now) c.loop-next.at c.loop-next.invariant c.in_default.ensures.none m (meets_from c.args.rules.now m u v r) u v r,
  λ h. refl,
)
