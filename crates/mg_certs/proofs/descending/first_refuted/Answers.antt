use Rattle.std.proofs.Common.{arith, true≢false, sym, ◌∙◌}
use Rattle.mg_certs.specs.Claim.{complete}
use Rattle.mg_certs.proofs.Firsts.{none_more, none_at_all}
use Rattle.mg_certs.proofs.descending.first_refuted.Goals as goal

pub loop-goal-preserved : goal.loop-goal-preserved
loop-goal-preserved c = record {
  all = c.loop-goal.invariant.all;
  none = none_more c.args.ask.now (complete c.args.rules.now) c.loop-goal.goal c.loop-goal.invariant.none (λ h. true≢false (sym (c.in_ok-leaves_letters.ensures.1 h) ∙ c.if-branch.false));
}

pub returns : goal.returns
returns c = none_at_all c.args.ask.now (complete c.args.rules.now) _ _ c.loop-goal.invariant.all (omega (arith, c.loop-goal-test.false)) c.loop-goal.invariant.none
