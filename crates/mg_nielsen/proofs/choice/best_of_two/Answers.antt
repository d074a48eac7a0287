use Rattle.std.proofs.Common.{ℕ, false, subst, arith, ◌≤◌}
use Rattle.mg_nielsen.specs.Choice.{left_by}
use Rattle.mg_nielsen.specs.declared.choice.Pick.TheVariants.{Two}
use Rattle.mg_nielsen.proofs.Choosing.{factor_reduced, cut_value, cut_reduced, two_value, least_next}
use Rattle.mg_nielsen.proofs.choice.best_of_two.Goals as goal

pub split_quotient_length-left-requires-clause-first : goal.split_quotient_length-left-requires-clause-first
split_quotient_length-left-requires-clause-first c = factor_reduced c.args.members.now c.loop-number.number false c.factor-in-loop-number.result.now c.requires.members c.factor-in-loop-number.ensures

pub split_quotient_length-left-requires-clause-second : goal.split_quotient_length-left-requires-clause-second
split_quotient_length-left-requires-clause-second c =
    cut_reduced c.args.members.now c.args.rest.now c.factor-word.result.now c.factor.result.now c.args.first c.common-n.result c.factor-word.ensures c.factor.ensures c.common-n.ensures.common
    (factor_reduced c.args.members.now c.args.first false c.factor-word.result.now c.requires.members c.factor-word.ensures) c.requires.rest

pub better-best-requires-clause-left : goal.better-best-requires-clause-left
better-best-requires-clause-left c =
    two_value c.args.members.now c.args.rest.now _ c.factor-in-loop-number.result.now c.args.first c.loop-number.number c.split_quotient_length-left.result c.split_quotient_length-left.ensures c.factor-in-loop-number.ensures
    (cut_value c.args.members.now c.args.rest.now c.factor-word.result.now c.factor.result.now c.args.first c.common-n.result c.factor-word.ensures c.factor.ensures c.common-n.ensures.common
    (factor_reduced c.args.members.now c.args.first false c.factor-word.result.now c.requires.members c.factor-word.ensures) c.requires.rest)

pub loop-number-preserved : goal.loop-number-preserved
loop-number-preserved c = record {
  best = c.better-best.ensures.best;
  no_more = omega arith;
  all = least_next (λ n. left_by c.args.members.now c.args.rest.now (Two c.args.first n)) c.loop-number.number c.loop-number.best.left c.better-best.result.left c.loop-number.invariant.all c.better-best.ensures.no_more
      (subst (λ (k : ℕ). c.better-best.result.left ≤ k)
      (two_value c.args.members.now c.args.rest.now _ c.factor-in-loop-number.result.now c.args.first c.loop-number.number c.split_quotient_length-left.result c.split_quotient_length-left.ensures c.factor-in-loop-number.ensures
      (cut_value c.args.members.now c.args.rest.now c.factor-word.result.now c.factor.result.now c.args.first c.common-n.result c.factor-word.ensures c.factor.ensures c.common-n.ensures.common
      (factor_reduced c.args.members.now c.args.first false c.factor-word.result.now c.requires.members c.factor-word.ensures) c.requires.rest))
      c.better-best.ensures.other);
}
