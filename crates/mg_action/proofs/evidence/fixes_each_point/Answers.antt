use Rattle.std.proofs.Common.{◌<◌, refl, arith}
use Rattle.mg_action.proofs.Words.{fixes_points, moves_a_point}
use Rattle.mg_action.proofs.evidence.fixes_each_point.Goals as goal

pub returns-then-image-point : goal.returns-then-image-point
returns-then-image-point c =
    let below : c.loop-point.point < c.args.action.now.degree = omega (arith, c.degree-point-end.ensures.value) in
    ((λ t. cc), λ e. absurd (moves_a_point c.args.action.now c.args.word.now c.loop-point.point c.image.result below c.image.ensures c.if-image-point.true e))

pub returns : goal.returns
returns c = (
  (λ t. fixes_points c.args.action.now c.degree-point-end.ensures.perms c.args.word.now (λ k h. c.loop-point.invariant k (omega (arith, c.degree-point-end.ensures.value)))),
  λ e. refl,
)
