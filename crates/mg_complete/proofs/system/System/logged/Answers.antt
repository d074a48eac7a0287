use Rattle.std.proofs.Common.{ap, ◌∙◌, arith}
use Rattle.mg_rules.specs.Rule.{Rule}
use Rattle.mg_complete.proofs.Affirming.{logged_next}
use Rattle.mg_complete.proofs.system.System.logged.Goals as goal

pub loop-place-preserved : goal.loop-place-preserved
loop-place-preserved c =
    logged_next c.args.self.now.rules c.pairs-pairs.result.now c.args.self.now.reasons c.as_slice-reasons.result.now c.loop-place.place c.loop-place.rules c.push.new.self c.index-pairs-place.result
    c.in_ok-copy.field-0.letters c.in_ok-copy-2.field-0.letters c.index-reasons-place.result c.in_ok-copy_moves.field-0
    c.pairs-pairs.ensures c.as_slice-reasons.ensures c.requires (grind (arith, c.loop-place-test.true)) c.index-pairs-place.is c.index-reasons-place.is
    (c.in_ok-copy.ensures ∙ ap (λ (r : Rule). r.left) c.pair.view_is) (c.in_ok-copy-2.ensures ∙ ap (λ (r : Rule). r.right) c.pair.view_is) (c.in_ok-copy_moves.ensures ∙ c.as_slice.ensures) c.loop-place.invariant c.in_ok-push.ensures.ok
