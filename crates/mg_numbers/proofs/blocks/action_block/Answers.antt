use Rattle.std.proofs.Common.{◌≡◌, ◌+◌, ◌*◌, ◌-◌, ◌^◌, min, ap, subst, sym, ◌∙◌, arith}
use Rattle.mg_numbers.proofs.BlocksCounts.{ActionLoop, ActionLoop-more, some_tuples, within_block}
use Rattle.mg_numbers.proofs.blocks.action_block.Goals as goal

pub returns-then-index-tuples-clause-within : goal.returns-then-index-tuples-clause-within
returns-then-index-tuples-clause-within c =
    within_block c.args.generators c.args.number c.loop-index.size c.loop-index.index c.loop-index.perms c.saturating_pow-tuples.result c.loop-index.invariant c.saturating_pow-tuples.ensures c.if-index-tuples.true

pub loop-index-smaller : goal.loop-index-smaller
loop-index-smaller c =
    omega (arith, some_tuples c.args.generators c.args.number c.loop-index.size c.loop-index.index c.loop-index.perms c.saturating_pow-tuples.result c.loop-index.invariant c.saturating_pow-tuples.ensures)

pub loop-index-preserved : goal.loop-index-preserved
loop-index-preserved c =
    let e : c.saturating_mul-perms.result ≡ min (c.loop-index.perms * (c.loop-index.size + 1)) (2 ^ 64 - 1) = c.saturating_mul-perms.ensures ∙ ap (λ n. min (c.loop-index.perms * n) (2 ^ 64 - 1)) c.from.ensures in
    subst (λ p. ActionLoop c.args.generators c.args.number (c.loop-index.size + 1) (c.loop-index.index - c.saturating_pow-tuples.result) p) (sym e) (ActionLoop-more c.args.generators c.args.number c.loop-index.size c.loop-index.index c.loop-index.perms c.saturating_pow-tuples.result c.requires.some c.requires.up_to c.loop-index.invariant c.saturating_pow-tuples.ensures c.if-index-tuples.false)
