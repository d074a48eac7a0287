use Rattle.std.proofs.Common.{◌≡◌, ◌-◌, ◌^◌, min, ap, ◌∙◌, arith}
use Rattle.mg_numbers.proofs.BlocksCounts.{ResidueLoop-more, small_modulus, some_residues}
use Rattle.mg_numbers.proofs.blocks.residue_block.Goals as goal

pub overflow_add-size : goal.overflow_add-size
overflow_add-size c =
    let e : c.saturating_pow-tuples.result ≡ min (c.loop-index.size ^ c.args.generators) (2 ^ 64 - 1) = c.saturating_pow-tuples.ensures ∙ ap (λ n. min (n ^ c.args.generators) (2 ^ 64 - 1)) c.from.ensures in
    omega (arith, small_modulus c.args.generators c.args.number c.loop-index.size c.loop-index.index c.saturating_pow-tuples.result c.requires.some c.requires.up_to c.loop-index.invariant e c.if-index-tuples.false)

pub loop-index-smaller : goal.loop-index-smaller
loop-index-smaller c =
    let e : c.saturating_pow-tuples.result ≡ min (c.loop-index.size ^ c.args.generators) (2 ^ 64 - 1) = c.saturating_pow-tuples.ensures ∙ ap (λ n. min (n ^ c.args.generators) (2 ^ 64 - 1)) c.from.ensures in
    omega (arith, some_residues c.args.generators c.loop-index.size c.saturating_pow-tuples.result c.loop-index.invariant.proper e)

pub loop-index-preserved : goal.loop-index-preserved
loop-index-preserved c =
    let e : c.saturating_pow-tuples.result ≡ min (c.loop-index.size ^ c.args.generators) (2 ^ 64 - 1) = c.saturating_pow-tuples.ensures ∙ ap (λ n. min (n ^ c.args.generators) (2 ^ 64 - 1)) c.from.ensures in
    ResidueLoop-more c.args.generators c.args.number c.loop-index.size c.loop-index.index c.saturating_pow-tuples.result c.requires.up_to c.loop-index.invariant e c.if-index-tuples.false
