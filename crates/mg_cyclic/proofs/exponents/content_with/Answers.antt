use Rattle.std.proofs.Common.{length, arith}
use Rattle.mg_cyclic.proofs.Tallies.{vanishes_with}
use Rattle.mg_cyclic.proofs.exponents.content_with.Goals as goal

pub returns-clause-word : goal.returns-clause-word
returns-clause-word c =
    let tally = c.of-tally.result in
    vanishes_with c.args.generators c.loop-place.common (length c.args.word.now) tally.plus tally.minus c.args.word.now c.requires.few c.requires.over c.of-tally.ensures.tallies c.of-tally.ensures.tally
    (λ n some h j below. (c.loop-place.invariant n some h).1 j (omega (arith, below, c.loop-place-test.false)))
