use Rattle.std.proofs.Common.{length}
use Rattle.mg_cyclic.proofs.Tallies.{depends_on_first}
use Rattle.mg_cyclic.proofs.exponents.reach_of.Goals as goal

pub returns-else-exponent-eq0 : goal.returns-else-exponent-eq0
returns-else-exponent-eq0 c =
    let tally = c.of-tally.result in
    depends_on_first c.args.generators c.loop-reach.reach (length c.args.word.now) tally.plus tally.minus c.args.word.now c.requires.few c.requires.over c.of-tally.ensures.tallies c.of-tally.ensures.tally c.loop-reach.invariant.level

pub returns-after-loop-reach : goal.returns-after-loop-reach
returns-after-loop-reach c =
    let tally = c.of-tally.result in
    depends_on_first c.args.generators c.loop-reach.reach (length c.args.word.now) tally.plus tally.minus c.args.word.now c.requires.few c.requires.over c.of-tally.ensures.tallies c.of-tally.ensures.tally c.loop-reach.invariant.level
