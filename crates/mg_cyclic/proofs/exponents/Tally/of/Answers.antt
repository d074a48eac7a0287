use Rattle.std.proofs.Common.{arith}
use Rattle.mg_cyclic.proofs.Tallies.{tallies_none, tally_none, tallies_more}
use Rattle.mg_cyclic.proofs.exponents.Tally.of.Goals as goal

pub loop-letter-init : goal.loop-letter-init
loop-letter-init c =
    let none = c.none-tally.ensures in
    record { tallies = tallies_none c.none-tally.result.plus c.none-tally.result.minus none.plus none.minus; tally = tally_none c.none-tally.result.plus c.none-tally.result.minus none.plus none.minus }

pub loop-letter-preserved : goal.loop-letter-preserved
loop-letter-preserved c =
    let old = c.loop-letter.tally in
    let new = c.count.new.self in
    let i = c.loop-letter.invariant in
    let tally = c.count.ensures.tally c.loop-letter.letter-index i.tally in
    record {
      tallies = tallies_more old.plus old.minus new.plus new.minus c.args.word.now c.loop-letter.letter-index c.loop-letter.letter-index c.letter-item.result c.letter-item.is (omega (arith, c.loop-letter-test.true)) i.tally c.count.ensures.adds tally i.tallies;
      tally = tally;
    }
