use Rattle.std.proofs.Common.{arith}
use Rattle.mg_numbers.proofs.BlocksSteps.{DigitsFrom-more, AreDigits-from_loop}
use Rattle.mg_numbers.proofs.blocks.residues_of.Goals as goal

pub loop-place-preserved : goal.loop-place-preserved
loop-place-preserved c =
    DigitsFrom-more c.from-base.result c.args.index c.loop-place.out c.loop-place.place c.loop-place.rest (omega arith) (omega arith) c.loop-place.invariant

pub returns-clause-digits : goal.returns-clause-digits
returns-clause-digits c =
    (AreDigits-from_loop c.from-base.result c.args.modulus c.args.index _ c.loop-place.place c.loop-place.rest c.loop-place.out c.from-base.ensures (omega arith) c.loop-place.auto.out c.requires.there c.loop-place.invariant).0

pub returns-clause-below : goal.returns-clause-below
returns-clause-below c =
    (AreDigits-from_loop c.from-base.result c.args.modulus c.args.index _ c.loop-place.place c.loop-place.rest c.loop-place.out c.from-base.ensures (omega arith) c.loop-place.auto.out c.requires.there c.loop-place.invariant).1
