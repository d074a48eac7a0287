use Rattle.std.proofs.Common.{arith}
use Rattle.mg_numbers.specs.Perms.{factorial}
use Rattle.mg_numbers.proofs.BlocksSteps.{DigitsFrom-more, AreDigits-from_loop}
use Rattle.mg_numbers.proofs.PermsRank.{factorial-pos}
use Rattle.mg_numbers.proofs.blocks.perm_places.Goals as goal

pub nonzero_rem-out : goal.nonzero_rem-out
nonzero_rem-out c = omega (arith, factorial-pos c.args.degree)

pub nonzero_div-rest : goal.nonzero_div-rest
nonzero_div-rest c = omega (arith, factorial-pos c.args.degree)

pub loop-place-preserved : goal.loop-place-preserved
loop-place-preserved c =
    DigitsFrom-more c.perm_count-perms.result c.args.index c.loop-place.out c.loop-place.place c.loop-place.rest (omega (arith, factorial-pos c.args.degree)) (omega arith) c.loop-place.invariant

pub returns-clause-digits : goal.returns-clause-digits
returns-clause-digits c =
    (AreDigits-from_loop c.perm_count-perms.result (factorial c.args.degree) c.args.index _ c.loop-place.place c.loop-place.rest c.loop-place.out c.perm_count-perms.ensures (omega arith) c.loop-place.auto.out c.requires.there c.loop-place.invariant).0

pub returns-clause-below : goal.returns-clause-below
returns-clause-below c =
    (AreDigits-from_loop c.perm_count-perms.result (factorial c.args.degree) c.args.index _ c.loop-place.place c.loop-place.rest c.loop-place.out c.perm_count-perms.ensures (omega arith) c.loop-place.auto.out c.requires.there c.loop-place.invariant).1
