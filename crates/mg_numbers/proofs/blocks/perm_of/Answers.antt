use Rattle.std.proofs.Common.{◌-◌, ◌%◌, arith, refl, ◌∙◌}
use Rattle.mg_numbers.proofs.PermsSteps.{small_behind, PermFrom-written, IsNth-from_loop}
use Rattle.mg_numbers.proofs.blocks.perm_of.Goals as goal

pub make_room-requires : goal.make_room-requires
make_room-requires c =
    small_behind c.args.index c.loop-start.out c.loop-start.start c.loop-start.rest (c.loop-start.rest % (c.args.degree - (c.loop-start.start - 1))) (omega (arith, c.loop-start.auto.out, c.requires.fits)) (omega arith) c.loop-start.invariant

pub loop-start-preserved : goal.loop-start-preserved
loop-start-preserved c =
    PermFrom-written c.args.index c.loop-start.out c.make_room.new.images c.loop-start.start c.loop-start.rest (c.args.degree - (c.loop-start.start - 1)) (c.loop-start.rest % (c.args.degree - (c.loop-start.start - 1))) (omega arith) c.loop-start.invariant (omega (arith, c.loop-start.auto.out, c.requires.fits)) refl c.make_room.ensures

pub returns : goal.returns
returns c =
    IsNth-from_loop c.args.index c.args.degree c.loop-start.start c.loop-start.rest c.loop-start.out (omega arith) (c.loop-start.auto.out ∙ c.requires.fits) c.requires.there c.loop-start.invariant
