use Rattle.std.proofs.Common.{length, subst, arith}
use Rattle.mg_tables.specs.Enumerating.{Imaging}
use Rattle.mg_tables.proofs.Spotting.{images_next}
use Rattle.mg_tables.proofs.images.all_images.Goals as goal

pub loop-place-preserved : goal.loop-place-preserved
loop-place-preserved c =
    images_next c.args.table.now.places c.loop-place.place c.loop-place.images.items c.push_images.new.images.items (length c.args.table.now.places) (omega arith) (omega arith) c.loop-place.invariant
    (subst (λ x. Imaging c.args.table.now.places x c.loop-place.images.items c.push_images.new.images.items (length c.args.table.now.places)) c.generator_at.ensures c.in_ok-push_images.ensures)
