use Rattle.mg_tables.specs.Gaps.{packed}
use Rattle.mg_tables.specs.Enumerating.{AreImages}
use Rattle.mg_tables.proofs.images.all_images.Given as goal

abbrev pub invariant-loop-place : goal.invariant-loop-place
invariant-loop-place l = AreImages l.place (packed l.table.places) l.images.items
