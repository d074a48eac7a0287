use Rattle.mg_tables.specs.Enumerating.{Imaging}
use Rattle.mg_tables.proofs.images.push_images.Given as goal

abbrev pub invariant-loop-place : goal.invariant-loop-place
invariant-loop-place l = Imaging l.table.places l.letter l.initial.images.items l.images.items l.place
