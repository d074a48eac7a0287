use Rattle.mg_tables.specs.Collapse.{LeadsOn, left_to_do}
use Rattle.mg_tables.specs.Looking.{Touched}
use Rattle.mg_tables.proofs.join.collapse.Given as goal

abbrev pub invariant-loop-pair : goal.invariant-loop-pair
invariant-loop-pair l =
    LeadsOn l.generators l.places l.initial.entries l.initial.pairs.items l.entries l.pairs.items
    × Touched l.generators l.places l.initial.entries l.entries l.initial.touched.items l.touched.items

abbrev pub decreases-loop-pair : goal.decreases-loop-pair
decreases-loop-pair l = left_to_do l.generators l.places l.entries l.pairs.items
