use Rattle.mg_tables.proofs.Leading.{RowMoving}
use Rattle.mg_tables.proofs.join.move_row.Given as goal

abbrev pub invariant-loop-place : goal.invariant-loop-place
invariant-loop-place l =
    RowMoving l.generators l.places l.keep l.go l.place l.initial.entries l.initial.pairs.items l.entries l.pairs.items
