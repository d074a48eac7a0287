use Rattle.mg_tables.proofs.Finding.{StandsFor}
use Rattle.mg_tables.proofs.join.find.Given as goal

abbrev pub invariant-loop-generators : goal.invariant-loop-generators
invariant-loop-generators l = StandsFor l.generators l.places l.entries l.place l.row

abbrev pub decreases-loop-generators : goal.decreases-loop-generators
decreases-loop-generators l = l.row
