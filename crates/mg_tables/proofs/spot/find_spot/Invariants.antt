use Rattle.mg_tables.specs.Enumerating.{IsFullBefore}
use Rattle.mg_tables.proofs.spot.find_spot.Given as goal

abbrev pub invariant-loop-row : goal.invariant-loop-row
invariant-loop-row l = IsFullBefore l.table.generators l.table.places l.row
