use Rattle.std.proofs.Common.{◌-◌}
use Rattle.mg_tables.proofs.Ways.{LedBack}
use Rattle.mg_tables.proofs.scan.behind.Given as goal

-- the inverse of the letters from the place on leads to the row
abbrev pub invariant-loop-place : goal.invariant-loop-place
invariant-loop-place l = LedBack l.table.places l.row l.word l.least l.place l.way

abbrev pub decreases-loop-place : goal.decreases-loop-place
decreases-loop-place l = l.place - l.least
