use Rattle.mg_tables.proofs.Ways.{Led}
use Rattle.mg_tables.proofs.scan.ahead.Given as goal

-- the letters before the place lead to the row
abbrev pub invariant-loop-place : goal.invariant-loop-place
invariant-loop-place l = Led l.table.places l.row l.word l.place l.way
