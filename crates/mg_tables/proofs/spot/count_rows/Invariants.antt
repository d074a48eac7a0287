use Rattle.std.specs.Prelude.{◌≡◌}
use Rattle.mg_tables.specs.Gaps.{number}
use Rattle.mg_tables.proofs.spot.count_rows.Given as goal

abbrev pub invariant-loop-place : goal.invariant-loop-place
invariant-loop-place l = l.rows ≡ number l.table.places l.place
