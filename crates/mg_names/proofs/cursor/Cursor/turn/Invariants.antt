use Rattle.std.proofs.Common.{◌≡◌, length}
use Rattle.mg_names.specs.Turn.{turn}
use Rattle.mg_names.proofs.cursor.Cursor.turn.Given as goal

abbrev pub invariant-loop-rest : goal.invariant-loop-rest
invariant-loop-rest l = turn l.rest ≡ turn l.self

abbrev pub decreases-loop-rest : goal.decreases-loop-rest
decreases-loop-rest l = length l.rest
