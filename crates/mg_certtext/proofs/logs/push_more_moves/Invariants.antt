use Rattle.std.proofs.Common.{◌≡◌, ◌++◌, take}
use Rattle.std.specs.Prelude.{map}
use Rattle.mg_certtext.specs.Logs.{move_pieces}
use Rattle.mg_certtext.specs.Pieces.{spaced, more_listed}
use Rattle.mg_certtext.proofs.logs.push_more_moves.Given as goal

abbrev pub invariant-loop-told : goal.invariant-loop-told
invariant-loop-told l = l.out.items ≡ l.fn.out.items ++ spaced (more_listed (map (move_pieces l.names) (take l.told-index l.moves)))
