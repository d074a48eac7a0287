use Rattle.std.proofs.Common.{◌≡◌, ◌++◌, take}
use Rattle.std.specs.List.{flat_map}
use Rattle.mg_certtext.specs.Pieces.{spaced}
use Rattle.mg_certtext.specs.Logs.{goal_pieces}
use Rattle.mg_certtext.proofs.logs.push_goals.Given as goal

abbrev pub invariant-loop-moves : goal.invariant-loop-moves
invariant-loop-moves l = l.out.items ≡ l.fn.out.items ++ spaced (flat_map (goal_pieces l.names) (take l.moves-index l.goals))
