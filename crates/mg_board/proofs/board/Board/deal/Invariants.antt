use Rattle.std.proofs.Common.{◌≡◌, ◌-◌, ◌+◌, ◌≤◌, []}
use Rattle.mg_board.specs.Passes.{dealt}
use Rattle.mg_board.specs.Seats.{newcomer}
use Rattle.mg_board.proofs.board.Board.deal.Given as goal

abbrev pub invariant-loop-dealt : goal.invariant-loop-dealt
invariant-loop-dealt g l = (l.seat.table_id ≡ l.initial.seat.table_id) × (l.seat.me ≡ (newcomer l.initial.self.opening l._dealt (l.initial.passes - l._dealt), [])) × (l.list ≡ dealt l.initial.self 0 l._dealt) × (l._dealt + 1 ≤ l.initial.passes)
