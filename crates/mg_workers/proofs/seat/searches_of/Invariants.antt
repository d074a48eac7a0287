use Rattle.std.proofs.Common.{◌≡◌, map}
use Rattle.mg_workers.specs.declared.seat.Seat.{Seat}
use Rattle.mg_workers.proofs.seat.searches_of.Given as goal

abbrev pub invariant-loop-seat : goal.invariant-loop-seat
invariant-loop-seat g l = l.searches ≡ map (λ (seat : Seat g.row.S.Denot). seat.held) l.yielded
