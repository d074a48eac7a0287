use Rattle.std.proofs.Common.{◌≡◌, ◌++◌, length, map, reverse}
use Rattle.mg_workers.specs.Seats.{seat_of}
use Rattle.mg_workers.proofs.seat.seats_of.Given as goal

abbrev pub invariant-loop-held : goal.invariant-loop-held
invariant-loop-held g l = map seat_of l.fn.searches ≡ map seat_of l.searches ++ reverse l.seats.items

abbrev pub decreases-loop-held : goal.decreases-loop-held
decreases-loop-held g l = length l.searches
