use Rattle.std.specs.Prelude.{map}
use Rattle.mg_workers.specs.Seats.{row_at, turns_ahead}
use Rattle.mg_workers.proofs.Rounds.{Went}
use Rattle.mg_workers.proofs.round.go_round.Given as goal

abbrev pub invariant-loop-seats : goal.invariant-loop-seats
invariant-loop-seats g l =
    Went g.R.Record.recording
    g.S.Searcher.searching
    (g.P.Sizes.is_size l.fn.policy)
    l.fn.searches l.fn.book l.seats.items l.book

abbrev pub decreases-loop-seats : goal.decreases-loop-seats
decreases-loop-seats g l = turns_ahead (map row_at l.seats.items)
