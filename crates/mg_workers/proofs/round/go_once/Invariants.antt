use Rattle.mg_workers.proofs.Rounds.{Goes}
use Rattle.mg_workers.proofs.round.go_once.Given as goal

abbrev pub invariant-loop-seat : goal.invariant-loop-seat
invariant-loop-seat g l =
    Goes g.R.Record.recording
    g.S.Searcher.searching
    (g.P.Sizes.is_size l.fn.policy)
    l.fn.seats l.fn.book l.seats l.book l.some l.seat-index
