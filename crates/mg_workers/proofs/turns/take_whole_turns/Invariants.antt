use Rattle.std.proofs.Common.{◌-◌}
use Rattle.mg_workers.proofs.Rounds.{Wholly}
use Rattle.mg_workers.proofs.turns.take_whole_turns.Given as goal

-- the search has made whole turns
abbrev pub invariant-loop-alloc : goal.invariant-loop-alloc
invariant-loop-alloc g l =
    Wholly g.R.Record.recording
    g.S.Searcher.searching
    (g.P.Sizes.is_size l.fn.policy)
    l.fn.seat l.fn.book l.units l.seat l.book l.used l.turns l.read

abbrev pub decreases-loop-alloc : goal.decreases-loop-alloc
decreases-loop-alloc g l = l.fn.seat.held.allowed - l.used
