use Rattle.mg_session.proofs.Onward.{allowed_of}
use Rattle.mg_session.proofs.Phasing.{ReadingOn}
use Rattle.mg_session.proofs.state.Session.read_on.Given as goal

abbrev pub invariant-loop-alloc : goal.invariant-loop-alloc
invariant-loop-alloc g l = ReadingOn (g.P.Sizes.is_size l.fn.policy) l.fn.self l.session l.runs.items

abbrev pub decreases-loop-alloc : goal.decreases-loop-alloc
decreases-loop-alloc g l = allowed_of l.session.searches
