use Rattle.std.proofs.Common.{length}
use Rattle.mg_session.proofs.Joining.{Joining}
use Rattle.mg_session.proofs.parts.join.Given as goal

abbrev pub invariant-loop-place : goal.invariant-loop-place
invariant-loop-place l = Joining (length l.searches.items) l.fn.places.items l.fn.ran l.fn.ledger l.searches.items l.places.items l.ran.items l.ledger

abbrev pub decreases-loop-place : goal.decreases-loop-place
decreases-loop-place l = length l.places.items
