use Rattle.std.proofs.Common.{length}
use Rattle.mg_session.proofs.Joining.{Parting}
use Rattle.mg_session.proofs.parts.part.Given as goal

abbrev pub invariant-loop-kept : goal.invariant-loop-kept
invariant-loop-kept l = Parting (length l.places.items) l.runs l.fn.searches.items l.ledger.cells l.places.items l.running l.searches.items

abbrev pub decreases-loop-kept : goal.decreases-loop-kept
decreases-loop-kept l = length l.searches.items
