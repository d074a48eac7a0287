use Rattle.mg_rules.specs.Listing.{order_of}
use Rattle.mg_rules.proofs.Orders.{Listed, left_over, meeting_base}
use Rattle.mg_rules.proofs.listing.overlaps.Given as goal

-- those up to here are in the list
abbrev pub invariant-loop-next : goal.invariant-loop-next
invariant-loop-next l = Listed l.rules l.list l.at

abbrev pub decreases-loop-next : goal.decreases-loop-next
decreases-loop-next l = left_over (meeting_base l.rules) (order_of l.at)
