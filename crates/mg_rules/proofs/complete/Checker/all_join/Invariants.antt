use Rattle.mg_rules.specs.Listing.{order_of}
use Rattle.mg_rules.specs.Checking.{ResultsFall}
use Rattle.mg_rules.proofs.Orders.{Checked, left_over, meeting_base}
use Rattle.mg_rules.proofs.complete.Checker.all_join.Given as goal

-- the results of those up to here fall together
abbrev pub invariant-loop-next : goal.invariant-loop-next
invariant-loop-next l = Checked l.rules (ResultsFall l.rules) l.at

abbrev pub decreases-loop-next : goal.decreases-loop-next
decreases-loop-next l = left_over (meeting_base l.rules) (order_of l.at)
