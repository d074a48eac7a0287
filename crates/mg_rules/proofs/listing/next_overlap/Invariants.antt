use Rattle.std.proofs.Common.{◌≡◌, ◌+◌, ◌∷◌, [], max, min, length}
use Rattle.mg_rules.proofs.Orders.{left_over, OnTheWay}
use Rattle.mg_rules.proofs.listing.next_overlap.Given as goal

-- what comes behind the meeting is what comes behind the place in the pair, or in a pair behind it
abbrev pub invariant-loop-next : goal.invariant-loop-next
invariant-loop-next l = record {
  way : OnTheWay l.rules l.fn.from l.i l.j l.last;
  count : l.count ≡ length l.rules;
}

abbrev pub decreases-loop-next : goal.decreases-loop-next
decreases-loop-next l = left_over (l.count + 1) (max l.i l.j ∷ min l.i l.j ∷ l.i ∷ [])
