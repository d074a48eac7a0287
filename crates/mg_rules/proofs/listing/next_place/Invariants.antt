use Rattle.std.proofs.Common.{◌≤◌, ◌+◌, ◌-◌, ℕ, length}
use Rattle.mg_rules.specs.Meeting.{MeetAt}
use Rattle.mg_rules.specs.Listing.{IsBehind}
use Rattle.mg_rules.proofs.listing.next_place.Given as goal

-- the place stands behind the last one, and none before it does that the left sides meet at
abbrev pub invariant-loop-place : goal.invariant-loop-place
invariant-loop-place l = record {
  behind : IsBehind l.fn.last l.place;
  earlier : (p : ℕ) → IsBehind l.fn.last p → MeetAt l.i l.j l.first l.second p → l.place ≤ p;
}

abbrev pub decreases-loop-place : goal.decreases-loop-place
decreases-loop-place l = length l.first + 1 - l.place
