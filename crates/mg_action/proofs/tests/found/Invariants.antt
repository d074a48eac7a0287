use Rattle.std.proofs.Common.{◌≡◌, true, ◌-◌, ◌≤◌}
use Rattle.mg_action.proofs.tests.found.Given as goal

abbrev pub invariant-loop-search : goal.invariant-loop-search
invariant-loop-search l = record { goes_on : l.search.is_open ≡ true; some : 1 ≤ l.turn; short : l.turn ≤ 1024; few : l.most ≤ 1000000 }

abbrev pub decreases-loop-search : goal.decreases-loop-search
decreases-loop-search l = l.most - l.search.cursor
