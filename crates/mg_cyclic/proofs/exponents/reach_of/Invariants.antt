use Rattle.std.proofs.Common.{◌≤◌}
use Rattle.mg_cyclic.proofs.Tallies.{Level}
use Rattle.mg_cyclic.proofs.exponents.reach_of.Given as goal

abbrev pub invariant-loop-reach : goal.invariant-loop-reach
invariant-loop-reach l = record {
  within : l.reach ≤ l.generators;
  level : Level l.reach l.tally.plus l.tally.minus l.generators;
}

abbrev pub decreases-loop-reach : goal.decreases-loop-reach
decreases-loop-reach l = l.reach
