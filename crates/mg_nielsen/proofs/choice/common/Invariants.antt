use Rattle.std.proofs.Common.{length, ◌-◌, ◌≡◌, ◌+◌, ◌≤◌, drop}
use Rattle.mg_nielsen.specs.Choice.{common}
use Rattle.mg_nielsen.proofs.choice.common.Given as goal

-- the letters before the place are in common
abbrev pub invariant-loop-n : goal.invariant-loop-n
invariant-loop-n l = record {
  first : l.n ≤ length l.u;
  second : l.n ≤ length l.v;
  so_far : l.n + common (drop l.n l.u) (drop l.n l.v) ≡ common l.u l.v;
}

abbrev pub decreases-loop-n : goal.decreases-loop-n
decreases-loop-n l = length l.u - l.n
