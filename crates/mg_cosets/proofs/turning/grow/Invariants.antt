use Rattle.std.specs.Prelude.{◌≡◌, ◌+◌, ◌-◌, ◌≤◌}
use Rattle.mg_cosets.proofs.turning.grow.Given as goal

abbrev pub invariant-loop-spent : goal.invariant-loop-spent
invariant-loop-spent l =
    (l.enumeration.group ≡ l.initial.enumeration.group) × (l.enumeration.subgroup ≡ l.initial.enumeration.subgroup) ×
    (l.enumeration.units ≡ l.initial.enumeration.units + l.spent) × (l.spent ≤ l.units)

abbrev pub decreases-loop-spent : goal.decreases-loop-spent
decreases-loop-spent l = l.units - l.spent
