use Rattle.std.proofs.Common.{◌≡◌, ℕ, ◌%◌, ◌≤◌}
use Rattle.mg_cyclic.proofs.exponents.common_divisor.Given as goal

-- what divides both numbers divides both of the first ones
abbrev pub invariant-loop-rest : goal.invariant-loop-rest
invariant-loop-rest l = (n : ℕ) → 1 ≤ n → l.common % n ≡ 0 → l.rest % n ≡ 0 → (l.left % n ≡ 0) × (l.right % n ≡ 0)

abbrev pub decreases-loop-rest : goal.decreases-loop-rest
decreases-loop-rest l = l.rest
