use Rattle.std.proofs.Common.{◌≡◌, ℕ, ◌%◌, ◌≤◌}
use Rattle.mg_cyclic.proofs.Tallies.{Multiples}
use Rattle.mg_cyclic.proofs.exponents.content_with.Given as goal

-- what divides the number divides the first one and the exponent sums so far
abbrev pub invariant-loop-place : goal.invariant-loop-place
invariant-loop-place l = (n : ℕ) → 1 ≤ n → l.common % n ≡ 0 → (l.content % n ≡ 0) × Multiples n l.tally.plus l.tally.minus l.place
