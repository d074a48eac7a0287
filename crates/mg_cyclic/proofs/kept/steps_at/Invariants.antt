use Rattle.std.proofs.Common.{◌≡◌, ℕ, ◌<◌, length, get_or}
use Rattle.mg_cyclic.specs.Exponents.{brought}
use Rattle.mg_cyclic.proofs.kept.steps_at.Given as goal

abbrev pub invariant-loop-place : goal.invariant-loop-place
invariant-loop-place l = record {
  count : length l.steps ≡ 64;
  filled : (k : ℕ) → k < l.place → get_or l.steps k 0 ≡ brought l.modulus (get_or l.tally.plus k 0) (get_or l.tally.minus k 0);
}
