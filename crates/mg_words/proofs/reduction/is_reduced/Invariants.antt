use Rattle.std.proofs.Common.{ℕ, ◌+◌, ◌<◌, ◌≢◌, pos, neg_ℤ, get_or}
use Rattle.mg_words.proofs.reduction.is_reduced.Given as goal

-- before the place no letter stands next to its inverse
abbrev pub invariant-loop-place : goal.invariant-loop-place
invariant-loop-place l = (k : ℕ) → k + 1 < l.place → get_or l.letters (k + 1) (pos 0) ≢ neg_ℤ (get_or l.letters k (pos 0))
