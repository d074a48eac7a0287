use Rattle.std.proofs.Common.{◌≡◌, ◌<◌, ℕ, slice_index}
use Rattle.mg_action.proofs.lists.is_perm.Given as goal

-- the numbers so far have the places at which they stand
abbrev pub invariant-loop-place : goal.invariant-loop-place
invariant-loop-place l = (k : ℕ) → k < l.place → slice_index l.places (slice_index l.list k) ≡ k
