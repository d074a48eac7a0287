use Rattle.std.proofs.Common.{◌≡◌, ◌<◌, ℕ, slice_index}
use Rattle.mg_action.specs.Action.{perm_of_word}
use Rattle.mg_action.proofs.evidence.fixes_each_point.Given as goal

-- the points so far are fixed
abbrev pub invariant-loop-point : goal.invariant-loop-point
invariant-loop-point l = (k : ℕ) → k < l.point → slice_index (perm_of_word l.action l.word) k ≡ k
