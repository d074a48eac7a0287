use Rattle.std.proofs.Common.{ℕ, ◌<◌}
use Rattle.mg_action.specs.Action.{Refutes}
use Rattle.mg_action.proofs.evidence.first_refuted.Given as goal

abbrev pub invariant-loop-place : goal.invariant-loop-place
invariant-loop-place l = (k : ℕ) → k < l.place → Refutes l.ask k l.action → ⊥
