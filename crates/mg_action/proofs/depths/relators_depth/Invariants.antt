use Rattle.std.proofs.Common.{◌≤◌}
use Rattle.mg_action.specs.Walk.{NoneBegin}
use Rattle.mg_action.proofs.depths.relators_depth.Given as goal

abbrev pub invariant-loop-place : goal.invariant-loop-place
invariant-loop-place l = record { some : 1 ≤ l.depth; most : l.depth ≤ l.most; none : NoneBegin l.ask l.action l.depth }
