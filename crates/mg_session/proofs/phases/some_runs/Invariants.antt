use Rattle.std.proofs.Common.{◌≡◌, false, take}
use Rattle.std.specs.List.{AllByRecursion}
use Rattle.mg_session.proofs.phases.some_runs.Given as goal

-- none of the first is to run
abbrev pub invariant-loop-takes : goal.invariant-loop-takes
invariant-loop-takes l = AllByRecursion (λ takes. takes ≡ false) (take l.takes-index l.runs)
