use Rattle.std.proofs.Common.{take}
use Rattle.std.specs.List.{AllByRecursion}
use Rattle.mg_session.specs.At.{IsKeptFor}
use Rattle.mg_session.proofs.places.place_among.Given as goal

-- none of the first is it
abbrev pub invariant-loop-place : goal.invariant-loop-place
invariant-loop-place l = AllByRecursion (λ kept. IsKeptFor l.question l.procedure kept → ⊥) (take l.place l.searches)
