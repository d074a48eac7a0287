-- Bytes that a source has left and that a sink has taken, where they are told.
use Rattle.std.specs.Prelude.{ℕ, ◌≡◌, ◌<◌, ◌≤◌, List, [], length, Option, Some, Result, IfOk, IfSome}
use Rattle.std.specs.Io.KnownBytes.{Consumes}

-- at `Ok(n)`, n is from 1 to the length of the piece
abbrev pub TakesSome : {E : Type 0} → Result ℕ E → List ℕ → Type 0
TakesSome result piece = IfOk result (λ n. (0 < n) × (n ≤ length piece))

-- told bytes were read to their end, and these are they
abbrev pub ReadsWhole : Option (List ℕ) → Option (List ℕ) → List ℕ → Type 0
ReadsWhole old new bytes = IfSome old (λ all. (bytes ≡ all) × (new ≡ Some []))

-- told bytes lost at most n at their front
abbrev pub LosesUpTo : Option (List ℕ) → Option (List ℕ) → ℕ → Type 0
LosesUpTo old new n = (bytes : List ℕ) × Consumes old new bytes × (length bytes ≤ n)
