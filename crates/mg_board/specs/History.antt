-- A history is a list of stamps, and each stamp has a number. The own list of a number is the list of its stamps.
use Rattle.std.specs.Prelude.{◌≡◌, ℕ, ◌⊎◌, List, [], ◌∷◌, length, filter, nat_eq, nat_lt, if◌then◌else◌}
use mathlib.Core.List.{IsPrefix}

-- the own list of a number in a log
abbrev pub stamps_of : {X : Type 0} → (X → ℕ) → ℕ → List X → List X
stamps_of by n log = filter (λ x. nat_eq (by x) n) log

-- the number is one of these
abbrev pub IsAmong : ℕ → List ℕ → Type 0
IsAmong n [] = ⊥
IsAmong n (m ∷ ms) = (n ≡ m) ⊎ IsAmong n ms

-- a log that begins with what was seen, and in which the own lists of these numbers are as they were
pub record Reaches {X : Type 0} (by : X → ℕ) (numbers : List ℕ) (seen log : List X) : Type 0 where
  pub begins : IsPrefix seen log
  pub own : (n : ℕ) → IsAmong n numbers → stamps_of by n log ≡ stamps_of by n seen

-- the longer of two logs
abbrev pub longer : {X : Type 0} → List X → List X → List X
longer xs ys = if nat_lt (length xs) (length ys) then ys else xs
