-- Actions by number.
use Rattle.std.specs.Prelude.{ℕ}
use Rattle.mg_numbers.specs.Perms.{PermTuple, IsPermTupleAt}
use Rattle.mg_present.specs.Ask.{Inquiry}
use Rattle.mg_action.specs.Action.{Refutes}

-- the action of so many generators with the number n: the n-th tuple of permutations
abbrev pub IsNumbered : ℕ → PermTuple → ℕ → Type 0
IsNumbered generators action n = IsPermTupleAt generators n action

-- the action with the number n refutes a goal of the Ask
pub record RefutedAt (ask : Inquiry) (n : ℕ) : Type 0 where
  pub action : PermTuple
  pub numbered : IsNumbered ask.group.generators action n
  pub goal : ℕ
  pub refutes : Refutes ask goal action
