-- Maps to residues by number.
use Rattle.std.specs.Prelude.{ℕ}
use Rattle.mg_numbers.specs.Residues.{ResidueTuple, IsResidueTupleAt}
use Rattle.mg_present.specs.Ask.{Inquiry}
use Rattle.mg_cyclic.specs.Map.{Refutes}

-- the map of so many generators with the number n: the n-th tuple of residues
abbrev pub IsNumbered : ℕ → ResidueTuple → ℕ → Type 0
IsNumbered generators map n = IsResidueTupleAt generators n map

-- the map with the number n refutes a goal of the Ask
pub record RefutedAt (ask : Inquiry) (n : ℕ) : Type 0 where
  pub map : ResidueTuple
  pub numbered : IsNumbered ask.group.generators map n
  pub goal : ℕ
  pub refutes : Refutes ask goal map
