-- A search that tests the numbers from 1 in order for a property, in turns of some units, one number a unit. Its cursor
-- is the last number that was tested.
use Rattle.std.specs.Prelude.{◌≡◌, ℕ, ◌+◌, ◌-◌, ◌<◌, ◌≤◌}

-- no number above `low` and up to `high` has the property
abbrev pub NoneAmong : (ℕ → Type 0) → ℕ → ℕ → Type 0
NoneAmong P low high = (k : ℕ) → low < k → k ≤ high → P k → ⊥

-- n is the least number from 1 that has the property
pub record First (P : ℕ → Type 0) (n : ℕ) : Type 0 where
  pub from : 1 ≤ n
  pub holds : P n
  pub least : (k : ℕ) → 1 ≤ k → k < n → P k → ⊥

-- a turn that tests all of its units: no number tested has the property
pub record TestsAll (P : ℕ → Type 0) (cursor units spent : ℕ) : Type 0 where
  pub all : spent ≡ units
  pub none : NoneAmong P cursor (cursor + spent)

-- a turn that ends at the first number that has the property
pub record FindsFirst (P : ℕ → Type 0) (cursor units spent : ℕ) : Type 0 where
  pub some : 1 ≤ spent
  pub within : spent ≤ units
  pub holds : P (cursor + spent)
  pub none_before : NoneAmong P cursor (cursor + spent - 1)

-- a turn that ends early for a reason of its own, having passed over no number that has the property
pub record PassesNone (P : ℕ → Type 0) (cursor units spent : ℕ) : Type 0 where
  pub within : spent ≤ units
  pub none : NoneAmong P cursor (cursor + spent)
