-- How many units a turn gets.
use Rattle.std.specs.Prelude.{◌≡◌, ℕ, ◌<◌, ◌≤◌, ◌^◌, min}

-- for all 64-bit numbers, the units held at least 1, the function may be called, and answers from 1 to those held
abbrev pub AnswersWithin : {F : Type 0} → (F → ℕ → ℕ → Type 0) → (F → ℕ → ℕ → ℕ → Type 0) → F → Type 0
AnswersWithin may answers f = (turn held : ℕ) → turn < 2 ^ 64 → 1 ≤ held → held < 2 ^ 64 →
    may f turn held × ((units : ℕ) → answers f turn held units → (1 ≤ units) × (units ≤ held))

-- the function answers so many units, for 64-bit numbers
abbrev pub Gives : {F : Type 0} → (F → ℕ → ℕ → ℕ → Type 0) → F → (turn held units : ℕ) → Type 0
Gives answers f turn held units = (turn < 2 ^ 64) × (held < 2 ^ 64) × answers f turn held units

-- the turns of a search are all of one size, so long as it holds as much
abbrev pub IsEven : (turn spent held units : ℕ) → Type 0
IsEven turn spent held units = units ≡ min held 1024

-- each turn of a search is twice as long as the one before, up to a size, so long as it holds as much
abbrev pub IsDoubling : (turn spent held units : ℕ) → Type 0
IsDoubling turn spent held units = units ≡ min held (2 ^ min turn 20)
