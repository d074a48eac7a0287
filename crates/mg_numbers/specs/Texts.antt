-- Bijective numeration: texts of digits from 1 to the base, the most significant first.
use Rattle.std.specs.Prelude.{◌≡◌, ℕ, ◌+◌, ◌*◌, ◌^◌, ◌<◌, ◌≤◌, ◌⊎◌, List, [], ◌∷◌, length}
use Rattle.std.specs.List.{AllByRecursion}

-- a digit of the base: 1, 2 and so on up to the base itself
pub record IsDigit (base digit : ℕ) : Type 0 where
  pub least : 1 ≤ digit
  pub most : digit ≤ base

-- a text of the base: each of its digits is one of the base
abbrev pub IsText : ℕ → List ℕ → Type 0
IsText base text = AllByRecursion (IsDigit base) text

-- the value of a text: each digit counts as many times the base to the power of the number of digits that follow
-- it, and the empty text has value 0
abbrev pub value : ℕ → List ℕ → ℕ
value base [] = 0
value base (digit ∷ text) = digit * base ^ length text + value base text

-- the number of a text, counted from 1: one more than its value
abbrev pub IsNumberOf : ℕ → List ℕ → ℕ → Type 0
IsNumberOf base text number = number ≡ value base text + 1

-- at the first place where the two texts differ, the first one has the lesser digit
abbrev pub IsLexBefore : List ℕ → List ℕ → Type 0
IsLexBefore [] other = ⊥
IsLexBefore (digit ∷ text) [] = ⊥
IsLexBefore (digit ∷ text) (digit' ∷ text') = (digit < digit') ⊎ ((digit ≡ digit') × IsLexBefore text text')

-- the order by length first, and then by the first place of difference
abbrev pub IsShortlexBefore : List ℕ → List ℕ → Type 0
IsShortlexBefore text other = (length text < length other) ⊎ ((length text ≡ length other) × IsLexBefore text other)
