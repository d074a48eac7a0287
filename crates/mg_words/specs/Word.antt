-- Words over generators (Magnus, Karrass and Solitar, 1.2).
use Rattle.std.specs.Prelude.{◌≢◌, ℕ, zero, suc, ℤ, pos, negsuc, neg_ℤ, List, [], ◌∷◌, ◌++◌, map, reverse}
use Rattle.std.specs.List.{AllByRecursion}
use Rattle.mg_words.specs.Letter.{IsLetterOf}

-- what contracts see of a word: its letters, and how many it can hold with no memory
pub record Held : Type 0 where
  pub letters : List ℤ
  pub capacity : ℕ

-- a word over the first m generators
abbrev pub IsOver : ℕ → List ℤ → Type 0
IsOver m w = AllByRecursion (IsLetterOf m) w

-- the inverse of a word: reversed, with every sign changed
abbrev pub inv : List ℤ → List ℤ
inv w = map neg_ℤ (reverse w)

-- w written k times
abbrev pub times : ℕ → List ℤ → List ℤ
times zero w = []
times (suc k) w = w ++ times k w

-- the power of a word, which for a negative exponent is that of its inverse
abbrev pub power_of : ℤ → List ℤ → List ℤ
power_of (pos k) w = times k w
power_of (negsuc k) w = times (suc k) (inv w)

-- the commutator, u^-1 v^-1 u v
abbrev pub commutator_of : List ℤ → List ℤ → List ℤ
commutator_of u v = inv u ++ inv v ++ u ++ v

-- no letter stands next to its inverse
abbrev pub IsReduced : List ℤ → Type 0
IsReduced w = (before after : List ℤ) (x : ℤ) → w ≢ before ++ x ∷ neg_ℤ x ∷ after

-- the letters of each word of a list
abbrev pub letters_of : List Held → List (List ℤ)
letters_of words = map (λ w. w.letters) words
