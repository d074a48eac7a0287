-- Where brackets open in a word, and where its parts end.
use Rattle.std.specs.Prelude.{ℕ, ◌+◌, ◌≤◌, List, [], ◌∷◌, ◌++◌, length}
use Rattle.std.specs.List.{AllByRecursion}
use Rattle.mg_terms.specs.declared.limits.TheConstants.{WORD_LIMIT, DEPTH_LIMIT}
use Rattle.mg_terms.specs.Word.{Base, name, one, round, commutator, Factor, bare, power, Word, single, times, star_lexemes, base_lexemes, factor_lexemes, word_lexemes, base_letters, factor_letters, word_letters}

-- A bracket opens at a place, and so many are open with it. Parentheses and brackets of commutators count
-- together. A part ends: so many lexemes stand up to and with its last one, and it has so many letters.
pub data Event : Type 0 where
  opens : (place depth : ℕ) → Event
  ends : (count letters : ℕ) → Event

-- the end of a base, of a factor and of a word that stands behind k lexemes
abbrev pub base_end : ℕ → Base → Event
base_end k b = ends (k + length (base_lexemes b)) (base_letters b)

abbrev pub factor_end : ℕ → Factor → Event
factor_end k f = ends (k + length (factor_lexemes f)) (factor_letters f)

abbrev pub word_end : ℕ → Word → Event
word_end k w = ends (k + length (word_lexemes w)) (word_letters w)

-- The events of a tree in order, where k lexemes stand before it and d brackets are open around it. The
-- parts are the bases, the factors and, for each factor of a word, the product of its factors up to it. (A
-- factor without exponent is the same part as its base.)
abbrev mutual
  pub base_events : ℕ → ℕ → Base → List Event
  base_events k d name = base_end k name ∷ []
  base_events k d one = base_end k one ∷ []
  base_events k d (round w) = opens k (d + 1) ∷ (word_events (k + 1) (d + 1) w ++ base_end k (round w) ∷ [])
  base_events k d (commutator u v) =
      opens k (d + 1) ∷ (word_events (k + 1) (d + 1) u ++ (word_events (k + 1 + length (word_lexemes u) + 1) (d + 1) v ++
      base_end k (commutator u v) ∷ []))

  pub factor_events : ℕ → ℕ → Factor → List Event
  factor_events k d (bare b) = base_events k d b
  factor_events k d (power b negative n) = base_events k d b ++ factor_end k (power b negative n) ∷ []

  pub word_events : ℕ → ℕ → Word → List Event
  word_events k d (single f) = factor_events k d f ++ word_end k (single f) ∷ []
  word_events k d (times w star f) =
      word_events k d w ++ (factor_events (k + length (word_lexemes w ++ star_lexemes star)) d f ++ word_end k (times w star f) ∷ [])

-- within the limits are at most so many open brackets, and parts with at most so many letters
abbrev pub IsWithin : Event → Type 0
IsWithin (opens place depth) = depth ≤ DEPTH_LIMIT
IsWithin (ends count letters) = letters ≤ WORD_LIMIT

abbrev pub AreWithin : List Event → Type 0
AreWithin es = AllByRecursion IsWithin es
