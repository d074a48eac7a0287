-- Freely reduced forms, and multiplying a word by one letter with free reduction.
use Rattle.std.specs.Prelude.{◌≡◌, ◌≢◌, ℕ, ℤ, neg_ℤ, List, [], ◌∷◌, ◌++◌, if◌then◌else◌}
use Rattle.std.specs.Ordering.{int_eq}
use Rattle.mg_words.specs.Word.{IsOver, IsReduced}
use Rattle.mg_words.specs.Chain.{FreelyEqual}

-- v is the freely reduced form of w, over any generators that w is over
pub record IsFormOf (w v : List ℤ) : Type 0 where
  pub reduced : IsReduced v
  pub over : (m : ℕ) → IsOver m w → IsOver m v
  pub equal : (m : ℕ) → IsOver m w → FreelyEqual m w v

-- a letter takes away a last letter that is its inverse, and else is appended
pub record PushesReduced (old : List ℤ) (x : ℤ) (new : List ℤ) : Type 0 where
  pub cancels : (rest : List ℤ) → old ≡ rest ++ neg_ℤ x ∷ [] → new ≡ rest
  pub appends : ((rest : List ℤ) → old ≢ rest ++ neg_ℤ x ∷ []) → new ≡ old ++ x ∷ []

-- a letter times a reduced word: it takes away a first letter that is its inverse, and else stands first
abbrev pub cancel : ℤ → List ℤ → List ℤ
cancel x [] = x ∷ []
cancel x (y ∷ w) = (if int_eq y (neg_ℤ x) then w else x ∷ (y ∷ w))

-- a word times a reduced word, letter by letter from the last
abbrev pub onto : List ℤ → List ℤ → List ℤ
onto [] w = w
onto (x ∷ u) w = cancel x (onto u w)

-- the freely reduced form of a word
abbrev pub free_form : List ℤ → List ℤ
free_form w = onto w []
