-- Texts are pieces, joined by single spaces.
use Rattle.std.specs.Prelude.{◌≡◌, ℕ, List, [], ◌∷◌, ◌++◌, codes}
use Rattle.std.specs.List.{flat_map}

-- each piece behind a space
abbrev pub spaced : List (List ℕ) → List ℕ
spaced pieces = flat_map (λ piece. 32 ∷ piece) pieces

-- the line of a first piece and others, ended by a line feed
abbrev pub line : List ℕ → List (List ℕ) → List ℕ
line first others = first ++ spaced others ++ 10 ∷ []

-- members that stand behind others in a list, each of some pieces, behind a comma as a piece of its own
abbrev pub more_listed : List (List (List ℕ)) → List (List ℕ)
more_listed members = flat_map (λ member. codes "," ∷ member) members

-- the members of a list, with commas between them
abbrev pub listed : List (List (List ℕ)) → List (List ℕ)
listed [] = []
listed (first ∷ others) = first ++ more_listed others

-- the new bytes are the old ones, and perhaps more behind them
pub record Extends (old new : List ℕ) : Type 0 where
  pub rest : List ℕ
  pub split : new ≡ old ++ rest
