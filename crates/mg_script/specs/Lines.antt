-- How a script is cut into lines.
use Rattle.std.specs.Prelude.{◌≡◌, ◌≢◌, ◌⊎◌, ℕ, List, [], ◌∷◌, ◌++◌}
use Rattle.std.specs.List.{AllByRecursion}
use Rattle.mg_script.specs.declared.lines.TheConstants.{FEED, RETURN}

-- no line feed is among the bytes
abbrev pub HasNoFeed : List ℕ → Type 0
HasNoFeed bytes = AllByRecursion (λ b. b ≢ FEED) bytes

-- the last byte is a carriage return
abbrev pub EndsInReturn : List ℕ → Type 0
EndsInReturn bytes = (front : List ℕ) × (bytes ≡ front ++ RETURN ∷ [])

-- the line stands at the front and has an end, which is a line feed, or a carriage return and a line feed
abbrev pub IsEnded : List ℕ → List ℕ → List ℕ → Type 0
IsEnded bytes line rest =
    HasNoFeed line ×
    (((bytes ≡ line ++ FEED ∷ rest) × (¬ EndsInReturn line)) ⊎ (bytes ≡ line ++ RETURN ∷ FEED ∷ rest))

-- the bytes are the last line, which has no end
abbrev pub IsUnended : List ℕ → List ℕ → Type 0
IsUnended bytes line = (bytes ≡ line) × (line ≢ []) × HasNoFeed line

-- the bytes are these lines, each without its end
abbrev pub AreLines : List ℕ → List (List ℕ) → Type 0
AreLines bytes [] = bytes ≡ []
AreLines bytes (line ∷ lines) =
    ((rest : List ℕ) × IsEnded bytes line rest × AreLines rest lines) ⊎ (IsUnended bytes line × (lines ≡ []))
