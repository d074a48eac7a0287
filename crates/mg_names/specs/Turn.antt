-- Where the words on the left of a question end.
use Rattle.std.specs.Prelude.{◌≡◌, Bool, true, false, not, Some, List, [], ◌∷◌, drop}
use Rattle.mg_lex.specs.declared.mark.Mark.TheVariants as mark
use Rattle.mg_terms.specs.declared.lexeme.Lexeme.{Lexeme}
use Rattle.mg_terms.specs.declared.lexeme.Lexeme.TheVariants as lexeme
use Rattle.mg_names.specs.Named.{Word, single, bare, one}
use Rattle.mg_names.specs.Sign.{Sign, sign_lexeme, first_lexeme, Stops}

-- they end before a keyword and before an equality sign
abbrev pub is_turn : Lexeme → Bool
is_turn (lexeme.Keyword k) = true
is_turn (lexeme.Mark mark.Equals) = true
is_turn _ = false

abbrev pub is_before_turn : List Sign → Bool
is_before_turn [] = false
is_before_turn (s ∷ ss) = not (is_turn (sign_lexeme s))

-- what stands from there on
abbrev pub turn_or : Bool → List Sign → List Sign → List Sign
turn_or true here later = here
turn_or false here later = later

abbrev pub turn : List Sign → List Sign
turn [] = []
turn (s ∷ ss) = turn_or (is_turn (sign_lexeme s)) (s ∷ ss) (turn ss)

-- the number 1 alone
abbrev pub is_one : Word → Bool
is_one (single (bare one)) = true
is_one _ = false

abbrev pub IsOneAhead : List Sign → Type 0
IsOneAhead ss = (first_lexeme ss ≡ Some (lexeme.Number 1)) × Stops (drop 1 ss)
