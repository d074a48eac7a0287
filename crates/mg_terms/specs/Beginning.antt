-- Which lexemes begin a word, and which go on with one.
use Rattle.std.specs.Prelude.{◌≡◌, ◌⊎◌, List, [], ◌∷◌, ◌++◌}
use Rattle.mg_lex.specs.declared.mark.Mark.TheVariants as mark
use Rattle.mg_terms.specs.declared.lexeme.Lexeme.{Lexeme}
use Rattle.mg_terms.specs.declared.lexeme.Lexeme.TheVariants as lexeme
use Rattle.mg_terms.specs.Word.{Factor, bare, power, Word, single, times, word_lexemes}

-- the lexemes are a word
abbrev pub IsWord : List Lexeme → Type 0
IsWord xs = (w : Word) × (word_lexemes w ≡ xs)

-- some rest makes the lexemes a word
abbrev pub IsBeginning : List Lexeme → Type 0
IsBeginning xs = (w : Word) × (rest : List Lexeme) × (word_lexemes w ≡ xs ++ rest)

-- some word begins with the lexemes of this one and the lexeme
abbrev pub GoesOn : Word → Lexeme → Type 0
GoesOn w x = IsBeginning (word_lexemes w ++ x ∷ [])

-- what stands behind a word doesn't go on with it
abbrev pub EndsBefore : Word → List Lexeme → Type 0
EndsBefore w [] = Unit {0}
EndsBefore w (x ∷ xs) = ¬ GoesOn w x

-- a lexeme with which a base begins
abbrev pub BeginsBase : Lexeme → Type 0
BeginsBase lexeme.Name = Unit {0}
BeginsBase (lexeme.Number n) = n ≡ 1
BeginsBase (lexeme.Mark m) = (m ≡ mark.OpenRound) ⊎ (m ≡ mark.OpenSquare)
BeginsBase _ = ⊥

-- the last factor of a word has no exponent
abbrev pub IsBare : Factor → Type 0
IsBare (bare b) = Unit {0}
IsBare (power b negative n) = ⊥

abbrev pub EndsBare : Word → Type 0
EndsBare (single f) = IsBare f
EndsBare (times w star f) = IsBare f

-- behind a word may stand a star, what begins a base and, where its last factor has no exponent, a caret
abbrev pub CanFollow : Word → Lexeme → Type 0
CanFollow w x =
    (x ≡ lexeme.Mark mark.Star) ⊎ (BeginsBase x ⊎ ((x ≡ lexeme.Mark mark.Caret) × EndsBare w))
