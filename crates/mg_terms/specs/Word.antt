-- Words as trees: one case for each production of the grammar.
use Rattle.std.specs.Prelude.{ℕ, ◌+◌, ◌*◌, Bool, true, false, List, [], ◌∷◌, ◌++◌}
use Rattle.mg_lex.specs.declared.mark.Mark.TheVariants as mark
use Rattle.mg_terms.specs.declared.lexeme.Lexeme.{Lexeme}
use Rattle.mg_terms.specs.declared.lexeme.Lexeme.TheVariants as lexeme

mutual
  -- a name; the number 1, which is the empty word; a word in parentheses; a commutator
  pub data Base : Type 0 where
    name : Base
    one : Base
    round : Word → Base
    commutator : Word → Word → Base

  -- a base, or a power of one, whose exponent may have a minus sign
  pub data Factor : Type 0 where
    bare : Base → Factor
    power : Base → (negative : Bool) → (exponent : ℕ) → Factor

  -- a factor, or a word and one more factor, with or without a star between them
  pub data Word : Type 0 where
    single : Factor → Word
    times : Word → (star : Bool) → Factor → Word

-- a mark that may be left out
abbrev pub minus_lexemes : Bool → List Lexeme
minus_lexemes true = lexeme.Mark mark.Minus ∷ []
minus_lexemes false = []

abbrev pub star_lexemes : Bool → List Lexeme
star_lexemes true = lexeme.Mark mark.Star ∷ []
star_lexemes false = []

-- how a tree is written
abbrev mutual
  pub base_lexemes : Base → List Lexeme
  base_lexemes name = lexeme.Name ∷ []
  base_lexemes one = lexeme.Number 1 ∷ []
  base_lexemes (round w) = lexeme.Mark mark.OpenRound ∷ (word_lexemes w ++ lexeme.Mark mark.CloseRound ∷ [])
  base_lexemes (commutator u v) =
      lexeme.Mark mark.OpenSquare ∷ (word_lexemes u ++ lexeme.Mark mark.Comma ∷ (word_lexemes v ++ lexeme.Mark mark.CloseSquare ∷ []))

  pub factor_lexemes : Factor → List Lexeme
  factor_lexemes (bare b) = base_lexemes b
  factor_lexemes (power b negative n) =
      base_lexemes b ++ lexeme.Mark mark.Caret ∷ (minus_lexemes negative ++ lexeme.Number n ∷ [])

  pub word_lexemes : Word → List Lexeme
  word_lexemes (single f) = factor_lexemes f
  word_lexemes (times w star f) = word_lexemes w ++ (star_lexemes star ++ factor_lexemes f)

-- how many letters it has, written out, with nothing reduced
abbrev mutual
  pub base_letters : Base → ℕ
  base_letters name = 1
  base_letters one = 0
  base_letters (round w) = word_letters w
  base_letters (commutator u v) = 2 * (word_letters u + word_letters v)

  pub factor_letters : Factor → ℕ
  factor_letters (bare b) = base_letters b
  factor_letters (power b negative n) = base_letters b * n

  pub word_letters : Word → ℕ
  word_letters (single f) = factor_letters f
  word_letters (times w star f) = word_letters w + factor_letters f
