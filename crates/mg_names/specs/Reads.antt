-- What reading a part of a word brings.
use Rattle.std.specs.Prelude.{◌≡◌, ◌≢◌, ℤ, ◌*◌, ◌≤◌, Option, Some, None, List, ◌++◌, Result, Ok, Err}
use Rattle.std.specs.List.{flat_map}
use Rattle.mg_lex.specs.declared.mark.Mark.TheVariants as mark
use Rattle.mg_terms.specs.declared.lexeme.Lexeme.TheVariants as lexeme
use Rattle.mg_terms.specs.Word.{base_letters}
use Rattle.mg_words.specs.Word.{Held}
use Rattle.mg_words.specs.declared.operations.WordFault.{WordFault}
use Rattle.mg_words.specs.declared.operations.WordFault.TheVariants as fault
use Rattle.mg_words.specs.declared.limits.TheConstants.{MOST_POWER_LETTERS}
use Rattle.mg_script.specs.Count.{IsBoundedTerm}
use Rattle.mg_names.specs.declared.home.Home.{Home}
use Rattle.mg_names.specs.Named.{Named, Base, named, one, round, commutator, Factor, bare, power, Word, single, times, plain_base, plain_word}
use Rattle.mg_names.specs.Cause.{Shown, not_a_letter}
use Rattle.mg_names.specs.Sign.{Sign, first_lexeme, word_signs, Stops}
use Rattle.mg_names.specs.Least.{Gets}

-- the causes that names show where generators must stand
abbrev pub in_names : Home → List Named → List Shown
in_names home ns = flat_map (not_a_letter home.names.now home.generators.now) ns

-- A part with these names and letters has been read, and these signs are left.
pub record IsRead (home : Home) (ns : List Named) (letters : List ℤ) (rest : List Sign) (before : Option Shown) (word : Held) (left : List Sign) (after : Option Shown) : Type 0 where
  pub letters_are : word.letters ≡ letters
  pub rest_is : left ≡ rest
  pub causes : Gets (in_names home ns) before after

-- each power has few enough letters
abbrev mutual
  pub BaseFits : Base → Type 0
  BaseFits (named n) = Unit {0}
  BaseFits one = Unit {0}
  BaseFits (round w) = WordFits w
  BaseFits (commutator u v) = WordFits u × WordFits v

  pub FactorFits : Factor → Type 0
  FactorFits (bare b) = BaseFits b
  FactorFits (power b negative n) = BaseFits b × (base_letters (plain_base b) * n ≤ MOST_POWER_LETTERS)

  pub WordFits : Word → Type 0
  WordFits (single f) = FactorFits f
  WordFits (times w star f) = WordFits w × FactorFits f

-- no word is too long
abbrev pub IsNotTooLong : Result Held WordFault → Type 0
IsNotTooLong (Ok w) = Unit {0}
IsNotTooLong (Err (fault.TooLong n)) = ⊥
IsNotTooLong (Err fault.NoMemory) = Unit {0}

-- no exponent stands here
abbrev pub StartsWithoutCaret : List Sign → Type 0
StartsWithoutCaret ss = first_lexeme ss ≢ Some (lexeme.Mark mark.Caret)

-- a word within the limits stands here, and nothing with which it goes on behind it
pub record IsWordAhead (ss : List Sign) : Type 0 where
  pub word : Word
  pub rest : List Sign
  pub written : ss ≡ word_signs word ++ rest
  pub stops : Stops rest
  pub bounded : IsBoundedTerm None (plain_word word)
