-- What is read of a line: its names with their places, and its other lexemes.
use Rattle.std.specs.Prelude.{◌≡◌, ℕ, ◌+◌, ◌-◌, ◌≤◌, Bool, true, false, not, Option, Some, None, List, [], ◌∷◌, ◌++◌, length, map}
use Rattle.std.specs.List.{AllByRecursion}
use Rattle.mg_lex.specs.declared.keyword.Keyword.{Keyword}
use Rattle.mg_lex.specs.declared.keyword.Keyword.TheVariants as keyword
use Rattle.mg_lex.specs.declared.mark.Mark.{Mark}
use Rattle.mg_lex.specs.declared.mark.Mark.TheVariants as mark
use Rattle.mg_lex.specs.declared.token.Token.{Token}
use Rattle.mg_lex.specs.Line.{token_bytes}
use Rattle.mg_terms.specs.declared.lexeme.Lexeme.{Lexeme}
use Rattle.mg_terms.specs.declared.lexeme.Lexeme.TheVariants as lexeme
use Rattle.mg_script.specs.declared.form.Printed.{Printed}
use Rattle.mg_script.specs.declared.form.Printed.TheVariants as printed
use Rattle.mg_script.specs.declared.script.ScriptLine.{ScriptLine}
use Rattle.mg_script.specs.Statement.{property_keyword, procedure_keyword}
use Rattle.mg_names.specs.Named.{Named, Base, named, one, round, commutator, Factor, bare, power, Word, single, times, Relation, relator, equation, Arrow, Question, equal, member, vanishes, central, has, Statement, group, word, subgroup, mapping, ask, fund, grant, run, cancel, report}

-- a lexeme that is a name is always one with its text
pub data Sign : Type 0 where
  a_name : Named → Sign
  a_lexeme : Lexeme → Sign

abbrev pub sign_of : List ℕ → Token → Lexeme → Sign
sign_of bytes t lexeme.Name = a_name (record { text = token_bytes bytes t; place = t.start })
sign_of bytes t x = a_lexeme x

abbrev pub signs_in : List ℕ → List Token → List Lexeme → List Sign
signs_in bytes (t ∷ ts) (x ∷ xs) = sign_of bytes t x ∷ signs_in bytes ts xs
signs_in bytes ts xs = []

abbrev pub signs_of : ScriptLine → List Sign
signs_of line = signs_in line.bytes line.tokens line.lexemes

abbrev pub sign_lexeme : Sign → Lexeme
sign_lexeme (a_name n) = lexeme.Name
sign_lexeme (a_lexeme x) = x

-- the lexeme that comes next
abbrev pub first_lexeme : List Sign → Option Lexeme
first_lexeme [] = None
first_lexeme (s ∷ ss) = Some (sign_lexeme s)

abbrev pub StartsWithName : List Sign → Type 0
StartsWithName ss = (n : Named) × (rest : List Sign) × (ss ≡ a_name n ∷ rest)

abbrev pub EndsWithName : List Sign → Type 0
EndsWithName ss = (front : List Sign) × (n : Named) × (ss ≡ front ++ a_name n ∷ [])

-- a token lies within the line
abbrev pub IsInside : List ℕ → Token → Type 0
IsInside bytes t = t.start + t.length ≤ length bytes

-- a line whose tokens lie within it, with a lexeme for each token
pub record IsReadable (line : ScriptLine) : Type 0 where
  pub inside : AllByRecursion (IsInside line.bytes) line.tokens
  pub paired : length line.tokens ≡ length line.lexemes

-- single signs
abbrev pub the_mark : Mark → Sign
the_mark m = a_lexeme (lexeme.Mark m)

abbrev pub the_keyword : Keyword → Sign
the_keyword k = a_lexeme (lexeme.Keyword k)

abbrev pub the_number : ℕ → Sign
the_number n = a_lexeme (lexeme.Number n)

abbrev pub minus_signs : Bool → List Sign
minus_signs true = the_mark mark.Minus ∷ []
minus_signs false = []

abbrev pub star_signs : Bool → List Sign
star_signs true = the_mark mark.Star ∷ []
star_signs false = []

-- how words are written
abbrev mutual
  pub base_signs : Base → List Sign
  base_signs (named n) = a_name n ∷ []
  base_signs one = the_number 1 ∷ []
  base_signs (round w) = the_mark mark.OpenRound ∷ (word_signs w ++ the_mark mark.CloseRound ∷ [])
  base_signs (commutator u v) =
      the_mark mark.OpenSquare ∷ (word_signs u ++ the_mark mark.Comma ∷ (word_signs v ++ the_mark mark.CloseSquare ∷ []))

  pub factor_signs : Factor → List Sign
  factor_signs (bare b) = base_signs b
  factor_signs (power b negative n) = base_signs b ++ the_mark mark.Caret ∷ (minus_signs negative ++ the_number n ∷ [])

  pub word_signs : Word → List Sign
  word_signs (single f) = factor_signs f
  word_signs (times w star f) = word_signs w ++ (star_signs star ++ factor_signs f)

-- members of a list, with commas between them
abbrev pub listed_on : List (List Sign) → List Sign
listed_on [] = []
listed_on (x ∷ xs) = the_mark mark.Comma ∷ (x ++ listed_on xs)

abbrev pub listed : List (List Sign) → List Sign
listed [] = []
listed (x ∷ xs) = x ++ listed_on xs

abbrev pub generator_signs : Named → List Sign
generator_signs n = a_name n ∷ []

abbrev pub relation_signs : Relation → List Sign
relation_signs (relator w) = word_signs w
relation_signs (equation u v) = word_signs u ++ the_mark mark.Equals ∷ word_signs v

abbrev pub bar_signs : Option (List Relation) → List Sign
bar_signs None = []
bar_signs (Some rs) = the_mark mark.Bar ∷ listed (map relation_signs rs)

abbrev pub arrow_signs : Arrow → List Sign
arrow_signs a = a_name a.generator ∷ the_mark mark.Arrow ∷ word_signs a.image

abbrev pub question_signs : Question → List Sign
question_signs (equal u v g) = word_signs u ++ the_mark mark.Equals ∷ (word_signs v ++ the_keyword keyword.In ∷ a_name g ∷ [])
question_signs (member w h) = word_signs w ++ the_keyword keyword.In ∷ a_name h ∷ []
question_signs (vanishes w f) = word_signs w ++ the_keyword keyword.In ∷ the_keyword keyword.Kernel ∷ a_name f ∷ []
question_signs (central w g) = word_signs w ++ the_keyword keyword.Central ∷ the_keyword keyword.In ∷ a_name g ∷ []
question_signs (has n p) = a_name n ∷ the_keyword (property_keyword p) ∷ []

abbrev pub bound_signs : Option ℕ → List Sign
bound_signs None = []
bound_signs (Some n) = the_number n ∷ []

abbrev pub printed_signs : Printed → List Sign
printed_signs printed.Questions = []
printed_signs printed.Facts = the_keyword keyword.Facts ∷ []
printed_signs printed.Log = the_keyword keyword.Log ∷ []

-- how a statement is written
abbrev pub statement_signs : Statement → List Sign
statement_signs (group n generators rs) =
    the_keyword keyword.Group ∷ a_name n ∷ the_mark mark.Equals ∷ the_mark mark.Less ∷
    (listed (map generator_signs generators) ++ (bar_signs rs ++ the_mark mark.Greater ∷ []))
statement_signs (word n g w) =
    the_keyword keyword.Word ∷ a_name n ∷ the_keyword keyword.In ∷ a_name g ∷ the_mark mark.Equals ∷ word_signs w
statement_signs (subgroup n g ws) =
    the_keyword keyword.Subgroup ∷ a_name n ∷ the_keyword keyword.Of ∷ a_name g ∷ the_mark mark.Equals ∷ the_mark mark.Less ∷
    (listed (map word_signs ws) ++ the_mark mark.Greater ∷ [])
statement_signs (mapping n source target arrows) =
    the_keyword keyword.Map ∷ a_name n ∷ the_mark mark.Colon ∷ a_name source ∷ the_mark mark.Arrow ∷ a_name target ∷ the_mark mark.Equals ∷
    the_mark mark.OpenSquare ∷ (listed (map arrow_signs arrows) ++ the_mark mark.CloseSquare ∷ [])
statement_signs (ask n q) = the_keyword keyword.Ask ∷ a_name n ∷ the_mark mark.Colon ∷ question_signs q
statement_signs (fund units) = the_keyword keyword.Fund ∷ the_number units ∷ []
statement_signs (grant n p units) = the_keyword keyword.Grant ∷ a_name n ∷ the_keyword (procedure_keyword p) ∷ the_number units ∷ []
statement_signs (run bound) = the_keyword keyword.Run ∷ bound_signs bound
statement_signs (cancel n p) = the_keyword keyword.Cancel ∷ a_name n ∷ the_keyword (procedure_keyword p) ∷ []
statement_signs (report what) = the_keyword keyword.Report ∷ printed_signs what

-- a mark or a lexeme that stands in a word outside its brackets
abbrev pub mark_goes_on : Mark → Bool
mark_goes_on mark.Star = true
mark_goes_on mark.Minus = true
mark_goes_on mark.Caret = true
mark_goes_on mark.OpenRound = true
mark_goes_on mark.OpenSquare = true
mark_goes_on _ = false

abbrev pub goes_on : Lexeme → Bool
goes_on lexeme.Name = true
goes_on (lexeme.Number n) = true
goes_on (lexeme.Mark m) = mark_goes_on m
goes_on _ = false

-- what stands here is no part of a word
abbrev pub Stops : List Sign → Type 0
Stops [] = Unit {0}
Stops (s ∷ ss) = goes_on (sign_lexeme s) ≡ false

-- a name alone, behind which no word goes on
abbrev pub is_alone : List Sign → Bool
is_alone [] = false
is_alone (a_name n ∷ []) = true
is_alone (a_name n ∷ s ∷ ss) = not (goes_on (sign_lexeme s))
is_alone (a_lexeme x ∷ ss) = false

-- how many brackets are open behind a mark or a lexeme
abbrev pub mark_behind : ℕ → Mark → ℕ
mark_behind n mark.OpenRound = n + 1
mark_behind n mark.OpenSquare = n + 1
mark_behind n mark.CloseRound = n - 1
mark_behind n mark.CloseSquare = n - 1
mark_behind n _ = n

abbrev pub depth_behind : ℕ → Lexeme → ℕ
depth_behind n (lexeme.Mark m) = mark_behind n m
depth_behind n _ = n

-- what stands behind the first
abbrev pub tail_of : List Sign → List Sign
tail_of [] = []
tail_of (s ∷ ss) = ss
