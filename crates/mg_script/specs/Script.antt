-- Scripts: what is read of their lines, and where they are refused.
use Rattle.std.specs.Prelude.{◌≡◌, ◌≢◌, ◌⊎◌, ℕ, ◌+◌, ◌<◌, ◌≤◌, Option, Some, None, List, [], ◌∷◌, ◌++◌, length, slice_get}
use Rattle.std.specs.List.{AllZip, AllByRecursion}
use Rattle.mg_lex.specs.declared.limits.TheConstants.{NUMBER_LIMIT}
use Rattle.mg_lex.specs.declared.refusal.Cause.{Cause}
use Rattle.mg_lex.specs.declared.refusal.Refused.{Refused}
use Rattle.mg_lex.specs.declared.token.Token.{Token}
use Rattle.mg_lex.specs.declared.token.TokenKind.TheVariants as kind
use Rattle.mg_lex.specs.Cause as lex
use Rattle.mg_lex.specs.Cause.{cause_number}
use Rattle.mg_lex.specs.Line.{AreTokens, token_bytes}
use Rattle.mg_lex.specs.Number.{number_value}
use Rattle.mg_lex.specs.Refusal.{place_of}
use Rattle.mg_terms.specs.declared.lexeme.Lexeme.{Lexeme}
use Rattle.mg_terms.specs.declared.lexeme.Lexeme.TheVariants as lexeme
use Rattle.mg_terms.specs.Lexeme.{IsLexemeOf}
use Rattle.mg_script.specs.declared.counted.Counts.{Counts}
use Rattle.mg_script.specs.declared.script.ScriptLine.{ScriptLine}
use Rattle.mg_script.specs.Count.{Adds, IsBounded, AreWithinLimits}
use Rattle.mg_script.specs.Cause as grammar
use Rattle.mg_script.specs.Lines.{AreLines}
use Rattle.mg_script.specs.Statement.{Statement, statement_pieces, statement_lexemes}

-- the token is a number that is too large
abbrev pub IsTooLarge : List ℕ → Token → Type 0
IsTooLarge line t = (t.kind ≡ kind.Number) × (NUMBER_LIMIT < number_value (token_bytes line t))

-- what a token is to the grammar, where a number that is too large is the least such
pub data ReadsAs (line : List ℕ) (t : Token) (x : Lexeme) : Type 0 where
  as_it_is : (IsTooLarge line t → ⊥) → IsLexemeOf line t x → ReadsAs line t x
  too_large : IsTooLarge line t → x ≡ lexeme.Number (NUMBER_LIMIT + 1) → ReadsAs line t x

abbrev pub one_or_none : Option Token → List Token
one_or_none None = []
one_or_none (Some t) = t ∷ []

-- what is read of a line: all its tokens; or, where its bytes or tokens show a cause, those that begin before the
-- first cause, and the one that begins there
pub data AreRead (line : List ℕ) : List Token → Type 0 where
  all : (ts : List Token) → AreTokens line ts → lex.IsFaultless line → AreRead line ts
  up_to : (place : ℕ) (c : Cause) (ts : List Token) (t : Option Token) → lex.IsFirstCause line place c →
      lex.AreTokensBefore line place ts → lex.IsTokenAt line place t → AreRead line (ts ++ one_or_none t)

-- the token with this number begins at the place
abbrev pub StartsAt : List Token → ℕ → ℕ → Type 0
StartsAt ts p place = (t : Token) × (slice_get ts p ≡ Some t) × (t.start ≡ place)

-- The cause stands at the place of a line, where so much has been counted before: its bytes or a token show it; or the
-- grammar does, at the token that what is read of the line comes to, or behind the last byte where the line ends too
-- early.
pub data StandsInLine (counts : Counts) (line : List ℕ) : ℕ → Cause → Type 0 where
  of_bytes : (place : ℕ) (c : Cause) → lex.Stands line place c → StandsInLine counts line place c
  of_grammar : (ts : List Token) (xs : List Lexeme) (p place : ℕ) (c : Cause) → AreRead line ts → AllZip (ReadsAs line) ts xs →
      grammar.Stands counts xs p c → StartsAt ts p place → StandsInLine counts line place c
  of_end : (ts : List Token) (xs : List Lexeme) (c : Cause) → AreTokens line ts → ts ≢ [] → AllZip (IsLexemeOf line) ts xs →
      grammar.Stands counts xs (length xs) c → StandsInLine counts line (length line) c

-- no cause stands in the line
abbrev pub LineIsFaultless : Counts → List ℕ → Type 0
LineIsFaultless counts line = (place : ℕ) (c : Cause) → StandsInLine counts line place c → ⊥

-- the cause stands at the place, no cause stands before it, and none with a less number stands there
pub record IsFirstInLine (counts : Counts) (line : List ℕ) (place : ℕ) (c : Cause) : Type 0 where
  pub stands : StandsInLine counts line place c
  pub first :
      (q : ℕ) (d : Cause) →
      StandsInLine counts line q d →
      (place < q) ⊎ ((place ≡ q) × (cause_number c ≤ cause_number d))

-- before a script nothing has been counted
abbrev pub no_counts : Counts
no_counts = record {
  groups = 0;
  words = 0;
  subgroups = 0;
  maps = 0;
  questions = 0;
  generators = 0;
  relators = 0;
  members = 0;
  reports = 0;
  letters = 0;
}

-- generators, relators and words of subgroups are counted for each statement anew
abbrev pub counted_anew : Counts → Counts
counted_anew counts = record counts { generators = 0; relators = 0; members = 0 }

-- the line with this number is a statement, and is kept so; no cause stands in it, and these are the counts with it
pub record IsKept (counts : Counts) (number : ℕ) (line : List ℕ) (kept : ScriptLine) (after : Counts) : Type 0 where
  pub numbered : kept.number ≡ number
  pub bytes : kept.bytes ≡ line
  pub tokens : AreTokens line kept.tokens
  pub some : kept.tokens ≢ []
  pub lexemes : AllZip (IsLexemeOf line) kept.tokens kept.lexemes
  pub statement : Statement
  pub written : statement_lexemes statement ≡ kept.lexemes
  pub adds : Adds (statement_pieces statement) counts after
  pub bounded : AllByRecursion IsBounded (statement_pieces statement)
  pub within : AreWithinLimits after
  pub faultless : LineIsFaultless counts line

-- a line without tokens, in which no cause stands
pub record IsSkipped (line : List ℕ) : Type 0 where
  pub tokens : AreTokens line []
  pub faultless : lex.IsFaultless line

-- the lines that are statements are kept, the others skipped; the first line has this number
abbrev pub AreKept : Counts → ℕ → List (List ℕ) → List ScriptLine → Counts → Type 0
AreKept counts number [] kept after = (kept ≡ []) × (after ≡ counts)
AreKept counts number (line ∷ lines) kept after =
    (IsSkipped line × AreKept counts (number + 1) lines kept after)
    ⊎ ((first : ScriptLine) × (others : List ScriptLine) × (mid : Counts) × (kept ≡ first ∷ others) ×
    IsKept (counted_anew counts) number line first mid × AreKept mid (number + 1) lines others after)

-- the bytes are a script with these statements, in which no cause stands
pub record IsScript (bytes : List ℕ) (script : List ScriptLine) : Type 0 where
  pub lines : List (List ℕ)
  pub cut : AreLines bytes lines
  pub counts : Counts
  pub kept : AreKept no_counts 1 lines script counts

-- the refusal names the first line in which a cause stands, and the first cause in it
pub record IsRefused (bytes : List ℕ) (r : Refused) : Type 0 where
  pub front : List (List ℕ)
  pub line : List ℕ
  pub back : List (List ℕ)
  pub cut : AreLines bytes (front ++ line ∷ back)
  pub script : List ScriptLine
  pub counts : Counts
  pub kept : AreKept no_counts 1 front script counts
  pub numbered : r.line ≡ length front + 1
  pub column : 1 ≤ r.column
  pub first : IsFirstInLine (counted_anew counts) line (place_of r) r.cause
