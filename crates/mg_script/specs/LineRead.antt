-- What is read of one line of a script.
use Rattle.std.specs.Prelude.{◌≡◌, ◌⊎◌, ℕ, ◌<◌, ◌≤◌, None, MatchOption, List, []}
use Rattle.std.specs.List.{AllByRecursion, AllZip}
use Rattle.mg_lex.specs.declared.refusal.Cause.{Cause}
use Rattle.mg_lex.specs.declared.refusal.Refused.{Refused}
use Rattle.mg_lex.specs.Cause.{cause_number, IsFaultless}
use Rattle.mg_lex.specs.Line.{AreTokens}
use Rattle.mg_lex.specs.Refusal.{place_of, IsRefusal}
use Rattle.mg_terms.specs.declared.lexeme.Lexeme.{Lexeme}
use Rattle.mg_terms.specs.Lexeme.{IsLexemeOf}
use Rattle.mg_script.specs.declared.counted.Counts.{Counts}
use Rattle.mg_script.specs.declared.line.LineRead.{LineRead}
use Rattle.mg_script.specs.Count.{Adds, IsBounded, AreWithinLimits}
use Rattle.mg_script.specs.Script.{ReadsAs, AreRead, IsFirstInLine}
use Rattle.mg_script.specs.Statement.{Statement, statement_pieces, statement_lexemes}

-- the bytes of the line show no cause, and all its tokens are read
pub record IsWhole (line : List ℕ) (read : LineRead) : Type 0 where
  pub tokens : AreTokens line read.tokens
  pub lexemes : AllZip (IsLexemeOf line) read.tokens read.lexemes
  pub faultless : IsFaultless line

-- what is read of the line with this number, and the first cause that its bytes show
pub record IsReadOf (line : List ℕ) (number : ℕ) (read : LineRead) : Type 0 where
  pub tokens : AreRead line read.tokens
  pub lexemes : AllZip (ReadsAs line) read.tokens read.lexemes
  pub fault : MatchOption read.fault (IsWhole line read) (IsRefusal line number)

-- nothing is read, and the bytes show no cause
abbrev pub IsBlank : LineRead → Type 0
IsBlank read = (read.tokens ≡ []) × (read.fault ≡ None)

-- the cause stands at an earlier place than the other one, or at the same with a number that is no greater
abbrev pub IsNoLater : ℕ → Cause → ℕ → Cause → Type 0
IsNoLater place c q d = (place < q) ⊎ ((place ≡ q) × (cause_number c ≤ cause_number d))

-- the refusal names the line, and the first cause that stands in it
pub record IsLineRefusal (counts : Counts) (line : List ℕ) (number : ℕ) (r : Refused) : Type 0 where
  pub numbered : r.line ≡ number
  pub column : 1 ≤ r.column
  pub first : IsFirstInLine counts line (place_of r) r.cause

-- the lexemes are a statement within the limits, with which these are the counts
pub record IsStated (counts : Counts) (xs : List Lexeme) (after : Counts) : Type 0 where
  pub statement : Statement
  pub written : statement_lexemes statement ≡ xs
  pub adds : Adds (statement_pieces statement) counts after
  pub bounded : AllByRecursion IsBounded (statement_pieces statement)
  pub within : AreWithinLimits after
