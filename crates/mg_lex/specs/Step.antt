-- What the scanner comes to, step by step.
use Rattle.std.specs.Prelude.{◌≡◌, ℕ, ◌+◌, ◌≤◌, List, ◌⊎◌}
use Rattle.std.specs.List.{AllByRecursion}
use Rattle.mg_lex.specs.declared.scanner.Step.{Step}
use Rattle.mg_lex.specs.declared.scanner.Step.TheVariants as step
use Rattle.mg_lex.specs.declared.token.Token.{Token}
use Rattle.mg_lex.specs.Line.{AreBlanks, BeginsComment, Cuts, IsEnd, IsLongestAtStart, IsWithinLimits}
use Rattle.mg_lex.specs.Cause.{IsFaultless, IsFirstCause, IsTokenAt}

-- what stands before the place is whole tokens within the limits, and blanks
pub record IsClean (line : List ℕ) (place : ℕ) : Type 0 where
  pub tokens : List Token
  pub cut : Cuts line 0 tokens place
  pub within_limits : AllByRecursion (IsWithinLimits line) tokens

-- what comes next in the line from one place on, and up to which place the line is read then
abbrev pub ComesNext : List ℕ → ℕ → Step → ℕ → Type 0
ComesNext line from (step.Token t) to =
    AreBlanks line from t.start × IsLongestAtStart line t × IsWithinLimits line t ×
    (to ≡ t.start + t.length)
ComesNext line from step.End to = AreBlanks line from to × IsEnd line to × IsFaultless line
ComesNext line from (step.Refused f) to =
    AreBlanks line from to × IsFirstCause line f.place f.cause × IsTokenAt line f.place f.token ×
    ((f.place ≤ to) ⊎ BeginsComment line to)
