-- What a refusal says of its line.
use Rattle.std.specs.Prelude.{◌≡◌, ℕ, ◌-◌, ◌≤◌, List}
use Rattle.mg_lex.specs.declared.refusal.Refused.{Refused}
use Rattle.mg_lex.specs.Cause.{IsFirstCause}

-- the place, from 0, of a column, from 1
abbrev pub place_of : Refused → ℕ
place_of r = r.column - 1

-- the refusal has the line's number, and the place and the cause of the first cause in the line
pub record IsRefusal (line : List ℕ) (number : ℕ) (r : Refused) : Type 0 where
  pub line_number : r.line ≡ number
  pub column : 1 ≤ r.column
  pub first : IsFirstCause line (place_of r) r.cause
