-- Punctuation marks.
use Rattle.std.specs.Prelude.{◌≡◌, ℕ, ◌≤◌, List, length, take, codes}
use Rattle.mg_lex.specs.declared.mark.Mark.{Mark}
use Rattle.mg_lex.specs.declared.mark.Mark.TheVariants as mark

-- how a mark is written
abbrev pub mark_text : Mark → List ℕ
mark_text mark.Less = codes "<"
mark_text mark.Greater = codes ">"
mark_text mark.Comma = codes ","
mark_text mark.Bar = codes "|"
mark_text mark.Equals = codes "="
mark_text mark.Caret = codes "^"
mark_text mark.OpenRound = codes "("
mark_text mark.CloseRound = codes ")"
mark_text mark.OpenSquare = codes "["
mark_text mark.CloseSquare = codes "]"
mark_text mark.Colon = codes ":"
mark_text mark.Semicolon = codes ";"
mark_text mark.Star = codes "*"
mark_text mark.Minus = codes "-"
mark_text mark.Arrow = codes "->"

-- the bytes write a mark
abbrev pub IsMark : List ℕ → Type 0
IsMark bytes = (m : Mark) × (mark_text m ≡ bytes)

-- a mark of this length stands at the front, and no longer one does
pub record IsLongestMark (bytes : List ℕ) (len : ℕ) : Type 0 where
  pub within : len ≤ length bytes
  pub mark : IsMark (take len bytes)
  pub longest : (n : ℕ) → n ≤ length bytes → IsMark (take n bytes) → n ≤ len
