-- What checking a derivation needs room for.
use Rattle.std.specs.Prelude.{ℕ, ◌≤◌, List, length}
use Rattle.mg_present.specs.Ask.{Inquiry}
use Rattle.mg_derive.specs.declared.symbol.Symbol.{Symbol}
use Rattle.mg_derive.specs.Symbols.{letters_alone, written_out}

-- room for letters alone, and for a text written out
pub record Room : Type 0 where
  pub letters : ℕ
  pub written : ℕ

-- there is room for the letters of the text, and for the text written out
pub record HasRoom (ask : Inquiry) (text : List Symbol) (room : Room) : Type 0 where
  pub letters : length (letters_alone text) ≤ room.letters
  pub written : length (written_out ask text) ≤ room.written

-- there is room for every text of at most so many symbols, whatever its symbols
abbrev pub HasRoomForLength : Inquiry → ℕ → Room → Type 0
HasRoomForLength ask symbols room = (text : List Symbol) → length text ≤ symbols → HasRoom ask text room

-- what contracts see of a derivation: its symbols, and how many it can hold with no memory
pub record Text : Type 0 where
  pub symbols : List Symbol
  pub capacity : ℕ
