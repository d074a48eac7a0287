-- The walk of a search through the texts of an Ask: where it stands, and which numbers it has passed.
use Rattle.std.specs.Prelude.{◌≡◌, ℕ, ◌+◌, ◌-◌, ◌*◌, ◌^◌, ◌<◌, ◌≤◌, ◌⊎◌, List, [], ◌∷◌, ◌++◌, length, map, replicate}
use Rattle.std.specs.List.{AllByRecursion}
use Rattle.mg_numbers.specs.Texts.{value}
use Rattle.mg_numbers.specs.declared.blocks.TheConstants.{MOST_NUMBER}
use Rattle.mg_numbers.specs.declared.texts.TheConstants.{MOST_DIGITS}
use Rattle.mg_numbers.specs.Plain.{NoneAmong}
use Rattle.mg_present.specs.declared.ask.TheConstants.{MOST_GOALS}
use Rattle.mg_present.specs.Ask.{Inquiry, IsAsked}
use Rattle.mg_derive.specs.declared.symbol.Symbol.{Symbol}
use Rattle.mg_derive.specs.declared.walk.Walk.{Walk}
use Rattle.mg_derive.specs.declared.walk.TheConstants.{SEARCHED_SYMBOLS}
use Rattle.mg_derive.specs.Symbols.{IsSymbolOf, digit_of, symbol_count, word_of}
use Rattle.mg_derive.specs.Acceptance.{IsAccepted, AcceptedAt}
use Rattle.mg_derive.specs.Room.{HasRoomForLength}
use Rattle.mg_derive.specs.Reading.{Standing, at_first, Leads}

-- no text that begins with these symbols and has this many more is accepted
abbrev pub NoneFollow : Inquiry → List Symbol → ℕ → Type 0
NoneFollow ask text left = (rest : List Symbol) → AllByRecursion (IsSymbolOf ask) rest → length rest ≡ left → IsAccepted ask (text ++ rest) → ⊥

-- no symbol writes more letters than this
abbrev pub WritesAtMost : Inquiry → ℕ → Type 0
WritesAtMost ask most = (symbol : Symbol) → length (word_of ask symbol) ≤ most

-- what a walk is made with
pub record IsEquipped (ask : Inquiry) (walk : Walk) : Type 0 where
  pub asked : IsAsked ask
  pub base : walk.base ≡ symbol_count ask
  pub some : 1 ≤ walk.longest
  pub longest : WritesAtMost ask walk.longest
  pub capacity : MOST_DIGITS ≤ walk.text.capacity
  pub room : HasRoomForLength ask SEARCHED_SYMBOLS (record { letters = walk.letters.capacity; written = walk.written.capacity })

-- where the reader of the walk stands
abbrev pub standing_of : Walk → Standing
standing_of walk = record { goal = walk.stand.goal; members = walk.stand.members; letters = walk.letters.letters; written = walk.written.letters }

-- the walk has read its text, and the digit is that of the symbol to be read next; 0 before the first text, which is
-- empty
pub record IsPlace (ask : Inquiry) (walk : Walk) : Type 0 where
  pub equipped : IsEquipped ask walk
  pub reads : Leads ask walk.text.symbols at_first (standing_of walk)
  pub digit : walk.digit ≤ symbol_count ask
  pub begins : walk.digit ≡ 0 → (walk.text.symbols ≡ []) × (walk.left ≡ 0)

-- how many symbols the texts have that the walk looks at
abbrev pub text_length : Walk → ℕ
text_length walk = length walk.text.symbols + 1 + walk.left

-- texts whose numbers are at most 2^62 have so many symbols, unless an accepted one comes before
abbrev pub IsShort : Inquiry → ℕ → Type 0
IsShort ask symbols = (symbols < SEARCHED_SYMBOLS) ⊎ ((symbol_count ask ≡ 1) × (symbols ≤ MOST_GOALS))

-- the value of the first text where the walk stands: the digits of its text, its digit, and then digits 1
abbrev pub first_at : Inquiry → Walk → ℕ
first_at ask walk = value (symbol_count ask) (map (digit_of ask) walk.text.symbols ++ walk.digit ∷ replicate walk.left 1)

-- none of the texts where the walk stands is accepted
abbrev pub NoneHere : Inquiry → Walk → Type 0
NoneHere ask walk = NoneAmong (AcceptedAt ask) (first_at ask walk) (first_at ask walk + walk.base ^ walk.left)

-- words of two lengths may be made one by some symbols that write a letter each and some more that write at most
-- `most` letters each
pub record InReach (from to letters more most : ℕ) : Type 0 where
  pub down : from ≤ to + (letters + more * most)
  pub up : to ≤ from + (letters + more * most)

-- what a walk keeps true while it goes on: no number before `next` is accepted, and `next` is that of the first text
-- where the walk stands, or so great that it is never reached
pub record IsWalk (ask : Inquiry) (walk : Walk) : Type 0 where
  pub place : IsPlace ask walk
  pub some : 1 ≤ walk.next
  pub none : NoneAmong (AcceptedAt ask) 0 (walk.next - 1)
  pub number : walk.next ≤ MOST_NUMBER → walk.next ≡ first_at ask walk + 1
