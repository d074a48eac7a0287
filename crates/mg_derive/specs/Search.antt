-- The search through the texts of an Ask in the order of their numbers.
use Rattle.std.specs.Prelude.{◌≡◌, ℕ, ◌<◌, ◌≤◌, Bool, true, List}
use Rattle.mg_numbers.specs.declared.blocks.TheConstants.{MOST_NUMBER}
use Rattle.mg_present.specs.Ask.{Inquiry}
use Rattle.mg_derive.specs.declared.symbol.Symbol.{Symbol}
use Rattle.mg_derive.specs.declared.walk.Walk.{Walk}
use Rattle.mg_derive.specs.Walk.{IsWalk}

-- what contracts see of a search: its Ask, the number of the last text tested, whether it goes on, and, once it has
-- found a text, that one
pub record Searched : Type 0 where
  pub ask : Inquiry
  pub cursor : ℕ
  pub is_open : Bool
  pub text : List Symbol

-- what a search keeps true of its parts: while it goes on, its walk does, and no text up to the cursor is accepted
pub record IsReady (ask : Inquiry) (cursor : ℕ) (is_open : Bool) (walk : Walk) : Type 0 where
  pub most : cursor ≤ MOST_NUMBER
  pub walks : is_open ≡ true → IsWalk ask walk
  pub ahead : is_open ≡ true → cursor < walk.next
