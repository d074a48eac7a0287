-- The search through the actions of an Ask's generators in the order of their numbers.
use Rattle.std.specs.Prelude.{◌≡◌, ℕ, ◌<◌, ◌≤◌, Bool, true}
use Rattle.mg_numbers.specs.declared.blocks.TheConstants.{MOST_NUMBER}
use Rattle.mg_numbers.specs.Perms.{PermTuple}
use Rattle.mg_present.specs.Ask.{Inquiry}
use Rattle.mg_action.specs.declared.walk.Walk.{Walk}
use Rattle.mg_action.specs.Walk.{IsWalk}

-- what contracts see of a search: its Ask, the number of the last action tested, whether it goes on, and, once it has
-- found an action, that one and the place, from 0, of the first goal that it refutes
pub record Searched : Type 0 where
  pub ask : Inquiry
  pub cursor : ℕ
  pub is_open : Bool
  pub action : PermTuple
  pub goal : ℕ

-- what a search keeps true of its parts: while it goes on, its walk does, and no action up to the cursor refutes a goal
pub record IsReady (ask : Inquiry) (cursor : ℕ) (is_open : Bool) (walk : Walk) : Type 0 where
  pub most : cursor ≤ MOST_NUMBER
  pub some : 1 ≤ ask.group.generators
  pub walks : is_open ≡ true → IsWalk ask walk
  pub ahead : is_open ≡ true → cursor < walk.next
