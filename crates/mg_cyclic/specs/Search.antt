-- The search through the maps of the group of an Ask in the order of their numbers.
use Rattle.std.specs.Prelude.{◌≡◌, ℕ, ◌≤◌, ◌<◌, Bool, true}
use Rattle.mg_numbers.specs.declared.blocks.TheConstants.{MOST_NUMBER}
use Rattle.mg_numbers.specs.Residues.{ResidueTuple}
use Rattle.mg_present.specs.Ask.{Inquiry}
use Rattle.mg_cyclic.specs.declared.walk.Walk.{Walk}
use Rattle.mg_cyclic.specs.Walk.{IsWalk}

-- what contracts see of a search: its Ask, the number of the last map tested, whether it goes on, and, once it has
-- found a map, that one and the goal that it refutes
pub record Searched : Type 0 where
  pub ask : Inquiry
  pub cursor : ℕ
  pub is_open : Bool
  pub map : ResidueTuple
  pub goal : ℕ

-- what a search keeps true of its parts: while it goes on, its walk does, and no map up to the cursor refutes a goal
pub record IsReady (ask : Inquiry) (cursor : ℕ) (is_open : Bool) (walk : Walk) : Type 0 where
  pub most : cursor ≤ MOST_NUMBER
  pub walks : is_open ≡ true → IsWalk ask walk
  pub ahead : is_open ≡ true → cursor < walk.next
