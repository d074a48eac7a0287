-- Searches that enumerate the cosets of an Ask's subgroup, and the turns that each may make.
use Rattle.std.specs.Prelude.{◌≡◌, ℕ, suc, ◌+◌, ◌*◌, ◌<◌, ◌≤◌, pos, Bool, true, Option, Some, None, [], ◌∷◌, length, slice_index, slice_index_or}
use Rattle.mg_numbers.specs.Perms.{PermTuple}
use Rattle.mg_present.specs.Presentation.{Group}
use Rattle.mg_present.specs.Ask.{Inquiry}
use Rattle.mg_tables.specs.Table.{Table, entry, IsComplete}
use Rattle.mg_tables.specs.Enumeration.{Enumerated}
use Rattle.mg_tables.specs.Enumerating.{Enumeration}
use Rattle.mg_turn.specs.declared.bounds.TheConstants.{MOST_ENTRIES}
use Rattle.mg_turn.specs.declared.outcome.Limit.TheVariants.{Entries}
use Rattle.mg_turn.specs.declared.outcome.Outcome.{Outcome}
use Rattle.mg_turn.specs.declared.outcome.TurnEnd.{TurnEnd}
use Rattle.mg_turn.specs.declared.outcome.TurnEnd.TheVariants.{More, Found, Closed, Idle, Stopped, Full}
use Rattle.mg_turn.specs.Turn.{Searching, goes_on}
use Rattle.mg_certs.specs.Claim.{Fact, action, model_of}
use Rattle.mg_certs.specs.Refuting.{PublishesNo, RefutesNone}
use Rattle.mg_certs.specs.Validity.{AcceptedModel, IsValid, key_of}

-- a search: its Ask, the table, the units spent, one for each row made, and whether it goes on
pub record Cosets : Type 0 where
  pub ask : Inquiry
  pub table : Table
  pub spent : ℕ
  pub is_open : Bool

-- the table of an enumeration, where there is one
abbrev pub table_of : Option Enumeration → Table
table_of None = []
table_of (Some e) = e.table

-- the enumeration is that of the Ask, with these units
abbrev pub IsHeld : Inquiry → ℕ → Option Enumeration → Type 0
IsHeld ask spent None = Unit {0}
IsHeld ask spent (Some e) = (e.group ≡ ask.group) × (e.subgroup ≡ ask.subgroup) × (e.units ≡ spent)

-- what a search keeps from its start on: its table is enumerated with all its units
abbrev pub IsKept : Cosets → Type 0
IsKept search = Enumerated search.ask.group search.ask.subgroup search.spent search.table

-- the permutation of each generator leads as its entries do
pub record IsActionOf (generators : ℕ) (table : Table) (perms : PermTuple) : Type 0 where
  pub degree : perms.degree ≡ length table
  pub count : length perms.images ≡ generators
  pub images : (g c : ℕ) → g < generators → c < length table → entry table c (pos (suc g)) ≡ Some (slice_index (slice_index_or perms.images g []) c)

-- a table without an empty entry, and its action, which is one of the group
pub record ActsBy (search : Cosets) (perms : PermTuple) : Type 0 where
  pub complete : IsComplete search.ask.group.generators search.table
  pub action_of : IsActionOf search.ask.group.generators search.table perms
  pub of_group : AcceptedModel search.ask.group (action perms)

-- some entry is empty
abbrev pub IsOpen : Cosets → Type 0
IsOpen search = IsComplete search.ask.group.generators search.table → ⊥

-- one more row would pass the limit
abbrev pub IsFull : Cosets → Type 0
IsFull search = MOST_ENTRIES < (length search.table + 1) * (2 * search.ask.group.generators)

-- how a turn ends, told of the search after it: all units are spent and an entry is empty; or none is, and its action
-- refutes a goal, of which the least is named, or none; or an entry is empty and one more row would pass the limit; or
-- it saw a valid record that settles its Ask
abbrev pub CosetsEnd : Cosets → ℕ → ℕ → TurnEnd Fact → Type 0
CosetsEnd after units spent More = (spent ≡ units) × IsOpen after
CosetsEnd after units spent (Found records) = (perms : PermTuple) × ActsBy after perms × PublishesNo after.ask (action perms) records
CosetsEnd after units spent (Closed records) = (perms : PermTuple) × ActsBy after perms × RefutesNone after.ask (action perms) × (records ≡ model_of after.ask.group (action perms) ∷ [])
CosetsEnd after units spent (Full what count) = IsOpen after × IsFull after × (what ≡ Entries) × (count ≡ MOST_ENTRIES)
CosetsEnd after units spent (Stopped seen) = IsValid seen.value × (key_of seen.value ≡ Some after.ask)
CosetsEnd after units spent Idle = ⊥

-- a turn: what is kept is kept, and the units are counted
pub record CosetsTurn (search : Cosets) (units : ℕ) (outcome : Outcome Fact) (after : Cosets) : Type 0 where
  pub ask : after.ask ≡ search.ask
  pub spent : after.spent ≡ search.spent + outcome.spent
  pub within : outcome.spent ≤ units
  pub openness : after.is_open ≡ goes_on outcome.end
  pub end : CosetsEnd after units outcome.spent outcome.end
  pub kept : IsKept search → IsKept after

-- a search that has just been started
pub record IsStarted (ask : Inquiry) (search : Cosets) : Type 0 where
  pub ask_is : search.ask ≡ ask
  pub none_spent : search.spent ≡ 0
  pub goes : search.is_open ≡ true
  pub kept : IsKept search

-- what these searches mean to a run; they want no models
abbrev pub searching : Searching Fact Inquiry Group Cosets
searching = record {
  key = λ search. search.ask;
  group = λ search. search.ask.group;
  spent = λ search. search.spent;
  is_open = λ search. search.is_open;
  wants = λ search units. 0;
  turns = λ search units facts outcome after. CosetsTurn search units outcome after;
}
