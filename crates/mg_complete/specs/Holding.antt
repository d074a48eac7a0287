-- What a search holds while no turn runs: its work, or none after want of memory.
use Rattle.std.specs.Prelude.{◌≡◌, ℕ, Bool, true, false, Option, None, Some, List, []}
use Rattle.mg_present.specs.Ask.{Inquiry}
use Rattle.mg_rules.specs.declared.meeting.Meeting.{Meeting}
use Rattle.mg_rules.specs.Rule.{Rule}
use Rattle.mg_rulelog.specs.declared.moves.Move.{Move}
use Rattle.mg_complete.specs.declared.work.Work.{Work}
use Rattle.mg_complete.specs.Completion.{Completion, Vanish, before_all, first_equations}
use Rattle.mg_complete.specs.Working.{Works}

abbrev pub rules_of : Option Work → List Rule
rules_of None = []
rules_of (Some w) = w.system.rules

abbrev pub reasons_of : Option Work → List (List Move)
reasons_of None = []
reasons_of (Some w) = w.system.reasons

abbrev pub last_of : Option Work → Meeting
last_of None = before_all
last_of (Some w) = w.last

abbrev pub spent_of : Option Work → ℕ
spent_of None = 0
spent_of (Some w) = w.spent

-- whether a turn has ended More or Found, of a search that has its work
abbrev pub begun_of : Option Work → Bool → Bool
begun_of None begun = false
begun_of (Some w) begun = begun

-- the search; without its work it is seen as one that has just been started
abbrev pub search_of : Inquiry → Option Work → (is_open begun : Bool) → Completion
search_of ask work is_open begun = record {
  ask = ask;
  rules = rules_of work;
  reasons = reasons_of work;
  last = last_of work;
  spent = spent_of work;
  is_open = is_open;
  begun = begun_of work begun;
}

-- the work is of this Ask; where a turn has ended More or Found the pairs and relators come to nothing, and where none
-- has and the search goes on there are no rules
pub record IsWorkOf (ask : Inquiry) (w : Work) (is_open begun : Bool) : Type 0 where
  pub ask_is : w.ask ≡ ask
  pub works : Works w (first_equations ask.group)
  pub vanish : begun ≡ true → Vanish ask.group w.system.rules
  pub fresh : begun ≡ false → is_open ≡ true → w.system.rules ≡ []

-- what a search holds
abbrev pub IsHeld : Inquiry → Option Work → (is_open begun : Bool) → Type 0
IsHeld ask None is_open begun = ask.subgroup ≡ []
IsHeld ask (Some w) is_open begun = IsWorkOf ask w is_open begun
