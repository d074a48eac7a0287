-- Searches that read the models which others have published, and the turns that each may make.
use Rattle.std.specs.Prelude.{◌≡◌, ℕ, ◌+◌, ◌-◌, ◌<◌, ◌≤◌, min, Bool, true, Some, List, [], length, slice_get}
use Rattle.mg_core.specs.declared.entries.Facts.{Facts}
use Rattle.mg_turn.specs.declared.outcome.Outcome.{Outcome}
use Rattle.mg_turn.specs.declared.outcome.TurnEnd.{TurnEnd}
use Rattle.mg_turn.specs.declared.outcome.TurnEnd.TheVariants.{More, Found, Closed, Idle, Stopped, Full}
use Rattle.mg_turn.specs.Turn.{Searching, goes_on}
use Rattle.mg_present.specs.Presentation.{Group}
use Rattle.mg_present.specs.Ask.{Inquiry}
use Rattle.mg_certs.specs.Claim.{Model, Fact, model_of}
use Rattle.mg_certs.specs.Refuting.{RefutesNone, PublishesNo}
use Rattle.mg_certs.specs.Validity.{AcceptedModel, IsValid, key_of}
use Rattle.mg_recall.specs.declared.recall.TheConstants.{MOST_MODELS}

-- a search that reads the models of its group, one for each unit
pub record Recall : Type 0 where
  pub ask : Inquiry
  pub read : ℕ
  pub is_open : Bool

-- none of the first n of these facts is a model of the group that refutes a goal of the Ask
abbrev pub NoneRefutes : Inquiry → List Fact → ℕ → Type 0
NoneRefutes ask facts n = (k : ℕ) (model : Model) → k < n → slice_get facts k ≡ Some (model_of ask.group model) → RefutesNone ask model

-- the fact at the place before this one is the first model that refutes a goal, and NO by it is published
pub record FindsFirst (ask : Inquiry) (facts : List Fact) (spent : ℕ) (records : List Fact) : Type 0 where
  pub some : 1 ≤ spent
  pub model : Model
  pub there : slice_get facts (spent - 1) ≡ Some (model_of ask.group model)
  pub of_group : AcceptedModel ask.group model
  pub none_before : NoneRefutes ask facts (spent - 1)
  pub published : PublishesNo ask model records

-- how a turn ends: it read all models that it was handed, at least one, and none refutes; or it stands at the first that
-- does; or it was handed none; or it saw a valid record that settles its Ask, and had read nothing
abbrev pub RecallEnd : Inquiry → List Fact → ℕ → TurnEnd Fact → Type 0
RecallEnd ask facts spent More = (1 ≤ spent) × (spent ≡ length facts) × NoneRefutes ask facts spent
RecallEnd ask facts spent (Found records) = FindsFirst ask facts spent records
RecallEnd ask facts spent Idle = (spent ≡ 0) × (facts ≡ [])
RecallEnd ask facts spent (Stopped seen) = (spent ≡ 0) × IsValid seen.value × (key_of seen.value ≡ Some ask)
RecallEnd ask facts spent (Closed records) = ⊥
RecallEnd ask facts spent (Full what count) = ⊥

-- a turn: as many models are read as units are spent
pub record RecallTurn (search : Recall) (facts : Facts Fact) (outcome : Outcome Fact) (after : Recall) : Type 0 where
  pub end : RecallEnd search.ask facts.records outcome.spent outcome.end
  pub after_it : after ≡ record search { read = search.read + outcome.spent; is_open = goes_on outcome.end }

-- a search that has just been started for the Ask
abbrev pub IsStarted : Inquiry → Recall → Type 0
IsStarted ask search = search ≡ record { ask = ask; read = 0; is_open = true }

-- what a search has published that has found: NO by a model of its group, with the first goal that it refutes
abbrev pub HasPublished : Recall → List Fact → Type 0
HasPublished search records = (model : Model) × AcceptedModel search.ask.group model × PublishesNo search.ask model records

-- what these searches mean to a run: for so many units one wants as many models, and 64 at most
abbrev pub searching : Searching Fact Inquiry Group Recall
searching = record {
  key = λ search. search.ask;
  group = λ search. search.ask.group;
  spent = λ search. search.read;
  is_open = λ search. search.is_open;
  wants = λ search units. min units MOST_MODELS;
  turns = λ search units facts outcome after. RecallTurn search facts outcome after;
}
