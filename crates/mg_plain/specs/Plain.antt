-- Searches that test the objects of a procedure in the order of their numbers, and the turns that each may make.
use Rattle.std.specs.Prelude.{◌≡◌, ℕ, ◌+◌, ◌<◌, ◌≤◌, Bool, true, Some, List, [], ◌∷◌}
use Rattle.mg_turn.specs.declared.outcome.Outcome.{Outcome}
use Rattle.mg_turn.specs.declared.outcome.TurnEnd.{TurnEnd}
use Rattle.mg_turn.specs.declared.outcome.TurnEnd.TheVariants.{More, Found, Closed, Idle, Stopped, Full}
use Rattle.mg_turn.specs.Turn.{Searching, goes_on}
use Rattle.mg_words.specs.declared.procedure.Procedure.{Procedure}
use Rattle.mg_words.specs.declared.procedure.Procedure.TheVariants.{Derive, Act, Residue}
use Rattle.mg_numbers.specs.Perms.{PermTuple}
use Rattle.mg_numbers.specs.Residues.{ResidueTuple}
use Rattle.mg_numbers.specs.Plain.{NoneAmong, First, TestsAll, FindsFirst, PassesNone}
use Rattle.mg_present.specs.Presentation.{Group}
use Rattle.mg_present.specs.Ask.{Inquiry}
use Rattle.mg_present.specs.Applies.{Applies}
use Rattle.mg_derive.specs.declared.symbol.Symbol.{Symbol}
use Rattle.mg_derive.specs.Acceptance.{IsAccepted, IsNumbered, AcceptedAt}
use Rattle.mg_action.specs.Number as by_action
use Rattle.mg_cyclic.specs.Number as by_residues
use Rattle.mg_certs.specs.Claim.{derivation, action, residues, affirmed, Fact, settled}
use Rattle.mg_certs.specs.Refuting.{PublishesNo}
use Rattle.mg_certs.specs.Validity.{IsValid, key_of}

-- a search that tests the objects of its procedure in the order of their numbers: its cursor is the number of
-- the last one tested
pub record Plain : Type 0 where
  pub procedure : Procedure
  pub ask : Inquiry
  pub cursor : ℕ
  pub is_open : Bool

-- the object of the procedure with this number is accepted for the Ask: the derivation shows its goals, or the action or
-- map refutes one; a procedure that isn't built has none
abbrev pub AcceptedBy : Procedure → Inquiry → ℕ → Type 0
AcceptedBy Derive ask n = AcceptedAt ask n
AcceptedBy Act ask n = by_action.RefutedAt ask n
AcceptedBy Residue ask n = by_residues.RefutedAt ask n
AcceptedBy _ ask n = ⊥

-- some number above `low` and up to `high` has its object accepted
abbrev pub SomeAccepted : Procedure → Inquiry → ℕ → ℕ → Type 0
SomeAccepted procedure ask low high = (n : ℕ) × (low < n) × (n ≤ high) × AcceptedBy procedure ask n

-- what a search publishes where the object with this number is accepted: the Ask settled by that object, and behind that
-- the object where it is a model
abbrev pub Publishes : Procedure → Inquiry → ℕ → List Fact → Type 0
Publishes Derive ask n records = (text : List Symbol) × IsNumbered ask text n × IsAccepted ask text × (records ≡ settled ask (affirmed (derivation text)) ∷ [])
Publishes Act ask n records = (perms : PermTuple) × by_action.IsNumbered ask.group.generators perms n × PublishesNo ask (action perms) records
Publishes Residue ask n records = (map : ResidueTuple) × by_residues.IsNumbered ask.group.generators map n × PublishesNo ask (residues map) records
Publishes _ ask n records = ⊥

-- a procedure whose objects are numbered, and that is built
abbrev pub IsPlain : Procedure → Type 0
IsPlain Derive = Unit {0}
IsPlain Act = Unit {0}
IsPlain Residue = Unit {0}
IsPlain _ = ⊥

-- how a turn of a plain search ends: it tests all its units and accepts none, or it stands at the first accepted
-- number and publishes it, or it saw a valid record that settles its Ask and had passed no accepted number
abbrev pub PlainEnd : Plain → ℕ → ℕ → TurnEnd Fact → Type 0
PlainEnd search units spent More = TestsAll (AcceptedBy search.procedure search.ask) search.cursor units spent
PlainEnd search units spent (Found records) = FindsFirst (AcceptedBy search.procedure search.ask) search.cursor units spent × Publishes search.procedure search.ask (search.cursor + spent) records
PlainEnd search units spent (Stopped seen) = PassesNone (AcceptedBy search.procedure search.ask) search.cursor units spent × IsValid seen.value × (key_of seen.value ≡ Some search.ask)
PlainEnd search units spent (Closed records) = ⊥
PlainEnd search units spent Idle = ⊥
PlainEnd search units spent (Full what count) = ⊥

-- a turn of a plain search: its cursor rises by the units spent
pub record PlainTurn (search : Plain) (units : ℕ) (outcome : Outcome Fact) (after : Plain) : Type 0 where
  pub is_plain : IsPlain search.procedure
  pub end : PlainEnd search units outcome.spent outcome.end
  pub after_it : after ≡ record search { cursor = search.cursor + outcome.spent; is_open = goes_on outcome.end }

-- a search of the procedure, which may be used for the Ask, that has just been started
pub record IsStarted (procedure : Procedure) (ask : Inquiry) (search : Plain) : Type 0 where
  pub is_plain : IsPlain procedure
  pub applies : Applies procedure ask
  pub search_is : search ≡ record { procedure = procedure; ask = ask; cursor = 0; is_open = true }

-- what a plain search keeps from its start on: while it goes on, no number up to its cursor is accepted
abbrev pub IsSearched : Plain → Type 0
IsSearched search = search.is_open ≡ true → NoneAmong (AcceptedBy search.procedure search.ask) 0 search.cursor

-- what a plain search has published that has found: the object with its first accepted number
abbrev pub HasPublished : Plain → List Fact → Type 0
HasPublished search records = First (AcceptedBy search.procedure search.ask) search.cursor × Publishes search.procedure search.ask search.cursor records

-- what a search publishes that stands at an accepted object
abbrev pub PublishesHere : Plain → List Fact → Type 0
PublishesHere search records = Publishes search.procedure search.ask search.cursor records

-- what plain searches mean to a run; they want no models
abbrev pub searching : Searching Fact Inquiry Group Plain
searching = record {
  key = λ search. search.ask;
  group = λ search. search.ask.group;
  spent = λ search. search.cursor;
  is_open = λ search. search.is_open;
  wants = λ search units. 0;
  turns = λ search units facts outcome after. PlainTurn search units outcome after;
}
