-- A search made up for examples: it reads no models, and finds at its third unit.
use Rattle.std.specs.Prelude.{◌≡◌, ℕ, ◌+◌, ◌≤◌, nat_lt, Some, [], ◌∷◌}
use Rattle.mg_core.specs.Recording.{Recording}
use Rattle.mg_core.specs.declared.entries.Facts.{Facts}
use Rattle.mg_turn.specs.declared.outcome.Outcome.{Outcome}
use Rattle.mg_turn.specs.declared.outcome.TurnEnd.{TurnEnd}
use Rattle.mg_turn.specs.declared.outcome.TurnEnd.TheVariants.{More, Found, Closed, Idle, Stopped, Full}
use Rattle.mg_turn.specs.Turn.{Searching, goes_on}

pub record Third (K G : Type 0) : Type 0 where
  pub key : K
  pub group : G
  pub spent : ℕ

-- what an end says of the units spent before and in the turn
abbrev pub ThirdEnd : {R K G : Type 0} → Recording R K G → (K → R) → K → ℕ → ℕ → ℕ → TurnEnd R → Type 0
ThirdEnd recording verdict key before units spent More = spent ≡ units
ThirdEnd recording verdict key before units spent (Found records) = (before + spent ≡ 3) × (records ≡ verdict key ∷ [])
ThirdEnd recording verdict key before units spent (Closed records) = ⊥
ThirdEnd recording verdict key before units spent Idle = ⊥
ThirdEnd recording verdict key before units spent (Stopped seen) = (spent ≡ 0) × recording.valid seen.value × (recording.settles seen.value ≡ Some key)
ThirdEnd recording verdict key before units spent (Full what count) = ⊥

pub record ThirdTurn {R K G : Type 0} (recording : Recording R K G) (verdict : K → R) (search : Third K G) (units : ℕ) (facts : Facts R) (outcome : Outcome R) (after : Third K G) : Type 0 where
  pub within : outcome.spent ≤ units
  pub openness : nat_lt (search.spent + outcome.spent) 3 ≡ goes_on outcome.end
  pub after_is : after ≡ record search { spent = search.spent + outcome.spent }
  pub end : ThirdEnd recording verdict search.key search.spent units outcome.spent outcome.end

abbrev pub third : {R K G : Type 0} → Recording R K G → (K → R) → Searching R K G (Third K G)
third recording verdict = record {
  key = λ search. search.key;
  group = λ search. search.group;
  spent = λ search. search.spent;
  is_open = λ search. nat_lt search.spent 3;
  wants = λ search units. 0;
  turns = ThirdTurn recording verdict;
}

-- a search that is seen as one of another kind
abbrev pub seen_as : {R K G S T : Type 0} → (S → T) → Searching R K G T → Searching R K G S
seen_as see searching = record {
  key = λ search. searching.key (see search);
  group = λ search. searching.group (see search);
  spent = λ search. searching.spent (see search);
  is_open = λ search. searching.is_open (see search);
  wants = λ search. searching.wants (see search);
  turns = λ search units facts outcome after. searching.turns (see search) units facts outcome (see after);
}
