-- The turns of Nielsen reduction.
use Rattle.std.specs.Prelude.{◌≡◌, ℕ, ◌+◌, ◌<◌, ◌≤◌, ◌⊎◌, ℤ, pos, true, Some, List, [], ◌∷◌, ◌++◌, map, length}
use Rattle.std.specs.List.{AllByRecursion, flat_map}
use Rattle.mg_turn.specs.declared.bounds.TheConstants.{MOST_SYMBOLS, MOST_LETTERS}
use Rattle.mg_turn.specs.declared.outcome.Limit.TheVariants as limit
use Rattle.mg_turn.specs.declared.outcome.Outcome.{Outcome}
use Rattle.mg_turn.specs.declared.outcome.TurnEnd.{TurnEnd}
use Rattle.mg_turn.specs.declared.outcome.TurnEnd.TheVariants.{More, Found, Closed, Idle, Stopped, Full}
use Rattle.mg_turn.specs.Turn.{Searching, goes_on}
use Rattle.mg_words.specs.Letter.{fields_of}
use Rattle.mg_present.specs.Presentation.{Group}
use Rattle.mg_present.specs.Ask.{Inquiry}
use Rattle.mg_derive.specs.declared.symbol.Symbol.{Symbol}
use Rattle.mg_derive.specs.declared.symbol.Symbol.TheVariants.{Member, Cut}
use Rattle.mg_derive.specs.Symbols.{written_out}
use Rattle.mg_derive.specs.Acceptance.{IsAccepted}
use Rattle.mg_certs.specs.Claim.{derivation, affirmed, Fact, settled}
use Rattle.mg_certs.specs.Validity.{IsValid, key_of}
use Rattle.mg_nielsen.specs.Expressed.{Expressed}
use Rattle.mg_nielsen.specs.Moves.{Nielsen, Moves, Reaches, NothingShortens, signs_held}

-- a sign as a symbol of a derivation
abbrev pub symbol_of : ℤ → Symbol
symbol_of x = Member (fields_of x).generator (fields_of x).inverse

-- the part of a goal: its signs, and the cut
abbrev pub part_of : Expressed → List Symbol
part_of rest = map symbol_of rest.signs ++ Cut ∷ []

-- the derivation that the signs of the goals are
abbrev pub text_of : List Expressed → List Symbol
text_of rests = flat_map part_of rests

-- every goal is peeled away
abbrev pub NoRest : Nielsen → Type 0
NoRest s = AllByRecursion (λ (e : Expressed). e.word ≡ []) s.rests

-- the one record that is published: YES by the derivation of the signs, which is accepted and within the limits
pub record Publishes (s : Nielsen) (records : List Fact) : Type 0 where
  pub accepted : IsAccepted s.ask (text_of s.rests)
  pub symbols : length (text_of s.rests) ≤ MOST_SYMBOLS
  pub letters : length (written_out s.ask (text_of s.rests)) ≤ MOST_LETTERS
  pub records_are : records ≡ settled s.ask (affirmed (derivation (text_of s.rests))) ∷ []

-- the next unit would make the lists of signs too long, or, with every goal peeled away, the derivation is
abbrev pub TooManySymbols : Nielsen → Type 0
TooManySymbols s = ((next : Nielsen) × Moves s next × (MOST_SYMBOLS < signs_held next)) ⊎ (NoRest s × (MOST_SYMBOLS < length (text_of s.rests)))

-- the derivation has few enough symbols, and written out too many letters
pub record TooManyLetters (s : Nielsen) : Type 0 where
  pub no_rest : NoRest s
  pub symbols : length (text_of s.rests) ≤ MOST_SYMBOLS
  pub letters : MOST_LETTERS < length (written_out s.ask (text_of s.rests))

-- how a turn ends that has reached a state
abbrev pub NielsenEnd : Nielsen → (units spent : ℕ) → TurnEnd Fact → Type 0
NielsenEnd s units spent More = (spent ≡ units) × (NoRest s → ⊥)
NielsenEnd s units spent (Found records) = NoRest s × Publishes s records
NielsenEnd s units spent (Closed records) = (records ≡ []) × (NoRest s → ⊥) × NothingShortens s
NielsenEnd s units spent Idle = ⊥
NielsenEnd s units spent (Stopped seen) = IsValid seen.value × (key_of seen.value ≡ Some s.ask)
NielsenEnd s units spent (Full limit.Symbols count) = (count ≡ MOST_SYMBOLS) × TooManySymbols s
NielsenEnd s units spent (Full limit.Letters count) = (count ≡ MOST_LETTERS) × TooManyLetters s
NielsenEnd s units spent (Full limit.Rules count) = ⊥
NielsenEnd s units spent (Full limit.Entries count) = ⊥
NielsenEnd s units spent (Full limit.Moves count) = ⊥

-- a turn: it makes units, each an elementary step or a peeling, and ends as the state says that it has reached
pub record NielsenTurn (search : Nielsen) (units : ℕ) (outcome : Outcome Fact) (after : Nielsen) : Type 0 where
  pub within : outcome.spent ≤ units
  pub reached : Nielsen
  pub reaches : Reaches outcome.spent search reached
  pub end : NielsenEnd reached units outcome.spent outcome.end
  pub after_it : after ≡ record reached { is_open = goes_on outcome.end }

-- the subgroup words with their own signs, from a place on
abbrev pub first_members : ℕ → List (List ℤ) → List Expressed
first_members place [] = []
first_members place (w ∷ words) = record { word = w; signs = pos place ∷ [] } ∷ first_members (place + 1) words

-- each goal is its own rest
abbrev pub first_rests : List (List ℤ) → List Expressed
first_rests goals = map (λ w. record { word = w; signs = [] }) goals

-- a search that has just been started
abbrev pub first_search : Inquiry → Nielsen
first_search ask = record { ask = ask; members = first_members 1 ask.subgroup; rests = first_rests ask.goals; spent = 0; is_open = true }

-- what these searches mean to a run; they want no models
abbrev pub searching : Searching Fact Inquiry Group Nielsen
searching = record {
  key = λ search. search.ask;
  group = λ search. search.ask.group;
  spent = λ search. search.spent;
  is_open = λ search. search.is_open;
  wants = λ search units. 0;
  turns = λ search units facts outcome after. NielsenTurn search units outcome after;
}
