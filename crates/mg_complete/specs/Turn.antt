-- The turns of completion.
use Rattle.std.specs.Prelude.{◌≡◌, ◌≢◌, ◌⊎◌, ℕ, ◌+◌, ◌<◌, ◌≤◌, ℤ, Bool, true, Some, List, [], ◌++◌, length, Contains}
use Rattle.mg_turn.specs.declared.bounds.TheConstants.{MOST_RULES, MOST_SIDE_LETTERS, MOST_LETTERS, MOST_MOVES}
use Rattle.mg_turn.specs.declared.outcome.Limit.{Limit}
use Rattle.mg_turn.specs.declared.outcome.Limit.TheVariants as limit
use Rattle.mg_turn.specs.declared.outcome.Outcome.{Outcome}
use Rattle.mg_turn.specs.declared.outcome.TurnEnd.{TurnEnd}
use Rattle.mg_turn.specs.declared.outcome.TurnEnd.TheVariants.{More, Found, Closed, Idle, Stopped, Full}
use Rattle.mg_turn.specs.Turn.{Searching, goes_on}
use Rattle.mg_present.specs.Presentation.{Group}
use Rattle.mg_present.specs.Ask.{Inquiry}
use Rattle.mg_rules.specs.Rule.{Rule, Descends, IsNormal}
use Rattle.mg_rulelog.specs.declared.moves.Move.{Move}
use Rattle.mg_rulelog.specs.Acceptance.{AllErase}
use Rattle.mg_certs.specs.Claim.{Fact}
use Rattle.mg_certs.specs.Validity.{IsValid, key_of}
use Rattle.mg_complete.specs.Equations.{IsGiven, sides}
use Rattle.mg_complete.specs.Completion.{Completion, IsKept, letters_in, moves_in}
use Rattle.mg_complete.specs.Publishing.{Publishes}

-- some goal has a normal descendant that isn't empty
pub record Remains (ask : Inquiry) (rules : List Rule) : Type 0 where
  pub goal : List ℤ
  pub asked : Contains ask.goals goal
  pub rest : List ℤ
  pub descends : Descends rules goal rest
  pub normal : IsNormal rules rest
  pub some : rest ≢ []

-- with this rule and its reason the rules would pass the limit
abbrev pub Passes : List Rule → List (List Move) → Rule → List Move → Limit → ℕ → Type 0
Passes rules reasons rule moves limit.Rules count = (count ≡ MOST_RULES) × (MOST_RULES < length rules + 1)
Passes rules reasons rule moves limit.Letters count =
    ((count ≡ MOST_SIDE_LETTERS) × (MOST_SIDE_LETTERS < length rule.left))
    ⊎ ((count ≡ MOST_LETTERS) × (MOST_LETTERS < letters_in rules + (length rule.left + length rule.right)))
Passes rules reasons rule moves limit.Moves count = (count ≡ MOST_MOVES) × (MOST_MOVES < moves_in reasons + length moves)
Passes rules reasons rule moves limit.Entries count = ⊥
Passes rules reasons rule moves limit.Symbols count = ⊥

-- an equation of the rules gives a rule that would pass the limit
pub record NoRoom (group : Group) (rules : List Rule) (reasons : List (List Move)) (what : Limit) (count : ℕ) : Type 0 where
  pub rule : Rule
  pub moves : List Move
  pub given : IsGiven group rules rule moves
  pub passes : Passes rules reasons rule moves what count

-- each goal comes to nothing, and the log would have too many moves
pub record LongLog (ask : Inquiry) (rules : List Rule) (reasons : List (List Move)) (what : Limit) (count : ℕ) : Type 0 where
  pub lists : List (List Move)
  pub erase : AllErase ask.group (sides rules) lists ask.goals
  pub what_is : what ≡ limit.Moves
  pub count_is : count ≡ MOST_MOVES
  pub most : MOST_MOVES < moves_in reasons + moves_in lists

-- how a turn ends, which leads from one state to another
abbrev pub CompletionEnd : (search after : Completion) → (units spent : ℕ) → TurnEnd Fact → Type 0
CompletionEnd search after units spent More = (spent ≡ units) × Remains after.ask after.rules
CompletionEnd search after units spent (Found records) = Publishes after records
CompletionEnd search after units spent (Full what count) =
    NoRoom after.ask.group after.rules after.reasons what count ⊎ LongLog after.ask after.rules after.reasons what count
CompletionEnd search after units spent (Stopped seen) =
    (after ≡ search) × (spent ≡ 0) × IsValid seen.value × (key_of seen.value ≡ Some search.ask)
CompletionEnd search after units spent (Closed records) = ⊥
CompletionEnd search after units spent Idle = ⊥

-- whether a turn has ended More or Found
abbrev pub has_begun : {R : Type 0} → Bool → TurnEnd R → Bool
has_begun before More = true
has_begun before (Found records) = true
has_begun before (Closed records) = before
has_begun before Idle = before
has_begun before (Stopped seen) = before
has_begun before (Full what count) = before

-- a turn: rules are added, and as many overlaps are done as units are spent
pub record CompletionTurn (search : Completion) (units : ℕ) (outcome : Outcome Fact) (after : Completion) : Type 0 where
  pub within : outcome.spent ≤ units
  pub ask : after.ask ≡ search.ask
  pub added : List Rule
  pub rules : after.rules ≡ search.rules ++ added
  pub added_reasons : List (List Move)
  pub reasons : after.reasons ≡ search.reasons ++ added_reasons
  pub spent : after.spent ≡ search.spent + outcome.spent
  pub openness : after.is_open ≡ goes_on outcome.end
  pub begun : after.begun ≡ has_begun search.begun outcome.end
  pub kept : IsKept after
  pub end : CompletionEnd search after units outcome.spent outcome.end

-- what these searches mean to a run; they want no models
abbrev pub searching : Searching Fact Inquiry Group Completion
searching = record {
  key = λ search. search.ask;
  group = λ search. search.ask.group;
  spent = λ search. search.spent;
  is_open = λ search. search.is_open;
  wants = λ search units. 0;
  turns = λ search units facts outcome after. CompletionTurn search units outcome after;
}

-- the search is over with Found or Full, or it was stopped
abbrev pub Ends : {R : Type 0} → TurnEnd R → Type 0
Ends More = ⊥
Ends (Found records) = Unit {0}
Ends (Closed records) = ⊥
Ends Idle = ⊥
Ends (Stopped seen) = Unit {0}
Ends (Full what count) = Unit {0}
