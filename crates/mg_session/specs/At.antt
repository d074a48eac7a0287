-- Searches by their places, from 0.
use Rattle.std.specs.Prelude.{◌≡◌, ℕ, ◌+◌, ◌≤◌, ◌↔◌, Bool, true, false, Some, List, [], ◌∷◌, ◌++◌, length, slice_get, slice_set}
use Rattle.std.specs.List.{AllByRecursion}
use Rattle.mg_ledger.specs.declared.ledger.TheConstants.{MOST_GRANTED}
use Rattle.mg_words.specs.declared.procedure.Procedure.{Procedure}
use Rattle.mg_workers.specs.declared.held.End.{End}
use Rattle.mg_workers.specs.declared.held.End.TheVariants.{Idle}
use Rattle.mg_core.specs.declared.entries.Entry.{Entry}
use Rattle.mg_core.specs.Log.{ModelsAbove}
use Rattle.mg_present.specs.Presentation.{Group}
use Rattle.mg_certs.specs.Claim.{Fact}
use Rattle.mg_certs.specs.Validity.{recording}
use Rattle.mg_workers.specs.Rows.{EachPair}
use Rattle.mg_present.specs.Ask.{Inquiry}
use Rattle.mg_names.specs.Plan.{Plan, AskOf}
use Rattle.mg_search.specs.Search.{Search, procedure_of, Opens, Reads}
use Rattle.mg_session.specs.State.{State, SearchState, IsOf}
use Rattle.mg_session.specs.Run.{CanGoOn, TakesPart, Idles}
use Rattle.mg_session.specs.Session.{IsAbsent, new_search}
use Rattle.mg_session.specs.declared.state.Kept.{Kept}

-- the search is the one of this question and procedure
pub record IsKeptFor (question : ℕ) (procedure : Procedure) (kept : Kept) : Type 0 where
  pub of_question : kept.question ≡ question
  pub of_procedure : procedure_of kept.search ≡ procedure

-- the search of the question and procedure is at this place
pub record IsSearchAt (state : State) (question : ℕ) (procedure : Procedure) (place : ℕ) : Type 0 where
  pub search : SearchState
  pub there : slice_get state.searches place ≡ Some search
  pub is_of : IsOf question procedure search

-- a new state is the old one with another search at this place
pub record Replaces (state : State) (place purse : ℕ) (search : SearchState) (after : State) : Type 0 where
  pub after_is : after ≡ record state { purse = purse; searches = slice_set state.searches place search }

-- a search that holds nothing is new
abbrev pub with_new : ℕ → Search → State → State
with_new question search state = record state { searches = state.searches ++ new_search question (length state.searches + 1) search 0 ∷ [] }

-- the search of the question and procedure is at the place: it was there, or it is new and holds nothing
pub data IsReady (plan : Plan) (question : ℕ) (procedure : Procedure) (old : State) (place : ℕ) (new : State) : Type 0 where
  was_there : IsSearchAt old question procedure place → new ≡ old → IsReady plan question procedure old place new
  is_new : IsAbsent old question procedure → (ask : Inquiry) (search : Search) → AskOf plan question ask → Opens procedure ask search →
      place ≡ length old.searches → new ≡ with_new question search old → IsReady plan question procedure old place new

-- of a search with so many units, an Ask that is settled or not, and this end: it may run
pub record MayRun (held : ℕ) (settled : Bool) (end : End) : Type 0 where
  pub holds : 1 ≤ held
  pub unsettled : settled ≡ false
  pub can_go_on : CanGoOn end

-- no search was granted more than a ledger counts
abbrev pub AreCounted : State → Type 0
AreCounted state = AllByRecursion (λ search. search.account.granted ≤ MOST_GRANTED) state.searches

-- of a search as it is kept: it reads models, waits for one, and may spend a unit on it
pub record MayIdle (kept : Kept) : Type 0 where
  pub reads : Reads kept.search
  pub idle : kept.end ≡ Idle
  pub allowed : 1 ≤ kept.allowed

-- whether the log has a model of the group above this number
abbrev pub HasUnread : Bool → List (Entry Fact) → Group → ℕ → Type 0
HasUnread true log group read = (number : ℕ) × (model : Fact) × (rest : List (ℕ × Fact)) × ModelsAbove recording.model_of log group read ((number, model) ∷ rest)
HasUnread false log group read = ModelsAbove recording.model_of log group read []

-- what rounds are made for: the searches that take part in a run, or those that idle beside an unread model
pub data Round : Type 0 where
  once : Round
  again : Round

abbrev pub TakesIn : Round → State → SearchState → Type 0
TakesIn once = TakesPart
TakesIn again = Idles

-- which searches rounds are made for
abbrev pub AreTaking : Round → State → List Bool → Type 0
AreTaking round state runs = EachPair (λ search takes. (takes ≡ true) ↔ TakesIn round state search) state.searches runs

-- whether some search is to run
abbrev pub Runs : Bool → List Bool → Type 0
Runs true runs = (place : ℕ) × (slice_get runs place ≡ Some true)
Runs false runs = AllByRecursion (λ takes. takes ≡ false) runs
