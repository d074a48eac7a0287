-- Sessions: lists of states, one for each step of a plan.
use Rattle.std.specs.Prelude.{◌≡◌, ℕ, ◌+◌, ◌-◌, ◌<◌, ◌≤◌, ◌⊎◌, List, [], ◌∷◌, ◌++◌, length}
use Rattle.std.specs.List.{AllByRecursion}
use Rattle.mg_ledger.specs.Accounts.{granted_more}
use Rattle.mg_ledger.specs.declared.ledger.TheConstants.{MOST_FUNDED}
use Rattle.mg_words.specs.declared.procedure.Procedure.{Procedure}
use Rattle.mg_workers.specs.declared.held.End.{End}
use Rattle.mg_workers.specs.declared.held.End.TheVariants as ends
use Rattle.mg_present.specs.Ask.{Inquiry}
use Rattle.mg_names.specs.Plan.{Plan, AskOf, Step, fund, grant, run, cancel, report, report_facts, report_log}
use Rattle.mg_search.specs.Search.{Search, Opens}
use Rattle.mg_session.specs.State.{State, SearchState, Params, IsOf, empty, give_back}
use Rattle.mg_session.specs.Run.{RunStep}

-- the search of the question and procedure is there, between these others
pub record IsThere (state : State) (question : ℕ) (procedure : Procedure) (before : List SearchState) (search : SearchState) (after : List SearchState) : Type 0 where
  pub place : state.searches ≡ before ++ search ∷ after
  pub is_of : IsOf question procedure search

-- there is no search of the question and procedure
abbrev pub IsAbsent : State → ℕ → Procedure → Type 0
IsAbsent state question procedure = AllByRecursion (λ search. IsOf question procedure search → ⊥) state.searches

-- a cancelled search that is granted units goes on
abbrev pub end_granted : End → End
end_granted ends.Cancelled = ends.More
end_granted end = end

abbrev pub granted : ℕ → SearchState → SearchState
granted units search = record search { account = granted_more units search.account; end = end_granted search.end }

-- a search that its first grant makes
abbrev pub new_search : ℕ → ℕ → Search → ℕ → SearchState
new_search question number search units = record {
  question = question;
  number = number;
  search = search;
  account = record { granted = units; spent = 0; held = units; returned = 0 };
  allowed = 0;
  turns = 0;
  read = 0;
  end = ends.Fresh;
}

-- an end that a cancelled search keeps
abbrev pub end_cancelled : End → End
end_cancelled ends.Found = ends.Found
end_cancelled ends.Closed = ends.Closed
end_cancelled ends.Stopped = ends.Stopped
end_cancelled (ends.Full what count) = ends.Full what count
end_cancelled _ = ends.Cancelled

abbrev pub cancelled : SearchState → SearchState
cancelled search = record (give_back search) { end = end_cancelled search.end }

-- what a grant does that the purse covers
pub data Grants (plan : Plan) (question : ℕ) (procedure : Procedure) (units : ℕ) (old new : State) : Type 0 where
  to_one_there : (before after : List SearchState) (search : SearchState) → IsThere old question procedure before search after →
      new ≡ record old { purse = old.purse - units; searches = before ++ granted units search ∷ after } → Grants plan question procedure units old new
  to_a_new_one : IsAbsent old question procedure → (ask : Inquiry) (search : Search) → AskOf plan question ask → Opens procedure ask search →
      new ≡ record old { purse = old.purse - units; searches = old.searches ++ new_search question (length old.searches + 1) search units ∷ [] } → Grants plan question procedure units old new

-- what a cancel does
pub data Cancels (question : ℕ) (procedure : Procedure) (old new : State) : Type 0 where
  gives_back : (before after : List SearchState) (search : SearchState) → IsThere old question procedure before search after →
      new ≡ record old { purse = old.purse + search.account.held; searches = before ++ cancelled search ∷ after } → Cancels question procedure old new
  is_refused : IsAbsent old question procedure → new ≡ old → Cancels question procedure old new

-- the state after a step
abbrev pub After : Plan → Params → Step → State → State → Type 0
After plan params (fund units) old new =
    ((old.funded + units ≤ MOST_FUNDED) × (new ≡ record old { funded = old.funded + units; purse = old.purse + units }))
    ⊎ ((MOST_FUNDED < old.funded + units) × (new ≡ old))
After plan params (grant question procedure units) old new =
    ((units ≤ old.purse) × Grants plan question procedure units old new) ⊎ ((old.purse < units) × (new ≡ old))
After plan params (run bound) old new = RunStep plan params bound old new
After plan params (cancel question procedure) old new = Cancels question procedure old new
After plan params (report questions) old new = new ≡ old
After plan params report_facts old new = new ≡ old
After plan params report_log old new = new ≡ old

-- the states after these steps, one after another
abbrev pub Continues : Plan → Params → State → List Step → List State → Type 0
Continues plan params state [] later = later ≡ []
Continues plan params state (step ∷ steps) [] = ⊥
Continues plan params state (step ∷ steps) (next ∷ later) = After plan params step state next × Continues plan params next steps later

-- a session of a plan: its states, from that in which nothing is funded on
abbrev pub Session : Plan → Params → List State → Type 0
Session plan params [] = ⊥
Session plan params (state ∷ later) = (state ≡ empty) × Continues plan params state plan.steps later
