-- What a `run` step of a session does, phase after phase.
use Rattle.std.specs.Prelude.{◌≡◌, ℕ, ◌+◌, ◌≤◌, ◌↔◌, min, false, Option, Some, None, List, [], ◌∷◌, map, slice_get}
use Rattle.std.specs.List.{AllByRecursion}
use Rattle.mg_core.specs.declared.entries.Entry.{Entry}
use Rattle.mg_core.specs.Log.{Settled, KeeperOf, ModelsAbove}
use Rattle.mg_workers.specs.declared.held.End.{End}
use Rattle.mg_workers.specs.declared.held.End.TheVariants as ends
use Rattle.mg_workers.specs.Run.{Row, Running, Runs, Finished}
use Rattle.mg_workers.specs.Rows.{EachPair}
use Rattle.mg_ledger.specs.Accounts.{total_held}
use Rattle.mg_present.specs.Ask.{Inquiry}
use Rattle.mg_names.specs.Plan.{Plan}
use Rattle.mg_certs.specs.Claim.{Fact}
use Rattle.mg_certs.specs.Validity.{key_of, recording}
use Rattle.mg_search.specs.Search.{Search, ask_of, Reads, searching}
use Rattle.mg_session.specs.State.{State, SearchState, Params, row_taken, after_row, give_back, ended, accounts}

-- the search's Ask has a verdict in the state's log
abbrev pub IsSettled : State → SearchState → Type 0
IsSettled state search = Settled key_of state.log (ask_of search.search)

-- a row is that of the search; it takes part exactly where the test holds
pub record IsRow (Takes : SearchState → Type 0) (search : SearchState) (row : Row Search) : Type 0 where
  pub row_is : row ≡ row_taken row.left search
  pub takes : (row.left ≡ false) ↔ Takes search

-- the searches as a run leaves them
abbrev pub after_rows : List SearchState → List (Row Search) → List SearchState
after_rows (search ∷ searches) (row ∷ rows) = after_row search row ∷ after_rows searches rows
after_rows searches rows = []

-- one finished run of the searches that take part, the others sitting out
pub record Rounds (params : Params) (Takes : State → SearchState → Type 0) (old new : State) : Type 0 where
  pub first : Running Fact Search
  pub last : Running Fact Search
  pub rows : EachPair (IsRow (Takes old)) old.searches first.rows
  pub log : first.log ≡ old.log
  pub runs : Runs recording searching params.workers params.IsSize old.log first last
  pub finished : Finished last
  pub new_is : new ≡ record old { searches = after_rows old.searches last.rows; log = last.log }

-- groups inherit nothing from each other yet
abbrev pub Inherit : Plan → State → State → Type 0
Inherit plan old new = new ≡ old

-- how many units a search may spend under a bound
abbrev pub within_bound : Option ℕ → ℕ → ℕ
within_bound None held = held
within_bound (Some bound) held = min held bound

abbrev pub allow : Option ℕ → SearchState → SearchState
allow bound search = record search { allowed = within_bound bound search.account.held }

-- neither closed nor full
abbrev pub CanGoOn : End → Type 0
CanGoOn ends.Closed = ⊥
CanGoOn (ends.Full what count) = ⊥
CanGoOn _ = Unit {0}

-- a search that holds units, whose Ask isn't settled and that is neither closed nor full
pub record TakesPart (state : State) (search : SearchState) : Type 0 where
  pub holds : 1 ≤ search.account.held
  pub unsettled : IsSettled state search → ⊥
  pub can_go_on : CanGoOn search.end

-- each search is allowed what it holds, or the bound where that is less, and those that can take part run
pub record Core (params : Params) (bound : Option ℕ) (old new : State) : Type 0 where
  pub rounds : Rounds params TakesPart (record old { searches = map (allow bound) old.searches }) new

-- an idle search of an unsettled Ask that has allowed units, and a model of its group above what it has read
pub record Idles (state : State) (search : SearchState) : Type 0 where
  pub reads : Reads search.search
  pub idle : search.end ≡ ends.Idle
  pub allowed : 1 ≤ search.allowed
  pub unsettled : IsSettled state search → ⊥
  pub number : ℕ
  pub model : Fact
  pub rest : List (ℕ × Fact)
  pub unread : ModelsAbove recording.model_of state.log (ask_of search.search).group search.read ((number, model) ∷ rest)

-- some search of the state idles beside an unread model
pub record SomeIdles (state : State) : Type 0 where
  pub place : ℕ
  pub search : SearchState
  pub there : slice_get state.searches place ≡ Some search
  pub idles : Idles state search

-- while some search of the state idles beside an unread model, those that do are run again
abbrev pub FurtherBy : Plan → Params → State → List State → State → Type 0
FurtherBy plan params old [] new = AllByRecursion (λ search. Idles old search → ⊥) old.searches × (new ≡ old)
FurtherBy plan params old (next ∷ states) new =
    SomeIdles old × (mid : State) × Rounds params Idles old mid × Inherit plan mid next × FurtherBy plan params next states new

abbrev pub Further : Plan → Params → State → State → Type 0
Further plan params old new = (states : List State) × FurtherBy plan params old states new

-- the kept entry that settled the Ask is of the search with this number
abbrev pub KeepsVerdict : List (Entry Fact) → Inquiry → ℕ → Type 0
KeepsVerdict log ask number = (entry : Entry Fact) × KeeperOf key_of log ask entry × (entry.search ≡ number)

-- the verdict for the search's Ask is its own
abbrev pub IsKeeper : State → SearchState → Type 0
IsKeeper state search = KeepsVerdict state.log (ask_of search.search) search.number

-- a search whose Ask is settled gives back what it holds, and stands found where the verdict is its own and
-- stopped where it isn't; another search stays as it is
pub data IsSettledTo (state : State) (search after : SearchState) : Type 0 where
  is_found : IsSettled state search → IsKeeper state search → after ≡ ended ends.Found (give_back search) → IsSettledTo state search after
  is_stopped : IsSettled state search → (IsKeeper state search → ⊥) → after ≡ ended ends.Stopped (give_back search) → IsSettledTo state search after
  stays : (IsSettled state search → ⊥) → after ≡ search → IsSettledTo state search after

-- each search is settled, and what was given back is in the purse
pub record Settle (old new : State) : Type 0 where
  pub searches : EachPair (IsSettledTo old) old.searches new.searches
  pub purse : new.purse + total_held (accounts new.searches) ≡ old.purse + total_held (accounts old.searches)
  pub new_is : new ≡ record old { purse = new.purse; searches = new.searches }

-- there are no side searches yet
abbrev pub Sides : Params → Option ℕ → State → State → Type 0
Sides params bound old new = new ≡ old

-- a whole `run` step
pub record RunStep (plan : Plan) (params : Params) (bound : Option ℕ) (old new : State) : Type 0 where
  pub inherited : State
  pub inherit : Inherit plan old inherited
  pub ran : State
  pub core : Core params bound inherited ran
  pub inherited_again : State
  pub inherit_again : Inherit plan ran inherited_again
  pub ran_on : State
  pub further : Further plan params inherited_again ran_on
  pub settled : State
  pub settle : Settle ran_on settled
  pub sides : Sides params bound settled new
