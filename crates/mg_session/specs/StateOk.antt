-- What holds of every state of a session.
use Rattle.std.specs.Prelude.{◌≡◌, ℕ, ◌+◌, ◌≤◌, ◌↔◌, true, false, List, [], ◌∷◌, length}
use Rattle.std.specs.List.{AllByRecursion}
use Rattle.mg_core.specs.declared.entries.Entry.{Entry}
use Rattle.mg_core.specs.Log.{facts_of, Settled, KeeperOf, LegalFrom}
use Rattle.mg_ledger.specs.Ledgers.{IsLedger}
use Rattle.mg_words.specs.declared.procedure.Procedure.{Procedure}
use Rattle.mg_workers.specs.declared.held.End.{End}
use Rattle.mg_workers.specs.declared.held.End.TheVariants as ends
use Rattle.mg_workers.specs.Run.{Row}
use Rattle.mg_workers.specs.Rows.{units_of}
use Rattle.mg_present.specs.Applies.{Applies}
use Rattle.mg_names.specs.Plan.{Plan, AskOf}
use Rattle.mg_certs.specs.Claim.{Fact}
use Rattle.mg_certs.specs.Validity.{IsValid, key_of}
use Rattle.mg_search.specs.Search.{Search, ask_of, procedure_of, units_spent, is_open, InRow, HasPublished}
use Rattle.mg_search.specs.Ends.{CanClose, CanIdle, CanFill}
use Rattle.mg_session.specs.Run.{KeepsVerdict}
use Rattle.mg_session.specs.Reading.{ReadsOf}
use Rattle.mg_session.specs.State.{State, SearchState, ledger_of, asks, row_taken}

-- a search that stands so goes on, or is over; one that was stopped may be either
abbrev pub IsOpenAt : End → Search → Type 0
IsOpenAt ends.Fresh search = is_open search ≡ true
IsOpenAt ends.More search = is_open search ≡ true
IsOpenAt ends.Idle search = is_open search ≡ true
IsOpenAt ends.Cancelled search = is_open search ≡ true
IsOpenAt ends.Found search = is_open search ≡ false
IsOpenAt ends.Closed search = is_open search ≡ false
IsOpenAt (ends.Full what count) search = is_open search ≡ false
IsOpenAt ends.Stopped search = Unit {0}

-- the searches that can end so
abbrev pub CanEnd : End → Procedure → Type 0
CanEnd ends.Closed procedure = CanClose procedure
CanEnd ends.Idle procedure = CanIdle procedure
CanEnd (ends.Full what count) procedure = CanFill procedure
CanEnd _ procedure = Unit {0}

-- a search that stands so ended with a verdict for its Ask
abbrev pub HasVerdict : End → Type 0
HasVerdict ends.Found = Unit {0}
HasVerdict ends.Stopped = Unit {0}
HasVerdict _ = ⊥

-- how the search with this number stands: found exactly where the verdict for its Ask is its own, and found or stopped
-- only where there is one
pub record EndsSo (log : List (Entry Fact)) (search : Search) (number : ℕ) (end : End) : Type 0 where
  pub found : (end ≡ ends.Found) ↔ KeepsVerdict log (ask_of search) number
  pub verdict : HasVerdict end → Settled key_of log (ask_of search)
  pub openness : IsOpenAt end search
  pub can_end : CanEnd end (procedure_of search)

-- How a search stands beside the log: its state is one that its turns lead to, and its verdict what that state
-- says; its units are those of its entries; it may spend no more than it holds; it has read no further
-- than the facts go; and the models that it has read are the first ones.
pub record StandsBeside (log : List (Entry Fact)) (row : Row Search) : Type 0 where
  pub in_row : InRow row.search
  pub units : units_spent row.search ≡ row.spent
  pub counted : units_of row.number log ≡ row.spent
  pub allowed : row.allowed ≤ row.held
  pub end : EndsSo log row.search row.number row.end
  pub published : (entry : Entry Fact) → KeeperOf key_of log (ask_of row.search) entry → entry.search ≡ row.number → HasPublished row.search entry.records
  pub read : row.read ≤ length (facts_of log)
  pub in_order : ReadsOf log row.search row.read

-- a search asks what its question does, and its procedure may be used for that
pub record IsAsked (plan : Plan) (search : SearchState) : Type 0 where
  pub asked : AskOf plan search.question (ask_of search.search)
  pub applies : Applies (procedure_of search.search) (ask_of search.search)

-- the searches have the numbers from this one on
abbrev pub AreNumbered : ℕ → List SearchState → Type 0
AreNumbered n [] = Unit {0}
AreNumbered n (search ∷ searches) = (search.number ≡ n) × AreNumbered (n + 1) searches

-- two searches of different questions, or by different procedures
abbrev pub AreOther : SearchState → SearchState → Type 0
AreOther one other = one.question ≡ other.question → procedure_of one.search ≡ procedure_of other.search → ⊥

-- a question has one search of each procedure at most
abbrev pub AreSingle : List SearchState → Type 0
AreSingle [] = Unit {0}
AreSingle (search ∷ searches) = AllByRecursion (AreOther search) searches × AreSingle searches

-- the entry was committed by one of the workers, which count from 1, or by none of them and without units
pub data HasPass (workers : ℕ) (entry : Entry Fact) : Type 0 where
  of_worker : 1 ≤ entry.pass → entry.pass ≤ workers → HasPass workers entry
  of_none : entry.pass ≡ 0 → entry.units ≡ 0 → HasPass workers entry

-- The accounts balance, and every unit funded is in the purse, held or spent. The searches are numbered from 1, and
-- a question has one of each procedure at most. The log is legal, and each of its entries is by a worker, or without units by none.
pub record StateOk (plan : Plan) (workers : ℕ) (state : State) : Type 0 where
  pub ledger : IsLedger (ledger_of state)
  pub numbered : AreNumbered 1 state.searches
  pub single : AreSingle state.searches
  pub asked : AllByRecursion (IsAsked plan) state.searches
  pub stand : AllByRecursion (λ search. StandsBeside state.log (row_taken true search)) state.searches
  pub legal : LegalFrom IsValid key_of (asks state.searches) [] state.log
  pub passes : AllByRecursion (HasPass workers) state.log
