-- The states of a session.
use Rattle.std.specs.Prelude.{◌≡◌, ℕ, ◌==◌, if◌then◌else◌, Bool, false, Option, Some, None, List, [], ◌∷◌, map}
use Rattle.mg_core.specs.declared.entries.Entry.{Entry}
use Rattle.mg_ledger.specs.declared.ledger.Account.{Account}
use Rattle.mg_ledger.specs.Accounts.{given_back}
use Rattle.mg_ledger.specs.Ledgers.{LedgerState}
use Rattle.mg_words.specs.declared.procedure.Procedure.{Procedure}
use Rattle.mg_workers.specs.declared.held.End.{End}
use Rattle.mg_workers.specs.Run.{Row}
use Rattle.mg_present.specs.Ask.{Inquiry}
use Rattle.mg_certs.specs.Claim.{Fact}
use Rattle.mg_search.specs.Search.{Search, ask_of, procedure_of}

-- a search of a question: its account, and what a run holds of it
pub record SearchState : Type 0 where
  pub question : ℕ
  pub number : ℕ
  pub search : Search
  pub account : Account
  pub allowed : ℕ
  pub turns : ℕ
  pub read : ℕ
  pub end : End

-- the units funded and those in the purse, the searches in the order of their numbers, and the log
pub record State : Type 0 where
  pub funded : ℕ
  pub purse : ℕ
  pub searches : List SearchState
  pub log : List (Entry Fact)

-- nothing funded, no search, and an empty log
abbrev pub empty : State
empty = record { funded = 0; purse = 0; searches = []; log = [] }

-- how a session runs: its number of workers, and the sizes that its policy gives for the number of turns, the
-- units spent and the units allowed
pub record Params : Type 1 where
  pub workers : ℕ
  pub IsSize : ℕ → ℕ → ℕ → ℕ → Type 0

-- the search is the one of this question and procedure
pub record IsOf (question : ℕ) (procedure : Procedure) (search : SearchState) : Type 0 where
  pub of_question : search.question ≡ question
  pub of_procedure : procedure_of search.search ≡ procedure

-- the accounts of searches, in their order
abbrev pub accounts : List SearchState → List Account
accounts searches = map (λ search. search.account) searches

-- the units of a state, as a ledger keeps them
abbrev pub ledger_of : State → LedgerState
ledger_of state = record { funded = state.funded; purse = state.purse; cells = accounts state.searches }

-- a search that has given back all that it held
abbrev pub give_back : SearchState → SearchState
give_back search = record search { account = given_back search.account; allowed = 0 }

-- a search that stands thus
abbrev pub ended : End → SearchState → SearchState
ended end search = record search { end = end }

-- a search as a run takes it, which sits out where it has left
abbrev pub row_taken : Bool → SearchState → Row Search
row_taken left search = record {
  search = search.search;
  number = search.number;
  held = search.account.held;
  spent = search.account.spent;
  allowed = search.allowed;
  turns = search.turns;
  read = search.read;
  end = search.end;
  left = left;
  looked = false;
}

-- a search as a run leaves it
abbrev pub after_row : SearchState → Row Search → SearchState
after_row search row = record search {
  search = row.search;
  account = record (search.account) { held = row.held; spent = row.spent };
  allowed = row.allowed;
  turns = row.turns;
  read = row.read;
  end = row.end;
}

-- what the search asks with the number of the entry, if there is one
abbrev pub asks : List SearchState → Entry Fact → Option Inquiry
asks [] entry = None
asks (search ∷ searches) entry = if search.number == entry.search then Some (ask_of search.search) else asks searches entry
