-- How a session in code keeps its searches.
use Rattle.std.specs.Prelude.{◌≡◌, ℕ, ◌+◌, ◌^◌, ◌<◌, List, [], ◌∷◌, length}
use Rattle.mg_core.specs.declared.entries.Entry.{Entry}
use Rattle.mg_ledger.specs.declared.ledger.Account.{Account}
use Rattle.mg_ledger.specs.Ledgers.{LedgerState}
use Rattle.mg_certs.specs.Claim.{Fact}
use Rattle.mg_session.specs.State.{State, SearchState}
use Rattle.mg_session.specs.declared.state.Kept.{Kept}

-- a search with its number and the account of its cell
abbrev pub seen : ℕ → Kept → Account → SearchState
seen number kept account = record {
  question = kept.question;
  number = number;
  search = kept.search;
  account = account;
  allowed = kept.allowed;
  turns = kept.turns;
  read = kept.read;
  end = kept.end;
}

-- searches with numbers from this one on, each with the account at its place
abbrev pub all_seen : ℕ → List Kept → List Account → List SearchState
all_seen n (kept ∷ searches) (account ∷ cells) = seen n kept account ∷ all_seen (n + 1) searches cells
all_seen n searches cells = []

-- each search has a cell, and a number below 2^32
pub record HaveCells (searches : List Kept) (cells : List Account) : Type 0 where
  pub each : length searches ≡ length cells
  pub few : length searches < 2 ^ 32

-- the state that a session keeps in these
abbrev pub state_of : LedgerState → List Kept → List (Entry Fact) → State
state_of ledger searches log = record {
  funded = ledger.funded;
  purse = ledger.purse;
  searches = all_seen 1 searches ledger.cells;
  log = log;
}
