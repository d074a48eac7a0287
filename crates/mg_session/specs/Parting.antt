-- Searches that are parted for a run, and joined again after it.
use Rattle.std.specs.Prelude.{◌≡◌, ℕ, ◌+◌, ◌≤◌, Bool, true, false, List, [], ◌∷◌, ◌++◌, take, drop, reverse}
use Rattle.mg_ledger.specs.declared.ledger.Account.{Account}
use Rattle.mg_ledger.specs.Ledgers.{LedgerState}
use Rattle.mg_workers.specs.declared.held.Held.{Held}
use Rattle.mg_search.specs.Search.{Search}
use Rattle.mg_session.specs.declared.state.Kept.{Kept}
use Rattle.mg_session.specs.declared.parts.Place.{Place}
use Rattle.mg_session.specs.declared.parts.Place.TheVariants.{Runs, Rests}

-- a search as a run holds it, with its cell and the account there
abbrev pub held_of : ℕ → Kept → Account → Held Search
held_of cell kept account = record {
  search = kept.search;
  number = cell + 1;
  cell = cell;
  held = account.held;
  spent = account.spent;
  allowed = kept.allowed;
  turns = kept.turns;
  read = kept.read;
  end = kept.end;
}

-- the searches that run, of those with cells from this one on
abbrev pub running : ℕ → List Bool → List Kept → List Account → List (Held Search)
running cell (true ∷ runs) (kept ∷ searches) (account ∷ cells) = held_of cell kept account ∷ running (cell + 1) runs searches cells
running cell (false ∷ runs) (kept ∷ searches) (account ∷ cells) = running (cell + 1) runs searches cells
running cell runs searches cells = []

-- where they run, the others rest
abbrev pub places_of : List Bool → List Kept → List Place
places_of (true ∷ runs) (kept ∷ searches) = Runs kept.question ∷ places_of runs searches
places_of (false ∷ runs) (kept ∷ searches) = Rests kept ∷ places_of runs searches
places_of runs searches = []

-- a search of a question as a run leaves it
abbrev pub kept_of : ℕ → Held Search → Kept
kept_of question held = record {
  question = question;
  search = held.search;
  allowed = held.allowed;
  turns = held.turns;
  read = held.read;
  end = held.end;
}

-- the searches at these places, with those that ran put in
abbrev pub joined : List Place → List (Held Search) → List Kept
joined (Rests kept ∷ places) ran = kept ∷ joined places ran
joined (Runs question ∷ places) (held ∷ ran) = kept_of question held ∷ joined places ran
joined places ran = []

-- the account of a search that ran
abbrev pub account_after : Held Search → Account → Account
account_after held account = record account { spent = held.spent; held = held.held }

-- the accounts at these places
abbrev pub cells_after : List Place → List (Held Search) → List Account → List Account
cells_after (Rests kept ∷ places) ran (account ∷ cells) = account ∷ cells_after places ran cells
cells_after (Runs question ∷ places) (held ∷ ran) (account ∷ cells) = account_after held account ∷ cells_after places ran cells
cells_after places ran cells = []

-- a run has spent units that the account held
pub record HasSpent (account : Account) (held : Held Search) : Type 0 where
  pub rises : account.spent ≤ held.spent
  pub balance : held.held + held.spent ≡ account.held + account.spent

-- each place where a search runs has one that ran, and each place an account
abbrev pub HaveSpent : List Place → List (Held Search) → List Account → Type 0
HaveSpent (Rests kept ∷ places) ran (account ∷ cells) = HaveSpent places ran cells
HaveSpent (Runs question ∷ places) (held ∷ ran) (account ∷ cells) = HasSpent account held × HaveSpent places ran cells
HaveSpent [] [] [] = Unit {0}
HaveSpent places ran cells = ⊥

-- The search at a place is put back, with those that ran, the last one first, before and after that. The others at
-- the places behind it stay as they are.
pub record IsPutBack (cell : ℕ) (place : Place) (places : List Place) (ran : List (Held Search)) (old : LedgerState) (kept : Kept) (left : List (Held Search)) (new : LedgerState) : Type 0 where
  pub account : Account
  pub search : joined (place ∷ places) (reverse ran) ≡ kept ∷ joined places (reverse left)
  pub cells : cells_after (place ∷ places) (reverse ran) (drop cell old.cells) ≡ account ∷ cells_after places (reverse left) (drop (cell + 1) new.cells)
  pub before : take (cell + 1) new.cells ≡ take cell old.cells ++ account ∷ []
  pub others : HaveSpent places (reverse left) (drop (cell + 1) new.cells)
  pub ledger : new ≡ record old { cells = new.cells }
