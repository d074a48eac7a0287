-- What is looked up in a session for what it prints.
use Rattle.std.specs.Prelude.{◌≡◌, ℕ, ◌+◌, true, Some, slice_get}
use Rattle.mg_core.specs.declared.entries.Entry.{Entry}
use Rattle.mg_core.specs.Log.{Settled, VerdictIn}
use Rattle.mg_present.specs.Ask.{Inquiry}
use Rattle.mg_certs.specs.Claim.{Fact}
use Rattle.mg_certs.specs.Validity.{key_of}
use Rattle.mg_search.specs.Search.{ask_of}
use Rattle.mg_session.specs.State.{State, SearchState, asks}

-- the search at a place is there, and this is read of it
pub record ReadsAt {X : Type 0} (read : SearchState → X) (state : State) (place : ℕ) (value : X) : Type 0 where
  pub search : SearchState
  pub there : slice_get state.searches place ≡ Some search
  pub value_is : value ≡ read search

-- the search of the entry is there, and what it asks has a verdict
pub record IsTooLate (state : State) (entry : Entry Fact) : Type 0 where
  pub place : ℕ
  pub number : entry.search ≡ place + 1
  pub search : SearchState
  pub there : slice_get state.searches place ≡ Some search
  pub asked : asks state.searches entry ≡ Some (ask_of search.search)
  pub settled : Settled key_of state.log (ask_of search.search)

-- the entry of a turn that was dropped came too late
abbrev pub HasCause : State → Entry Fact → Type 0
HasCause state entry = entry.dropped ≡ true → IsTooLate state entry

-- the fact that the entry came too late for
pub record IsCause (state : State) (entry : Entry Fact) (n : ℕ) : Type 0 where
  pub ask : Inquiry
  pub asked : asks state.searches entry ≡ Some ask
  pub fact : Fact
  pub verdict : VerdictIn key_of state.log ask n fact
