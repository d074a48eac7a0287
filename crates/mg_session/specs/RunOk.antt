-- What holds of every run of a session.
use Rattle.std.specs.Prelude.{◌≡◌, ℕ, ◌+◌, ◌≤◌, ◌⊎◌, Option, List}
use Rattle.mg_core.specs.declared.entries.Entry.{Entry}
use Rattle.mg_core.specs.Log.{Settled}
use Rattle.mg_workers.specs.declared.held.End.{End}
use Rattle.mg_workers.specs.declared.held.End.TheVariants as ends
use Rattle.mg_workers.specs.Run.{Begins}
use Rattle.mg_workers.specs.Rows.{EachPair}
use Rattle.mg_certs.specs.Claim.{Fact}
use Rattle.mg_certs.specs.Validity.{key_of}
use Rattle.mg_search.specs.Search.{ask_of, procedure_of}
use Rattle.mg_session.specs.Run.{within_bound}
use Rattle.mg_session.specs.State.{State, SearchState}

-- how many units a search may have spent after a run with this bound: those that it has spent, and those that it
-- holds and the bound allows
abbrev pub reach : Option ℕ → SearchState → ℕ
reach bound search = search.account.spent + within_bound bound search.account.held

-- a search that stands so may hold units that it hasn't spent
abbrev pub LeavesUnits : End → Type 0
LeavesUnits ends.Closed = Unit {0}
LeavesUnits ends.Idle = Unit {0}
LeavesUnits (ends.Full what count) = Unit {0}
LeavesUnits _ = ⊥

-- Where a run leaves a search: its Ask is settled and it holds nothing, or its Ask isn't settled, it holds all that it
-- hasn't spent, and it has spent its whole reach or is closed, idle or full.
pub data RunEnds (bound : Option ℕ) (log : List (Entry Fact)) (search after : SearchState) : Type 0 where
  is_settled : Settled key_of log (ask_of search.search) → after.account.held ≡ 0 → RunEnds bound log search after
  is_open : (Settled key_of log (ask_of search.search) → ⊥) → after.account.held + after.account.spent ≡ search.account.held + search.account.spent →
      (after.account.spent ≡ reach bound search) ⊎ LeavesUnits after.end → RunEnds bound log search after

-- What a run does to a search: it stays the search that it was, and spends no more than its reach.
pub record IsRunTo (bound : Option ℕ) (log : List (Entry Fact)) (search after : SearchState) : Type 0 where
  pub question : after.question ≡ search.question
  pub number : after.number ≡ search.number
  pub procedure : procedure_of after.search ≡ procedure_of search.search
  pub ask : ask_of after.search ≡ ask_of search.search
  pub granted : after.account.granted ≡ search.account.granted
  pub rises : search.account.spent ≤ after.account.spent
  pub within : after.account.spent ≤ reach bound search
  pub ends : RunEnds bound log search after

-- A run makes the log longer, funds nothing and makes no search.
pub record RunOk (bound : Option ℕ) (old new : State) : Type 0 where
  pub log : Begins old.log new.log
  pub funded : new.funded ≡ old.funded
  pub searches : EachPair (IsRunTo bound new.log) old.searches new.searches
