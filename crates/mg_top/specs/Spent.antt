-- What a run without a bound leaves.
use Rattle.std.specs.Prelude.{◌≡◌, ◌⊎◌, List}
use Rattle.mg_core.specs.declared.entries.Entry.{Entry}
use Rattle.mg_core.specs.Log.{Settled}
use Rattle.mg_certs.specs.Claim.{Fact}
use Rattle.mg_certs.specs.Validity.{key_of}
use Rattle.mg_search.specs.Search.{ask_of}
use Rattle.mg_session.specs.State.{SearchState}
use Rattle.mg_session.specs.RunOk.{LeavesUnits}

-- a search of an unsettled Ask holds no units, or is closed, idle or full
abbrev pub SpendsAll : List (Entry Fact) → SearchState → Type 0
SpendsAll log search = (Settled key_of log (ask_of search.search) → ⊥) → (search.account.held ≡ 0) ⊎ LeavesUnits search.end
