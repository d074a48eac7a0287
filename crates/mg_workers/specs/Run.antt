-- Runs of several searches over one log, one turn after another.
use Rattle.std.specs.Prelude.{◌≡◌, ℕ, ◌+◌, ◌-◌, ◌^◌, ◌≤◌, ◌↔◌, ◌⊎◌, min, not, Bool, true, false, ◌||◌, ◌&&◌, Some, List, [], ◌∷◌, ◌++◌, slice_get, slice_set, if◌then◌else◌}
use Rattle.std.specs.List.{AllByRecursion}
use Rattle.mg_core.specs.declared.entries.Entry.{Entry}
use Rattle.mg_core.specs.declared.entries.Facts.{Facts}
use Rattle.mg_core.specs.Log.{Settled, Handed}
use Rattle.mg_turn.specs.declared.outcome.Outcome.{Outcome}
use Rattle.mg_turn.specs.declared.outcome.TurnEnd.{TurnEnd}
use Rattle.mg_turn.specs.declared.outcome.TurnEnd.TheVariants as ended
use Rattle.mg_core.specs.Recording.{Recording}
use Rattle.mg_turn.specs.Turn.{Searching, records_of, is_stopped}
use Rattle.mg_workers.specs.declared.held.End.{End}
use Rattle.mg_workers.specs.declared.held.End.TheVariants as ends

-- A search in a run: its number, the units that it holds and has spent, how many of those held it may spend in
-- this run, how many turns it has made, up to which fact it has read, how it stands, whether it has left the
-- run, and whether it has stopped in it without being dropped
pub record Row (S : Type 0) : Type 0 where
  pub search : S
  pub number : ℕ
  pub held : ℕ
  pub spent : ℕ
  pub allowed : ℕ
  pub turns : ℕ
  pub read : ℕ
  pub end : End
  pub left : Bool
  pub looked : Bool

-- the searches of a run, and the log as it stands
pub record Running (R S : Type 0) : Type 0 where
  pub rows : List (Row S)
  pub log : List (Entry R)

-- the first list begins the second
abbrev pub Begins : {X : Type 0} → List X → List X → Type 0
Begins {X} xs ys = (rest : List X) × (ys ≡ xs ++ rest)

-- how a search stands after a turn with this end, whose entry was dropped or kept
abbrev pub end_after : {R : Type 0} → Bool → TurnEnd R → End
end_after true end = ends.Stopped
end_after false ended.More = ends.More
end_after false (ended.Found records) = ends.Found
end_after false (ended.Closed records) = ends.Closed
end_after false ended.Idle = ends.Idle
end_after false (ended.Stopped seen) = ends.More
end_after false (ended.Full what count) = ends.Full what count

-- a search leaves a run at every end but one: that it goes on
abbrev pub leaves_at : End → Bool
leaves_at ends.More = false
leaves_at _ = true

-- the entry of a turn
abbrev pub entry_of : {R S : Type 0} → ℕ → Row S → Outcome R → Bool → Entry R
entry_of pass row outcome dropped = record {
  pass = pass;
  search = row.number;
  turn = row.turns;
  units = outcome.spent;
  dropped = dropped;
  records = if dropped then [] else records_of outcome.end;
}

-- a search after a turn
abbrev pub row_after : {R S : Type 0} → Row S → Facts R → Outcome R → Bool → S → Row S
row_after row facts outcome dropped search = record {
  search = search;
  number = row.number;
  held = row.held - outcome.spent;
  spent = row.spent + outcome.spent;
  allowed = row.allowed - outcome.spent;
  turns = min (row.turns + 1) (2 ^ 64 - 1);
  read = if is_stopped outcome.end then row.read else facts.upto;
  end = end_after dropped outcome.end;
  left = leaves_at (end_after dropped outcome.end);
  looked = row.looked || (is_stopped outcome.end && not dropped);
}

-- One turn of one search that has not left the run and has allowed units. It is given a number of units by the
-- policy, at least one and at most those allowed, and the first models that it wants above what it has read, in a
-- log that has all of the run's beginning and nothing but what is there. Its entry is appended, dropped exactly
-- where its key is settled. Only once in a run may a search stop and not be dropped.
pub record Event {R K G S : Type 0} (recording : Recording R K G) (searching : Searching R K G S) (workers : ℕ) (IsSize : ℕ → ℕ → ℕ → ℕ → Type 0) (begin : List (Entry R)) (old new : Running R S) : Type 0 where
  pub place : ℕ
  pub row : Row S
  pub of_row : slice_get old.rows place ≡ Some row
  pub stays : row.left ≡ false
  pub allowed : 1 ≤ row.allowed
  pub openness : searching.is_open row.search ≡ true
  pub pass : ℕ
  pub pass_from : 1 ≤ pass
  pub pass_upto : pass ≤ workers
  pub units : ℕ
  pub is_size : IsSize row.turns row.spent row.allowed units
  pub units_from : 1 ≤ units
  pub units_upto : units ≤ row.allowed
  pub seen : List (Entry R)
  pub seen_all_before : Begins begin seen
  pub seen_is_there : Begins seen old.log
  pub facts : Facts R
  pub handed : Handed recording.model_of seen (searching.group row.search) row.read (searching.wants row.search units) facts
  pub outcome : Outcome R
  pub search : S
  pub turn : searching.turns row.search units facts outcome search
  pub dropped : Bool
  pub is_dropped : (dropped ≡ true) ↔ Settled recording.settles old.log (searching.key row.search)
  pub log : new.log ≡ old.log ++ entry_of pass row outcome dropped ∷ []
  pub rows : new.rows ≡ slice_set old.rows place (row_after row facts outcome dropped search)
  pub once : is_stopped outcome.end ≡ true → dropped ≡ false → row.looked ≡ false

-- these states lead from one to another, each next one by an event
abbrev pub Leads : {R K G S : Type 0} → Recording R K G → Searching R K G S → ℕ → (ℕ → ℕ → ℕ → ℕ → Type 0) → List (Entry R) → Running R S → List (Running R S) → Running R S → Type 0
Leads recording searching workers IsSize begin old [] new = old ≡ new
Leads recording searching workers IsSize begin old (mid ∷ states) new = Event recording searching workers IsSize begin old mid × Leads recording searching workers IsSize begin mid states new

-- a run with a number of workers and a policy: some list of events
abbrev pub Runs : {R K G S : Type 0} → Recording R K G → Searching R K G S → ℕ → (ℕ → ℕ → ℕ → ℕ → Type 0) → List (Entry R) → Running R S → Running R S → Type 0
Runs {R} {K} {G} {S} recording searching workers IsSize begin old new = (states : List (Running R S)) × Leads recording searching workers IsSize begin old states new

-- each search has left or has no allowed units
abbrev pub Finished : {R S : Type 0} → Running R S → Type 0
Finished running = AllByRecursion (λ row. (row.left ≡ true) ⊎ (row.allowed ≡ 0)) running.rows
