-- Searches while one worker goes round them.
use Rattle.std.specs.Prelude.{◌≡◌, ℕ, ◌+◌, ◌-◌, ◌↔◌, Bool, true, false, Option, List, [], ◌∷◌, ◌++◌, map, if◌then◌else◌}
use Rattle.mg_core.specs.declared.entries.Entry.{Entry}
use Rattle.mg_core.specs.declared.entries.Facts.{Facts}
use Rattle.mg_core.specs.Log.{Settled}
use Rattle.mg_core.specs.Streaks.{next_of}
use Rattle.mg_turn.specs.declared.outcome.Outcome.{Outcome}
use Rattle.mg_turn.specs.declared.outcome.TurnEnd.TheVariants as ended
use Rattle.mg_workers.specs.declared.held.Held.{Held}
use Rattle.mg_workers.specs.declared.held.End.TheVariants.{More}
use Rattle.mg_workers.specs.declared.seat.Seat.{Seat}
use Rattle.mg_workers.specs.Run.{Row, Running, entry_of, row_after}
use Rattle.mg_workers.specs.Round.{row_of}

-- a search that comes into a run
abbrev pub seat_of : {S : Type 0} → Held S → Seat S
seat_of search = record { held = search; left = false; looked = false }

-- the row of a seat
abbrev pub row_at : {S : Type 0} → Seat S → Row S
row_at seat = row_of seat.left seat.looked seat.held

abbrev pub seated : {R S : Type 0} → List (Seat S) → List (Entry R) → Running R S
seated seats log = record { rows = map row_at seats; log = log }

abbrev pub cells_of : {S : Type 0} → List (Seat S) → List ℕ
cells_of seats = map (λ seat. seat.held.cell) seats

-- how many turns there may still be: each spends an allowed unit, or its search leaves the run, or it stops without
-- being dropped, as it may only once
abbrev pub turns_ahead : {S : Type 0} → List (Row S) → ℕ
turns_ahead [] = 0
turns_ahead (row ∷ rows) = row.allowed + (if row.left then 0 else 1) + (if row.looked then 0 else 1) + turns_ahead rows

-- a turn with this outcome, which was handed the models up to a fact, is counted, and its entry is in the log: dropped
-- exactly where the key was settled
pub record PutsDown {R K S : Type 0} (settles : R → Option K) (key : K) (old : List (Entry R)) (seat : Seat S) (upto : ℕ) (outcome : Outcome R) (dropped : Bool) (new : List (Entry R)) (after : Seat S) : Type 0 where
  pub is_dropped : (dropped ≡ true) ↔ Settled settles old key
  pub log_is : new ≡ old ++ entry_of 1 (row_at seat) outcome dropped ∷ []
  pub row_is : (facts : Facts R) → facts.upto ≡ upto → row_at after ≡ row_after (row_at seat) facts outcome dropped seat.held.search
  pub cell_is : after.held.cell ≡ seat.held.cell

-- the outcome of a turn that spends so many units and finds nothing
abbrev pub whole : {R : Type 0} → ℕ → Outcome R
whole units = record { spent = units; end = ended.More }

-- the search goes on and hasn't looked, its key isn't settled, and a turn of it that spends so many units and finds nothing
-- would put down an entry next to the log's last one, which found nothing
pub record Follows {R K S : Type 0} (settles : R → Option K) (key : K) (units : ℕ) (log : List (Entry R)) (seat : Seat S) : Type 0 where
  pub before : List (Entry R)
  pub last : Entry R
  pub log_is : log ≡ before ++ last ∷ []
  pub nothing : last.records ≡ []
  pub next_is : next_of last ≡ entry_of 1 (row_at seat) (whole units) false
  pub stays : seat.left ≡ false
  pub goes_on : seat.held.end ≡ More
  pub unlooked : seat.looked ≡ false
  pub unsettled : Settled settles log key → ⊥

-- a seat that has spent so many units more and made so many turns in all, with its search as it is then and the last fact
-- that it has read
abbrev pub after_whole : {S : Type 0} → Seat S → ℕ → ℕ → S → ℕ → Seat S
after_whole seat used turns search read = record seat {
  held = record (seat.held) {
    search = search;
    held = seat.held.held - used;
    spent = seat.held.spent + used;
    allowed = seat.held.allowed - used;
    turns = turns;
    read = read;
  };
}
