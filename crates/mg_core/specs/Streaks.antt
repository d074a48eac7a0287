-- Turns that stand alike right behind one another, which a book keeps as one streak.
use Rattle.std.specs.Prelude.{◌≡◌, ℕ, zero, suc, ◌+◌, ◌<◌, ◌≤◌, ◌^◌, Bool, true, false, List, [], ◌∷◌, ◌++◌, length, take, drop, ◌⊎◌}
use Rattle.mg_core.specs.declared.entries.Entry.{Entry}
use Rattle.mg_core.specs.declared.entries.EntryView.{EntryView}
use Rattle.mg_core.specs.declared.streaks.Common.{Common}
use Rattle.mg_core.specs.declared.streaks.Streak.{Streak}

-- the entry of one turn, which found these records
abbrev pub turn_of : {R : Type 0} → Common → ℕ → List R → Entry R
turn_of common turn records = record {
  pass = common.pass;
  search = common.search;
  turn = turn;
  units = common.units;
  dropped = common.dropped;
  records = records;
}

-- the entries of so many turns that found nothing, from this number on
abbrev pub turns_from : {R : Type 0} → Common → ℕ → ℕ → List (Entry R)
turns_from common turn zero = []
turns_from common turn (suc more) = turn_of common turn [] ∷ turns_from common (turn + 1) more

-- the log of these streaks, which found these facts
abbrev pub log_of : {R : Type 0} → List R → List Streak → List (Entry R)
log_of facts [] = []
log_of facts (streak ∷ streaks) =
    turn_of streak.common streak.turn (take streak.records facts) ∷ (turns_from streak.common (streak.turn + 1) streak.more ++ log_of (drop streak.records facts) streaks)

-- the numbers of a streak's turns have 64 bits
abbrev pub IsNumbered : Streak → Type 0
IsNumbered streak = streak.turn + streak.more < 2 ^ 64

-- these streaks found these facts, and none of them when dropped
abbrev pub Found : {R : Type 0} → List R → List Streak → Type 0
Found facts [] = facts ≡ []
Found facts (streak ∷ streaks) = (streak.records ≤ length facts) × (streak.common.dropped ≡ true → streak.records ≡ 0) × Found (drop streak.records facts) streaks

-- the one turn comes right behind the last of a streak, is like it and found nothing
pub record GoesOn (streak turn : Streak) : Type 0 where
  pub nothing : turn.records ≡ 0
  pub alike : turn.common ≡ streak.common
  pub next : streak.turn + streak.more + 1 ≡ turn.turn

abbrev pub longer : Streak → Streak
longer streak = record streak { more = streak.more + 1 }

-- the last streak goes on
pub record GoesLonger (old new : List Streak) : Type 0 where
  pub before : List Streak
  pub last : Streak
  pub old_is : old ≡ before ++ last ∷ []
  pub next : last.turn + last.more + 1 < 2 ^ 64
  pub new_is : new ≡ before ++ longer last ∷ []

-- the log ends with this entry, which was kept and found nothing
pub record IsLastEmpty {R : Type 0} (log : List (Entry R)) (last : Entry R) : Type 0 where
  pub before : List (Entry R)
  pub log_is : log ≡ before ++ last ∷ []
  pub kept : last.dropped ≡ false
  pub nothing : last.records ≡ []

-- the entry of one turn more like that of an entry, which finds nothing
abbrev pub next_of : {R : Type 0} → Entry R → Entry R
next_of entry = record entry { turn = entry.turn + 1; records = [] }

-- one turn more: the last streak goes on, or there is one more
abbrev pub Joins : List Streak → Streak → List Streak → Type 0
Joins old turn new =
    (new ≡ old ++ turn ∷ [])
    ⊎ ((before : List Streak) × (last : Streak) × (old ≡ before ++ last ∷ []) × GoesOn last turn × (new ≡ before ++ longer last ∷ []))

-- the turn of an entry as a streak of its own, dropped or kept, which found so many records
abbrev pub alone : {R : Type 0} → Entry R → Bool → ℕ → Streak
alone entry dropped records = record {
  common = record { pass = entry.pass; search = entry.search; units = entry.units; dropped = dropped };
  turn = entry.turn;
  records = records;
  more = 0;
}

-- an entry that is lent
abbrev pub entry_seen : {R : Type 0} → EntryView R → Entry R
entry_seen entry = record {
  pass = entry.pass;
  search = entry.search;
  turn = entry.turn;
  units = entry.units;
  dropped = entry.dropped;
  records = entry.records.now;
}
