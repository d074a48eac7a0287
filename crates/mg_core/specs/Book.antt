-- What books keep, and what they do to their logs.
use Rattle.std.specs.Prelude.{◌≡◌, ℕ, true, List, [], ◌∷◌, ◌++◌, length, Option}
use Rattle.std.specs.List.{AllByRecursion}
use Rattle.std.specs.declared.cmp.Ordering.{Ordering}
use Rattle.mg_core.specs.declared.entries.Entry.{Entry}
use Rattle.mg_core.specs.declared.entries.Committed.{Committed}
use Rattle.mg_core.specs.declared.entries.Committed.TheVariants.{Kept, Dropped}
use Rattle.mg_core.specs.declared.streaks.Streak.{Streak}
use Rattle.mg_core.specs.Index.{IsIndexed}
use Rattle.mg_core.specs.Log.{VerdictIn, Settled}
use Rattle.mg_core.specs.Streaks.{Found, IsNumbered, log_of}

-- what a book holds: valid facts, the streaks that found them, the number of entries, and the index of the facts
pub record IsBook {R K : Type 0} (valid : R → Type 0) (settles : R → Option K) (cmp : K → K → Ordering) (facts : List R) (streaks : List Streak) (count : ℕ) (places : List ℕ) : Type 0 where
  pub each_valid : AllByRecursion valid facts
  pub found : Found facts streaks
  pub numbered : AllByRecursion IsNumbered streaks
  pub count_is : count ≡ length (log_of facts streaks)
  pub indexed : IsIndexed settles cmp facts places

-- the entry without its records, as it stands where its key was settled before
abbrev pub bare : {R : Type 0} → Entry R → Entry R
bare entry = record entry { dropped = true; records = [] }

-- the entry as a commit leaves it in the log
abbrev pub entry_put : {R : Type 0} → Entry R → Committed → Entry R
entry_put entry (Kept place) = entry
entry_put entry (Dropped place by) = bare entry

-- what a commit for a key answers, from the log before to the log after: the entry is dropped, for the reason
-- of a verdict that is there, or it is kept, and then no verdict is there
abbrev pub Commits : {R K : Type 0} → (R → Option K) → K → List (Entry R) → Entry R → List (Entry R) → Committed → Type 0
Commits settles key old entry new (Kept place) =
    (Settled settles old key → ⊥) × (new ≡ old ++ entry ∷ []) × (place ≡ length new)
Commits {R} settles key old entry new (Dropped place by) =
    (verdict : R) × VerdictIn settles old key by verdict × (new ≡ old ++ bare entry ∷ []) × (place ≡ length new)
