-- Logs over any kind of record. A record settles a key, or is a model of a group.
use Rattle.std.specs.Prelude.{◌≡◌, ◌≢◌, ℕ, ◌+◌, ◌-◌, ◌<◌, ◌≤◌, ◌↔◌, ◌⊎◌, max, true, false, nat_le, Option, Some, List, [], ◌∷◌, ◌++◌, length, map, take, slice_get, Contains, IfSome, if◌then◌else◌}
use Rattle.std.specs.List.{AllByRecursion}
use Rattle.mg_core.specs.declared.entries.Entry.{Entry}
use Rattle.mg_core.specs.declared.entries.Facts.{Facts}

-- the records of the entries that aren't dropped, in order
abbrev pub facts_of : {R : Type 0} → List (Entry R) → List R
facts_of [] = []
facts_of (entry ∷ log) = if entry.dropped then facts_of log else entry.records ++ facts_of log

-- fact n of the log, counted from 1
pub record IsFact {R : Type 0} (log : List (Entry R)) (n : ℕ) (r : R) : Type 0 where
  pub from_one : 1 ≤ n
  pub there : slice_get (facts_of log) (n - 1) ≡ Some r

-- fact n is the verdict for the key: the first fact that settles it
pub record VerdictIn {R K : Type 0} (settles : R → Option K) (log : List (Entry R)) (key : K) (n : ℕ) (r : R) : Type 0 where
  pub fact : IsFact log n r
  pub verdict : settles r ≡ Some key
  pub first : (m : ℕ) (q : R) → m < n → IsFact log m q → settles q ≢ Some key

-- some fact settles the key
abbrev pub Settled : {R K : Type 0} → (R → Option K) → List (Entry R) → K → Type 0
Settled {R} settles log key = (n : ℕ) × (r : R) × VerdictIn settles log key n r

-- the entry is the one whose turn settled the key
pub record KeeperOf {R K : Type 0} (settles : R → Option K) (log : List (Entry R)) (key : K) (entry : Entry R) : Type 0 where
  pub before : List (Entry R)
  pub after : List (Entry R)
  pub place : log ≡ before ++ entry ∷ after
  pub kept : entry.dropped ≡ false
  pub verdict : R
  pub among : Contains entry.records verdict
  pub settles_it : settles verdict ≡ Some key
  pub not_before : Settled settles before key → ⊥

-- of facts numbered from n these are, in order and with their numbers, the models of the group above a number
abbrev pub ModelsFrom : {R G : Type 0} → (R → Option G) → G → ℕ → ℕ → List R → List (ℕ × R) → Type 0
ModelsFrom model_of group above n [] found = found ≡ []
ModelsFrom {R} model_of group above n (r ∷ rs) found =
    ((above < n) × (model_of r ≡ Some group) × (rest : List (ℕ × R)) × (found ≡ (n, r) ∷ rest) × ModelsFrom model_of group above (n + 1) rs rest)
    ⊎ (((n ≤ above) ⊎ (model_of r ≢ Some group)) × ModelsFrom model_of group above (n + 1) rs found)

-- the models of the group in the log with a number above this one
abbrev pub ModelsAbove : {R G : Type 0} → (R → Option G) → List (Entry R) → G → ℕ → List (ℕ × R) → Type 0
ModelsAbove model_of log group above found = ModelsFrom model_of group above 1 (facts_of log) found

-- the number of the last of them, or the one given where there is none
abbrev pub last_number : {R : Type 0} → ℕ → List (ℕ × R) → ℕ
last_number n [] = n
last_number n (found ∷ rest) = last_number found.0 rest

-- of these facts the first `most` models of the group above a number, and up to which number there is no other
pub record HandedFrom {R G : Type 0} (model_of : R → Option G) (all : List R) (group : G) (above most : ℕ) (facts : Facts R) : Type 0 where
  pub models : List (ℕ × R)
  pub are_models : ModelsFrom model_of group above 1 all models
  pub from_is : facts.from ≡ above
  pub records_are : facts.records ≡ map (λ found. found.1) (take most models)
  pub upto_is : facts.upto ≡ (if nat_le most (length models) then last_number above (take most models) else max above (length all))

-- of the facts of a log the first `most` models of the group above a number
abbrev pub Handed : {R G : Type 0} → (R → Option G) → List (Entry R) → G → ℕ → ℕ → Facts R → Type 0
Handed model_of log group above most facts = HandedFrom model_of (facts_of log) group above most facts

-- an entry that may come next: of a search whose key is known, dropped exactly where that key is settled
-- already, and then without records; its records are valid, and those that settle something settle that key
pub record IsLegal {R K : Type 0} (valid : R → Type 0) (settles : R → Option K) (asks : Entry R → Option K) (before : List (Entry R)) (entry : Entry R) : Type 0 where
  pub key : K
  pub of_search : asks entry ≡ Some key
  pub dropped : (entry.dropped ≡ true) ↔ Settled settles before key
  pub bare : entry.dropped ≡ true → entry.records ≡ []
  pub each_valid : AllByRecursion valid entry.records
  pub each_settles : AllByRecursion (λ r. IfSome (settles r) (λ k. k ≡ key)) entry.records

-- entries that may come one after another behind a log
abbrev pub LegalFrom : {R K : Type 0} → (R → Type 0) → (R → Option K) → (Entry R → Option K) → List (Entry R) → List (Entry R) → Type 0
LegalFrom valid settles asks before [] = Unit {0}
LegalFrom valid settles asks before (entry ∷ log) = IsLegal valid settles asks before entry × LegalFrom valid settles asks (before ++ entry ∷ []) log
