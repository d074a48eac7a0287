-- Turns of searches, over any kind of search and of record.
use Rattle.std.specs.Prelude.{◌≡◌, ℕ, ◌+◌, ◌≤◌, ◌⊎◌, Bool, true, false, Some, List, [], ◌∷◌, length, IsSome}
use Rattle.std.specs.List.{AllByRecursion}
use Rattle.mg_core.specs.declared.entries.Facts.{Facts}
use Rattle.mg_core.specs.Recording.{Recording}
use Rattle.mg_turn.specs.declared.bounds.TheConstants.{MOST_RULES, MOST_SIDE_LETTERS, MOST_LETTERS, MOST_ENTRIES, MOST_MOVES, MOST_SYMBOLS}
use Rattle.mg_turn.specs.declared.outcome.Limit.{Limit}
use Rattle.mg_turn.specs.declared.outcome.Limit.TheVariants.{Rules, Letters, Entries, Moves, Symbols}
use Rattle.mg_turn.specs.declared.outcome.Outcome.{Outcome}
use Rattle.mg_turn.specs.declared.outcome.TurnEnd.{TurnEnd}
use Rattle.mg_turn.specs.declared.outcome.TurnEnd.TheVariants.{More, Found, Closed, Idle, Stopped, Full}

-- what searches mean: the key that one would settle, its group, the units it has spent, whether it goes on,
-- how many models it wants for a number of units, and which turns it may make: from a search, for units
-- and the models handed in, to an outcome and the search after
pub record Searching (R K G S : Type 0) : Type 1 where
  pub key : S → K
  pub group : S → G
  pub spent : S → ℕ
  pub is_open : S → Bool
  pub wants : S → ℕ → ℕ
  pub turns : S → ℕ → Facts R → Outcome R → S → Type 0

-- the records that an end brings
abbrev pub records_of : {R : Type 0} → TurnEnd R → List R
records_of More = []
records_of (Found records) = records
records_of (Closed records) = records
records_of Idle = []
records_of (Stopped seen) = []
records_of (Full what count) = []

-- whether a search goes on after this end
abbrev pub goes_on : {R : Type 0} → TurnEnd R → Bool
goes_on More = true
goes_on (Found records) = false
goes_on (Closed records) = false
goes_on Idle = true
goes_on (Stopped seen) = true
goes_on (Full what count) = false

abbrev pub is_stopped : {R : Type 0} → TurnEnd R → Bool
is_stopped More = false
is_stopped (Found records) = false
is_stopped (Closed records) = false
is_stopped Idle = false
is_stopped (Stopped seen) = true
is_stopped (Full what count) = false

-- records of which each is a model
abbrev pub AreModels : {R K G : Type 0} → Recording R K G → List R → Type 0
AreModels recording records = AllByRecursion (λ r. IsSome (recording.model_of r)) records

-- a settling record for the key, behind which at most one more stands, a model
abbrev pub Settles : {R K G : Type 0} → Recording R K G → K → List R → Type 0
Settles recording key [] = ⊥
Settles recording key (first ∷ rest) = (recording.settles first ≡ Some key) × (length rest ≤ 1) × AreModels recording rest

-- a number that searches keep the quantity within
abbrev pub IsLimitOf : Limit → ℕ → Type 0
IsLimitOf Rules count = count ≡ MOST_RULES
IsLimitOf Letters count = (count ≡ MOST_SIDE_LETTERS) ⊎ (count ≡ MOST_LETTERS)
IsLimitOf Entries count = count ≡ MOST_ENTRIES
IsLimitOf Moves count = count ≡ MOST_MOVES
IsLimitOf Symbols count = count ≡ MOST_SYMBOLS

-- what an end says of the search, of the units spent and of the models handed in
abbrev pub EndFits : {R K G S : Type 0} → Recording R K G → Searching R K G S → S → ℕ → Facts R → ℕ → TurnEnd R → Type 0
EndFits recording searching search units facts spent More = (1 ≤ spent) × (searching.wants search units ≡ 0 → spent ≡ units)
EndFits recording searching search units facts spent (Found records) = Settles recording (searching.key search) records
EndFits recording searching search units facts spent (Closed records) = (length records ≤ 1) × AreModels recording records
EndFits recording searching search units facts spent Idle = (spent ≡ 0) × (1 ≤ searching.wants search units) × (facts.records ≡ [])
EndFits recording searching search units facts spent (Stopped seen) = recording.valid seen.value × (recording.settles seen.value ≡ Some (searching.key search)) × (1 ≤ searching.wants search units → spent ≡ 0)
EndFits recording searching search units facts spent (Full what count) = IsLimitOf what count

-- the models handed in are at most as many as the search wants, each a model of its group
pub record AreWanted {R K G S : Type 0} (recording : Recording R K G) (searching : Searching R K G S) (search : S) (units : ℕ) (facts : Facts R) : Type 0 where
  pub few : length facts.records ≤ searching.wants search units
  pub of_group : AllByRecursion (λ r. recording.model_of r ≡ Some (searching.group search)) facts.records

-- what holds of every turn, whatever the search is
pub record IsSound {R K G S : Type 0} (recording : Recording R K G) (searching : Searching R K G S) (search : S) (units : ℕ) (facts : Facts R) (outcome : Outcome R) (after : S) : Type 0 where
  pub key : searching.key after ≡ searching.key search
  pub group : searching.group after ≡ searching.group search
  pub wants : (n : ℕ) → searching.wants after n ≡ searching.wants search n
  pub spent : searching.spent after ≡ searching.spent search + outcome.spent
  pub within : outcome.spent ≤ units
  pub openness : searching.is_open after ≡ goes_on outcome.end
  pub end : EndFits recording searching search units facts outcome.spent outcome.end
  pub valid : AllByRecursion recording.valid (records_of outcome.end)

-- every turn that the relation allows is sound
abbrev pub Sound : {R K G S : Type 0} → Recording R K G → Searching R K G S → Type 0
Sound {R} {K} {G} {S} recording searching =
    (search : S) (units : ℕ) (facts : Facts R) (outcome : Outcome R) (after : S) →
    searching.is_open search ≡ true → 1 ≤ units → AreWanted recording searching search units facts →
    searching.turns search units facts outcome after → IsSound recording searching search units facts outcome after
