-- The index that a book keeps beside its facts: where the verdict for each settled key stands among them.
use Rattle.std.specs.Prelude.{◌≡◌, ◌≢◌, ℕ, ◌+◌, ◌<◌, ◌≤◌, Option, Some, None, List, [], ◌∷◌, length, map, take, drop, slice_get}
use Rattle.std.specs.List.{AllByRecursion, insert}
use Rattle.std.specs.declared.cmp.Ordering.{Ordering}
use Rattle.std.specs.declared.cmp.Ordering.TheVariants.{Less}

-- the first of these records that settles the key
pub record FirstAt {R K : Type 0} (settles : R → Option K) (records : List R) (key : K) (i : ℕ) (r : R) : Type 0 where
  pub there : slice_get records i ≡ Some r
  pub settles_it : settles r ≡ Some key
  pub before : (j : ℕ) (q : R) → j < i → slice_get records j ≡ Some q → settles q ≢ Some key

-- the first fact that settles the key stands at the place
pub record PointsTo {R K : Type 0} (settles : R → Option K) (facts : List R) (key : K) (place : ℕ) : Type 0 where
  pub verdict : R
  pub is_first : FirstAt settles facts key place verdict

-- none of these records settles the key
abbrev pub NoneSettles : {R K : Type 0} → (R → Option K) → List R → K → Type 0
NoneSettles settles records key = AllByRecursion (λ r. settles r ≢ Some key) records

-- each key is below those after it
abbrev pub Rising : {K : Type 0} → (K → K → Ordering) → List (K × ℕ) → Type 0
Rising cmp [] = Unit {0}
Rising cmp (p ∷ ps) = AllByRecursion (λ (q : _ × ℕ). cmp p.0 q.0 ≡ Less) ps × Rising cmp ps

-- keys with their places, in the order of the keys; a key that isn't among them is not settled
pub record IsIndex {R K : Type 0} (settles : R → Option K) (cmp : K → K → Ordering) (facts : List R) (pairs : List (K × ℕ)) : Type 0 where
  pub points : AllByRecursion (λ (p : K × ℕ). PointsTo settles facts p.0 p.1) pairs
  pub rising : Rising cmp pairs
  pub all : (key : K) → AllByRecursion (λ (p : K × ℕ). p.0 ≢ key) pairs → NoneSettles settles facts key

-- these are the places of an index
pub record IsIndexed {R K : Type 0} (settles : R → Option K) (cmp : K → K → Ordering) (facts : List R) (places : List ℕ) : Type 0 where
  pub pairs : List (K × ℕ)
  pub places_are : places ≡ map (λ (p : K × ℕ). p.1) pairs
  pub is_index : IsIndex settles cmp facts pairs

-- the keys of the places before `low` are below the key, and those from `high` on are above it
pub record IsBetween {R K : Type 0} (settles : R → Option K) (cmp : K → K → Ordering) (facts : List R) (places : List ℕ) (key : K) (low high : ℕ) : Type 0 where
  pub pairs : List (K × ℕ)
  pub places_are : places ≡ map (λ (p : K × ℕ). p.1) pairs
  pub is_index : IsIndex settles cmp facts pairs
  pub upto : low ≤ high
  pub within : high ≤ length places
  pub below : AllByRecursion (λ (p : K × ℕ). cmp p.0 key ≡ Less) (take low pairs)
  pub above : AllByRecursion (λ (p : K × ℕ). cmp key p.0 ≡ Less) (drop high pairs)

-- the place of the first of these records that settles the key, if one does, where so many facts stand before them
abbrev pub IsPlaceOf : {R K : Type 0} → (R → Option K) → List R → K → ℕ → Option ℕ → Type 0
IsPlaceOf settles records key facts None = NoneSettles settles records key
IsPlaceOf {R} settles records key facts (Some place) = (i : ℕ) × (r : R) × FirstAt settles records key i r × (place ≡ facts + i)

-- the places with one more, if there is one
abbrev pub with_place : List ℕ → ℕ → Option ℕ → List ℕ
with_place places at None = places
with_place places at (Some place) = insert places at place
