-- The first thing behind a stretch of an order, by place.
use Rattle.std.specs.Prelude.{◌≡◌, ◌≢◌, ℕ, ◌+◌, ◌*◌, ◌/◌, ◌<◌, ◌≤◌, ◌⊎◌, List, length, map, slice_index}
use Rattle.std.specs.List.{AllZip, concat}
use Rattle.std.specs.Simd.{first_chunks}
use Rattle.mg_numbers.specs.Blocks.{Earlier, IsNth, number_in}
use Rattle.mg_numbers.specs.Perms.{IsPerm, factorial}
use Rattle.mg_action.specs.Permutation.{inverse_of}
use Rattle.mg_action.specs.Layout.{AreImages}

-- so many permutations of the degree come before this one
abbrev pub IsPlaced : ℕ → ℕ → List ℕ → Type 0
IsPlaced degree place perm = IsNth (IsPerm degree) Earlier (place + 1) perm

-- the same of each permutation of a tuple
abbrev pub ArePlaced : ℕ → List ℕ → List (List ℕ) → Type 0
ArePlaced degree places perms = AllZip (λ place perm. IsPlaced degree place perm) places perms

-- the first place behind those from one multiple of a size to the next among which a place lies
abbrev pub behind : ℕ → ℕ → ℕ
behind size place = (place / size + 1) * size

-- `least` is a place behind `place` where the least of the numbers there stands that are greater than that at
-- `place`, up to the place `end`; where none is, `least` is `place`
pub record IsLeastGreater (xs : List ℕ) (place end least : ℕ) : Type 0 where
  pub from : place ≤ least
  pub within : least < length xs
  pub greater : least ≢ place → slice_index xs place < slice_index xs least
  pub none : (k : ℕ) → place < k → k < end → (slice_index xs k ≤ slice_index xs place) ⊎ ((least ≢ place) × (slice_index xs least ≤ slice_index xs k))

-- the list is the image lists, one after another, of so many permutations of the degree, and so many tuples of as
-- many come before
pub record AreImagesAt (degree count place : ℕ) (xs : List ℕ) : Type 0 where
  pub perms : List (List ℕ)
  pub places : List ℕ
  pub images : AreImages degree perms xs
  pub placed : ArePlaced degree places perms
  pub long : length places ≡ count
  pub digits : number_in (factorial degree) places ≡ place

-- the inverses of so many permutations that stand one after another
abbrev pub AreInverses : ℕ → ℕ → List ℕ → List ℕ → Type 0
AreInverses degree count xs inverses = concat (map inverse_of (first_chunks degree count xs)) ≡ inverses
