-- How an action is kept: as lists of numbers in a row.
use Rattle.std.specs.Prelude.{◌≡◌, ℕ, ◌*◌, ◌<◌, ◌≤◌, List, map, All, slice_index}
use Rattle.std.specs.List.{concat}
use Rattle.mg_numbers.specs.Perms.{IsPerm, PermTuple, IsPermTuple}
use Rattle.mg_numbers.specs.declared.blocks.TheConstants.{MOST_DEGREE}
use Rattle.mg_action.specs.Permutation.{inverse_of}

-- the list is the image lists of these permutations, one after another
pub record AreImages (degree : ℕ) (perms : List (List ℕ)) (xs : List ℕ) : Type 0 where
  pub each : All (IsPerm degree) perms
  pub joined : concat perms ≡ xs

-- what holds of every Action: its image lists stand one after another, and beside them those of the inverse
-- permutations; each of the two lists has room for as many permutations of the largest degree that a number has
pub record IsKept (action : PermTuple) (generators : ℕ) (images inverses : List ℕ) (images_room inverses_room : ℕ) : Type 0 where
  pub perms : IsPermTuple generators action
  pub joined : concat action.images ≡ images
  pub back : concat (map inverse_of action.images) ≡ inverses
  pub room : generators * MOST_DEGREE ≤ images_room
  pub back_room : generators * MOST_DEGREE ≤ inverses_room

-- for each of the first n numbers of a list a place before the n-th at which it stands
abbrev pub PlacesUpTo : ℕ → List ℕ → List ℕ → Type 0
PlacesUpTo n xs places = (k : ℕ) → k < n → (slice_index places (slice_index xs k) < n) × (slice_index xs (slice_index places (slice_index xs k)) ≡ slice_index xs k)
