use Rattle.std.specs.Prelude.{◌≡◌, ◌≢◌, ℕ, zero, suc, ◌-◌, ◌*◌, ◌^◌, ◌<◌, ◌≤◌, ◌⊎◌, List, length, All, AllPairs, sum_by}
use Rattle.std.specs.List.{concat, range_with_len}
use Rattle.mg_numbers.specs.Blocks.{Earlier, IsNth}

-- how many permutations of n points there are
abbrev pub factorial : ℕ → ℕ
factorial zero = 1
factorial (suc n) = suc n * factorial n

-- xs is the image list of a permutation of the points below the degree.
pub record IsPerm (degree : ℕ) (xs : List ℕ) : Type 0 where
  pub count : length xs ≡ degree
  pub below : All (λ x. x < degree) xs
  pub once : AllPairs (λ x y. x ≢ y) xs

-- a degree, and the image lists of a tuple of permutations
pub record PermTuple : Type 0 where
  pub degree : ℕ
  pub images : List (List ℕ)

-- It has m permutations of its degree, which is at least 1.
pub record IsPermTuple (m : ℕ) (t : PermTuple) : Type 0 where
  pub points : 1 ≤ t.degree
  pub count : length t.images ≡ m
  pub perms : All (IsPerm t.degree) t.images

-- the smaller degree first, then the image lists in lexicographic order, the first permutation most significant
abbrev pub PermTupleBefore : PermTuple → PermTuple → Type 0
PermTupleBefore t u = (t.degree < u.degree) ⊎ ((t.degree ≡ u.degree) × Earlier (concat t.images) (concat u.images))

-- t is the n-th, from 1, of the tuples of m permutations.
abbrev pub IsPermTupleAt : ℕ → ℕ → PermTuple → Type 0
IsPermTupleAt m n t = IsNth (IsPermTuple m) PermTupleBefore n t

-- how many tuples of m permutations have a smaller degree
abbrev pub perm_tuples_below : ℕ → ℕ → ℕ
perm_tuples_below m degree = sum_by (λ d. factorial d ^ m) (range_with_len 1 (degree - 1))
