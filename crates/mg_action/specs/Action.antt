-- Finite actions of presented groups, and what they refute. An action is a degree and a permutation of the points
-- below it for each generator; words act by the products of these permutations, from the left.
use Rattle.std.specs.Prelude.{◌≡◌, ◌≢◌, ℕ, zero, suc, ◌<◌, ℤ, pos, negsuc, List, [], ◌∷◌, length, slice_index, slice_index_or}
use Rattle.std.specs.List.{AllByRecursion}
use Rattle.mg_numbers.specs.Perms.{PermTuple, IsPermTuple}
use Rattle.mg_present.specs.Presentation.{Group}
use Rattle.mg_present.specs.Ask.{Inquiry}
use Rattle.mg_action.specs.Permutation.{identity, product_of, inverse_of}

-- the permutation of the generator at a place from 1, and the identity where there is none
abbrev pub perm_of_generator : PermTuple → ℕ → List ℕ
perm_of_generator action zero = identity action.degree
perm_of_generator action (suc n) = slice_index_or action.images n (identity action.degree)

-- the permutation of a letter: that of its generator, or the inverse of that
abbrev pub perm_of_letter : PermTuple → ℤ → List ℕ
perm_of_letter action (pos place) = perm_of_generator action place
perm_of_letter action (negsuc n) = inverse_of (perm_of_generator action (suc n))

-- the permutation of a word: the product of those of its letters, in the order in which they are written
abbrev pub perm_of_word : PermTuple → List ℤ → List ℕ
perm_of_word action [] = identity action.degree
perm_of_word action (x ∷ w) = product_of (perm_of_letter action x) (perm_of_word action w)

-- there are as many permutations as generators, and each relator's permutation is the identity
pub record IsAction (group : Group) (action : PermTuple) : Type 0 where
  pub perms : IsPermTuple group.generators action
  pub relators : AllByRecursion (λ relator. perm_of_word action relator ≡ identity action.degree) group.relators

-- the point to which a word takes the point 0
abbrev pub image_of_zero : PermTuple → List ℤ → ℕ
image_of_zero action w = slice_index (perm_of_word action w) 0

-- it is an action of the group in which every subgroup word fixes the point 0, and the goal at the place moves it
pub record Refutes (ask : Inquiry) (goal : ℕ) (action : PermTuple) : Type 0 where
  pub is_action : IsAction ask.group action
  pub fixed : AllByRecursion (λ w. image_of_zero action w ≡ 0) ask.subgroup
  pub there : goal < length ask.goals
  pub moved : image_of_zero action (slice_index_or ask.goals goal []) ≢ 0
