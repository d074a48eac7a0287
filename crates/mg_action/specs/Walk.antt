-- The walk of a search through the actions of an Ask's generators: which numbers it has passed, and how many actions
-- are passed at once.
use Rattle.std.specs.Prelude.{◌≡◌, ℕ, ◌+◌, ◌-◌, ◌*◌, ◌/◌, ◌%◌, ◌^◌, ◌≤◌, ℤ, pos, negsuc, length, take}
use Rattle.std.specs.List.{concat}
use Rattle.mg_numbers.specs.declared.blocks.TheConstants.{MOST_NUMBER}
use Rattle.mg_numbers.specs.Plain.{NoneAmong}
use Rattle.mg_numbers.specs.Perms.{PermTuple, IsPermTuple, factorial, perm_tuples_below}
use Rattle.mg_present.specs.declared.presentation.TheConstants.{MOST_GENERATORS}
use Rattle.mg_present.specs.Ask.{Inquiry}
use Rattle.mg_action.specs.declared.walk.Walk.{Walk}
use Rattle.mg_action.specs.Action.{Refutes}
use Rattle.mg_action.specs.Number.{IsNumbered, RefutedAt}

-- the image lists, one after another, have the same first images as those of an action with as many permutations of
-- the same degree
pub record Begins (action : PermTuple) (depth : ℕ) (t : PermTuple) : Type 0 where
  pub degree : t.degree ≡ action.degree
  pub perms : IsPermTuple (length action.images) t
  pub same : take depth (concat t.images) ≡ take depth (concat action.images)

-- no action with the same first images refutes a goal
abbrev pub NoneBegin : Inquiry → PermTuple → ℕ → Type 0
NoneBegin ask action depth = (t : PermTuple) → Begins action depth t → (goal : ℕ) → Refutes ask goal t → ⊥

-- how many first images there are up to the one that tells that a letter takes a point to an image
abbrev pub letter_depth : ℕ → ℤ → ℕ → ℕ → ℕ
letter_depth degree (pos place) point image = (place - 1) * degree + point + 1
letter_depth degree (negsuc n) point image = n * degree + image + 1

-- how many tuples of so many permutations have the same first images, where these end in the list behind `lists`
-- whole ones, of which `images` stand there
abbrev pub alike : ℕ → ℕ → ℕ → ℕ → ℕ
alike degree generators lists images = factorial (degree - images) * factorial degree ^ (generators - 1 - lists)

-- the same by the number of first images, from 1
abbrev pub stretch : ℕ → ℕ → ℕ → ℕ
stretch degree generators depth = alike degree generators ((depth - 1) / degree) ((depth - 1) % degree + 1)

-- `after` is the first number behind those of all actions of the degree, the one with this number among them, that
-- have the same first images
pub record IsBehind (degree generators depth number after : ℕ) : Type 0 where
  pub index : ℕ
  pub place : perm_tuples_below generators degree + index + 1 ≡ number
  pub rest : after ≡ number + (stretch degree generators depth - index % stretch degree generators depth)

-- what a walk keeps true while it goes on: no action with a number before `next` refutes a goal, and its action is
-- the one with the number `next`, unless that is never reached
pub record IsWalk (ask : Inquiry) (walk : Walk) : Type 0 where
  pub count : length walk.action.images ≡ ask.group.generators
  pub few : ask.group.generators ≤ MOST_GENERATORS
  pub some : 1 ≤ walk.next
  pub none : NoneAmong (RefutedAt ask) 0 (walk.next - 1)
  pub numbered : walk.next ≤ MOST_NUMBER → IsNumbered ask.group.generators walk.action walk.next
