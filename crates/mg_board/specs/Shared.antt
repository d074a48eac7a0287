-- The rule of the board's table: what its words, its slot and the views of its seats say of the one history.
use Rattle.std.specs.Prelude.{◌≡◌, ℕ, ◌<◌, ◌↔◌, List, [], ◌∷◌, ◌++◌, length, Option, Some, None, if◌then◌else◌, nat_eq}
use Rattle.std.specs.List.{AllByRecursion}
use mathlib.Core.List.{IsPrefix}
use mathlib.Core.Option.{some, none}
use mathlib.Core.Option as maybe
use lib.ListN.{get_elem?}
use Rattle.atomic_table.specs.Table.{State}
use Rattle.mg_board.specs.declared.view.View.{View}
use Rattle.mg_board.specs.History.{stamps_of, IsAmong}

-- the turn is nobody's, or one seat has it: the word
abbrev pub word_of : Option ℕ → ℕ
word_of None = 0
word_of (Some holder) = 1

-- what is at home in the slot
abbrev pub home_of : {X : Type 0} → Option ℕ → List X → maybe.Option (Option (List X))
home_of None history = some (Some history)
home_of (Some holder) history = none

-- what a seat has in hand
abbrev pub hand_of : {X : Type 0} → Option ℕ → List X → ℕ → Option (List X)
hand_of None history seat = None
hand_of (Some holder) history seat = if nat_eq seat holder then Some history else None

-- what the view of a seat says of the history. A seat stands for the numbers that it owns, and its view misses no stamp
-- with them. Who has the turn stands for its own number
pub record Knows {X : Type 0} (by : X → ℕ) (opening : List X) (passes : ℕ) (history : List X) (turn : Option ℕ) (owner : ℕ → ℕ) (seat : ℕ) (v : View X) : Type 0 where
  pub seen : IsPrefix v.seen history
  pub told : IsPrefix v.told history
  pub hand : v.hand ≡ hand_of turn history seat
  pub holds : (log : List X) → v.hand ≡ Some log → IsAmong v.number v.numbers
  pub owns : (n : ℕ) → IsAmong n v.numbers ↔ ((n < passes) × (owner n ≡ seat))
  pub own : (n : ℕ) → IsAmong n v.numbers → stamps_of by n history ≡ stamps_of by n v.seen
  pub told_own : (n : ℕ) → IsAmong n v.told_of → IsAmong n v.numbers × (stamps_of by n history ≡ stamps_of by n v.told)
  pub opens : (n : ℕ) → IsAmong n v.numbers → (v.opening ≡ opening) × IsPrefix opening v.seen

-- the history and the views between two steps: the history begins with the opening log, each stamp behind it has one of
-- the board's numbers, each number has one seat that owns it, and who has the turn is a seat
pub record IsKept {X : Type 0} (by : X → ℕ) (opening : List X) (passes : ℕ) (history : List X) (turn : Option ℕ) (owner : ℕ → ℕ) (views : List (View X)) : Type 0 where
  pub after : List X
  pub begins : history ≡ opening ++ after
  pub numbered : AllByRecursion (λ x. by x < passes) after
  pub owned : (n : ℕ) → n < passes → owner n < length views
  pub holder : (seat : ℕ) → turn ≡ Some seat → (v : View X) × (get_elem? views seat ≡ some v)
  pub each : (seat : ℕ) (v : View X) → get_elem? views seat ≡ some v → Knows by opening passes history turn owner seat v

-- there is one history: word 1 is its length, the book in the slot has it, and the views are of it
pub record IsShared {X : Type 0} (by : X → ℕ) (opening : List X) (passes : ℕ) (s : State (Option (List X)) (View X)) : Type 0 where
  pub history : List X
  pub turn : Option ℕ
  pub owner : ℕ → ℕ
  pub words : s.words ≡ word_of turn ∷ length history ∷ []
  pub homes : s.homes ≡ home_of turn history ∷ []
  pub kept : IsKept by opening passes history turn owner s.views
