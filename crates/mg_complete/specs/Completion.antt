-- The states of completion by Knuth and Bendix, and what holds of each.
use Rattle.std.specs.Prelude.{◌≡◌, ◌⊎◌, ℕ, ◌+◌, ◌*◌, ◌≤◌, max, ℤ, neg_ℤ, Bool, true, false, Some, List, [], ◌∷◌, length, take, slice_get, sum_by, Contains}
use Rattle.std.specs.List.{AllByRecursion}
use Rattle.mg_turn.specs.declared.bounds.TheConstants.{MOST_RULES, MOST_SIDE_LETTERS, MOST_LETTERS, MOST_MOVES}
use Rattle.mg_words.specs.Letter.{IsLetterOf}
use Rattle.mg_present.specs.Presentation.{Group}
use Rattle.mg_present.specs.Ask.{Inquiry, IsAsked}
use Rattle.mg_rules.specs.declared.meeting.Meeting.{Meeting}
use Rattle.mg_rules.specs.Rule.{Rule, Descends, HaveCommon}
use Rattle.mg_rules.specs.Meeting.{Meets, Results}
use Rattle.mg_rules.specs.Listing.{ComesBefore, IsInOrder}
use Rattle.mg_rulelog.specs.declared.moves.Move.{Move}
use Rattle.mg_complete.specs.Equations.{IsGiven}

-- a search: its rules and for each the moves that show it, the last overlap or inclusion done in the fixed order, the
-- units spent, whether it goes on, and whether a turn has ended More or Found
pub record Completion : Type 0 where
  pub ask : Inquiry
  pub rules : List Rule
  pub reasons : List (List Move)
  pub last : Meeting
  pub spent : ℕ
  pub is_open : Bool
  pub begun : Bool

-- the letters of all sides
abbrev pub letters_in : List Rule → ℕ
letters_in rules = sum_by (λ (rule : Rule). length rule.left + length rule.right) rules

-- the moves of all lists
abbrev pub moves_in : List (List Move) → ℕ
moves_in lists = sum_by (λ (moves : List Move). length moves) lists

-- the limits
pub record IsWithin (rules : List Rule) (reasons : List (List Move)) : Type 0 where
  pub count : length rules ≤ MOST_RULES
  pub lefts : AllByRecursion (λ (rule : Rule). length rule.left ≤ MOST_SIDE_LETTERS) rules
  pub letters : letters_in rules ≤ MOST_LETTERS
  pub moves : moves_in reasons ≤ MOST_MOVES

-- each rule is given, with its reason, by the rules before it
abbrev pub AllGiven : Group → List Rule → List (List Move) → Type 0
AllGiven group rules reasons = (place : ℕ) (rule : Rule) (moves : List Move) → slice_get rules place ≡ Some rule
    → slice_get reasons place ≡ Some moves → IsGiven group (take place rules) rule moves

-- the overlap or inclusion comes in the fixed order no later than the last one done
abbrev pub IsDone : Meeting → Meeting → Type 0
IsDone last m = (m ≡ last) ⊎ ComesBefore m last

-- the two results of the overlap or inclusion have a common descendant
abbrev pub Joins : List Rule → Meeting → Type 0
Joins rules m = (u v : List ℤ) → Results rules m u v → HaveCommon rules u v

-- one that comes before each overlap and inclusion
abbrev pub before_all : Meeting
before_all = record { first = 0; second = 0; place = 0 }

-- the overlaps and inclusions up to the last one are done: they are as many as this, each once, the results of each have
-- a common descendant, and none that isn't done has a lower rank, which is the greater number of its rules
pub record Done (rules : List Rule) (last : Meeting) (count : ℕ) : Type 0 where
  pub there : (last ≡ before_all) ⊎ Meets rules last
  pub list : List Meeting
  pub ordered : IsInOrder list
  pub only : (m : Meeting) → Contains list m → Meets rules m × IsDone last m
  pub each : (m : Meeting) → Meets rules m → IsDone last m → Contains list m
  pub many : length list ≡ count
  pub joined : (m : Meeting) → Contains list m → Joins rules m
  pub ranks : (m other : Meeting) → Contains list m → Meets rules other → (Contains list other → ⊥)
      → max m.first m.second ≤ max other.first other.second

-- each overlap and inclusion is done
abbrev pub AllDone : List Rule → Meeting → Type 0
AllDone rules last = (m : Meeting) → Meets rules m → IsDone last m

-- each pair and each relator descends to the empty word
pub record Vanish (group : Group) (rules : List Rule) : Type 0 where
  pub pairs : (x : ℤ) → IsLetterOf group.generators x → Descends rules (x ∷ neg_ℤ x ∷ []) []
  pub relators : AllByRecursion (λ (relator : List ℤ). Descends rules relator []) group.relators

-- how many equations are pairs and relators
abbrev pub first_equations : Group → ℕ
first_equations group = 2 * group.generators + length group.relators

-- what holds of every state
pub record IsKept (s : Completion) : Type 0 where
  pub asked : IsAsked s.ask
  pub alone : s.ask.subgroup ≡ []
  pub paired : length s.reasons ≡ length s.rules
  pub given : AllGiven s.ask.group s.rules s.reasons
  pub within : IsWithin s.rules s.reasons
  pub done : Done s.rules s.last s.spent
  pub few : length s.rules ≤ first_equations s.ask.group + s.spent
  pub begun : s.begun ≡ true → Vanish s.ask.group s.rules
  pub unbegun : s.begun ≡ false → s.is_open ≡ true → s.rules ≡ []

-- a search that has just been started
abbrev pub first_search : Inquiry → Completion
first_search ask = record { ask = ask; rules = []; reasons = []; last = before_all; spent = 0; is_open = true; begun = false }
