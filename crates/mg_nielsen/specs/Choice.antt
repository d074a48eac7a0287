-- How steps and peelings are looked for: how much of two words cancels, factors by their numbers, and the best choice
-- so far. Private functions alone cite it.
use Rattle.std.specs.Prelude.{◌≡◌, ◌≢◌, ℕ, suc, ◌+◌, ◌-◌, ◌*◌, ◌<◌, ◌≤◌, ℤ, Bool, true, false, cond, ltb, Option, None, Some, List, [], ◌∷◌, ◌++◌, length}
use Rattle.std.specs.Ordering.{int_eq}
use Rattle.std.specs.List.{AllByRecursion}
use Rattle.mg_turn.specs.declared.bounds.TheConstants.{MOST_SYMBOLS}
use Rattle.mg_turn.specs.declared.outcome.TurnEnd.{TurnEnd}
use Rattle.mg_turn.specs.Stops.{StopsBy}
use Rattle.mg_turn.specs.Turn.{goes_on}
use Rattle.mg_certs.specs.Claim.{Fact}
use Rattle.mg_words.specs.Word.{inv, IsReduced}
use Rattle.mg_words.specs.Reduction.{free_form}
use Rattle.mg_nielsen.specs.Expressed.{Expressed, turned, times}
use Rattle.mg_nielsen.specs.Moves.{Nielsen, Moves, IsKept, member_at, signs_held, on_side}
use Rattle.mg_nielsen.specs.Turn.{NielsenEnd}
use Rattle.mg_nielsen.specs.declared.nielsen.Move.{Move}
use Rattle.mg_nielsen.specs.declared.nielsen.Move.TheVariants.{Peel, Step}
use Rattle.mg_nielsen.specs.declared.choice.Pick.{Pick}
use Rattle.mg_nielsen.specs.declared.choice.Pick.TheVariants.{One, Two}
use Rattle.mg_nielsen.specs.declared.choice.StepPick.{StepPick}

-- how many letters two words have in common at their left ends
abbrev pub common : List ℤ → List ℤ → ℕ
common [] v = 0
common (x ∷ u) [] = 0
common (x ∷ u) (y ∷ v) = cond (int_eq x y) (suc (common u v)) 0

-- how many letters the product of the inverse of u with v has
abbrev pub quotient_length : List ℤ → List ℤ → ℕ
quotient_length u v = length (free_form (inv u ++ v))

abbrev pub AreReduced : List Expressed → Type 0
AreReduced members = AllByRecursion (λ (e : Expressed). IsReduced e.word) members

-- the place of the member that the factor with a number from 0 is made of: the members come first, and then their
-- inverses
abbrev pub place_of : List Expressed → ℕ → ℕ
place_of members n = cond (ltb n (length members)) n (n - length members)

abbrev pub inverse_of : List Expressed → ℕ → Bool
inverse_of members n = cond (ltb n (length members)) false true

abbrev pub numbered : List Expressed → ℕ → Expressed
numbered members n = turned (inverse_of members n) (member_at members (place_of members n))

-- a number of a factor
abbrev pub IsNumber : List Expressed → ℕ → Type 0
IsNumber members n = n < 2 * length members

-- one factor or the product of two
abbrev pub picked : List Expressed → Pick → Expressed
picked members (One n) = numbered members n
picked members (Two m n) = times (numbered members m) (numbered members n)

abbrev pub IsPick : List Expressed → Pick → Type 0
IsPick members (One n) = IsNumber members n
IsPick members (Two m n) = IsNumber members m × IsNumber members n

-- what a peeling leaves of a rest
abbrev pub left_by : List Expressed → List ℤ → Pick → ℕ
left_by members rest pick = quotient_length (picked members pick).word rest

-- nothing, or the pick that leaves so few letters
abbrev pub Leaves : List Expressed → List ℤ → ℕ → Option Pick → Type 0
Leaves members rest left None = left ≡ length rest
Leaves members rest left (Some pick) = IsPick members pick × (left ≡ left_by members rest pick) × (left < length rest)

-- a member times a factor, or the factor times the member
abbrev pub made : List Expressed → StepPick → Expressed
made members pick = on_side pick.left (member_at members pick.place) (numbered members pick.number)

pub record IsStep (members : List Expressed) (pick : StepPick) : Type 0 where
  pub there : pick.place < length members
  pub number : IsNumber members pick.number
  pub apart : place_of members pick.number ≢ pick.place

-- nothing, or the step that takes so many letters off
abbrev pub Gains : List Expressed → ℕ → Option StepPick → Type 0
Gains members gain None = gain ≡ 0
Gains members gain (Some pick) = IsStep members pick × (gain + length (made members pick).word ≡ length (member_at members pick.place).word) × (0 < gain)

-- no step takes more letters off
abbrev pub GainsMost : List Expressed → ℕ → StepPick → Type 0
GainsMost members gain pick = length (member_at members pick.place).word ≤ gain + length (made members pick).word

-- a unit that may be made
abbrev pub IsMove : Nielsen → Move → Type 0
IsMove s (Peel goal pick) = (goal < length s.rests) × IsPick s.members pick × (left_by s.members (member_at s.rests goal).word pick < length (member_at s.rests goal).word)
IsMove s (Step pick) = IsStep s.members pick × (length (made s.members pick).word < length (member_at s.members pick.place).word)

-- the unit was made, or it would make the lists of signs too long and the state is as before
abbrev pub HasMade : Nielsen → Bool → Nielsen → Type 0
HasMade before true after = Moves before after × (signs_held after ≤ MOST_SYMBOLS)
HasMade before false after = (after ≡ before) × ((next : Nielsen) × Moves before next × (MOST_SYMBOLS < signs_held next))

-- an end that a state has, whatever units a turn was given
pub record IsLast (s : Nielsen) (end : TurnEnd Fact) : Type 0 where
  pub ends : (units spent : ℕ) → NielsenEnd s units spent end
  pub last : goes_on end ≡ false
  pub stops : (known : Option Fact) → StopsBy end known

-- a unit was made, or the state has an end
abbrev pub HasTried : Nielsen → Option (TurnEnd Fact) → Nielsen → Type 0
HasTried before None after = Moves before after × (signs_held after ≤ MOST_SYMBOLS)
HasTried before (Some end) after = (after ≡ before) × IsLast before end

-- what the fields of a search keep
pub record IsHeld (held : ℕ) (s : Nielsen) : Type 0 where
  pub kept : IsKept s
  pub count : held ≡ signs_held s
