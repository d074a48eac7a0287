-- Overlaps and inclusions in their fixed order, in which adding a rule only puts new ones behind.
use Rattle.std.specs.Prelude.{◌≡◌, ◌⊎◌, ℕ, ◌<◌, ◌≤◌, max, min, Option, None, Some, List, [], ◌∷◌, Contains}
use Rattle.std.specs.List.{AllByRecursion}
use Rattle.mg_numbers.specs.Texts.{IsLexBefore}
use Rattle.mg_rules.specs.declared.meeting.Meeting.{Meeting}
use Rattle.mg_rules.specs.Rule.{Rule}
use Rattle.mg_rules.specs.Meeting.{Meets}

-- by what overlaps and inclusions are ordered: by the greater number of a rule, then by the lesser
-- one, then with the lesser rule first, then by the place
abbrev pub order_of : Meeting → List ℕ
order_of m = max m.first m.second ∷ min m.first m.second ∷ m.first ∷ m.place ∷ []

-- one comes before the other: where they first differ it has the lesser number
abbrev pub ComesBefore : Meeting → Meeting → Type 0
ComesBefore m n = IsLexBefore (order_of m) (order_of n)

-- the overlap or inclusion that comes next behind the other meeting
pub record IsNext (rules : List Rule) (from next : Meeting) : Type 0 where
  pub meets : Meets rules next
  pub behind : ComesBefore from next
  pub least : (other : Meeting) → Meets rules other → ComesBefore from other
      → (next ≡ other) ⊎ ComesBefore next other

-- each comes before all behind it
abbrev pub IsInOrder : List Meeting → Type 0
IsInOrder [] = Unit {0}
IsInOrder (m ∷ more) = AllByRecursion (ComesBefore m) more × IsInOrder more

-- each overlap and inclusion of the system is there, and no other; they are in order, so each is
-- there once
pub record Lists (rules : List Rule) (list : List Meeting) : Type 0 where
  pub each : (m : Meeting) → Meets rules m → Contains list m
  pub only : (m : Meeting) → Contains list m → Meets rules m
  pub ordered : IsInOrder list

-- ---- the way through them

-- the place stands behind another one, if there is one
abbrev pub IsBehind : Option ℕ → ℕ → Type 0
IsBehind None place = Unit {0}
IsBehind (Some last) place = last < place

-- the pair i j comes before the pair k l
abbrev pub PairBefore : ℕ → ℕ → ℕ → ℕ → Type 0
PairBefore i j k l = IsLexBefore (max i j ∷ min i j ∷ i ∷ []) (max k l ∷ min k l ∷ k ∷ [])

-- it is of the pair i j, and its place stands behind
pub record IsOfPair (i j : ℕ) (last : Option ℕ) (m : Meeting) : Type 0 where
  pub first : m.first ≡ i
  pub second : m.second ≡ j
  pub behind : IsBehind last m.place

-- the next pair of numbers from 1 behind i j is k l
pub record IsNextPair (count i j k l : ℕ) : Type 0 where
  pub first_least : 1 ≤ k
  pub second_least : 1 ≤ l
  pub first_most : k ≤ count
  pub second_most : l ≤ count
  pub behind : PairBefore i j k l
  pub least : (k' l' : ℕ) → 1 ≤ k' → 1 ≤ l' → PairBefore i j k' l'
      → ((k ≡ k') × (l ≡ l')) ⊎ PairBefore k l k' l'

-- the next one of the pair i j behind the place is this one
pub record IsNextOfPair (rules : List Rule) (i j : ℕ) (last : Option ℕ) (next : Meeting)
    : Type 0 where
  pub meets : Meets rules next
  pub of_pair : IsOfPair i j last next
  pub least : (other : Meeting) → Meets rules other → IsOfPair i j last other
      → (next ≡ other) ⊎ (next.place < other.place)
