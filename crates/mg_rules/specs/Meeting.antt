-- Where the left sides of two rules meet: they overlap, or one stands in the other.
use Rattle.std.specs.Prelude.{◌≡◌, ◌≢◌, ◌⊎◌, ℕ, ℤ, Some, List, [], ◌++◌, length}
use Rattle.mg_rules.specs.declared.meeting.Meeting.{Meeting}
use Rattle.mg_rules.specs.Rule.{Rule, rule_numbered, HaveCommon}

-- the first left side is a b and the second one b c, with a, b and c not empty; the second one
-- begins at the place, counted from 0
pub record Overlaps (first second : List ℤ) (place : ℕ) : Type 0 where
  pub a : List ℤ
  pub b : List ℤ
  pub c : List ℤ
  pub some_a : a ≢ []
  pub some_b : b ≢ []
  pub some_c : c ≢ []
  pub left_first : first ≡ a ++ b
  pub left_second : second ≡ b ++ c
  pub at_place : length a ≡ place

-- the second left side stands at the place in the first one, which is a, the second one and c
pub record Includes (first second : List ℤ) (place : ℕ) : Type 0 where
  pub a : List ℤ
  pub c : List ℤ
  pub left_first : first ≡ a ++ (second ++ c)
  pub at_place : length a ≡ place

-- the left sides of the rules i and j overlap at the place, or they are two rules and the second
-- left side stands there in the first one
abbrev pub MeetAt : (i j : ℕ) (first second : List ℤ) (place : ℕ) → Type 0
MeetAt i j first second place =
    Overlaps first second place ⊎ ((i ≢ j) × Includes first second place)

-- there is an overlap or an inclusion of these two rules at this place
pub record Meets (rules : List Rule) (m : Meeting) : Type 0 where
  pub first : Rule
  pub second : Rule
  pub first_numbered : rule_numbered rules m.first ≡ Some first
  pub second_numbered : rule_numbered rules m.second ≡ Some second
  pub meet : MeetAt m.first m.second first.left second.left m.place

-- the results of an overlap: the right side of the first rule with what sticks out behind, and what
-- stands before with the right side of the second rule
pub record OverlapGives (first second : Rule) (place : ℕ) (u v : List ℤ) : Type 0 where
  pub at : Overlaps first.left second.left place
  pub one : u ≡ first.right ++ at.c
  pub other : v ≡ at.a ++ second.right

-- the results of an inclusion: the right side of the first rule, and its left side with the second
-- rule used
pub record InclusionGives (first second : Rule) (place : ℕ) (u v : List ℤ) : Type 0 where
  pub at : Includes first.left second.left place
  pub one : u ≡ first.right
  pub other : v ≡ at.a ++ (second.right ++ at.c)

-- u and v are the two results of this overlap or inclusion
pub record Results (rules : List Rule) (m : Meeting) (u v : List ℤ) : Type 0 where
  pub first : Rule
  pub second : Rule
  pub first_numbered : rule_numbered rules m.first ≡ Some first
  pub second_numbered : rule_numbered rules m.second ≡ Some second
  pub give : OverlapGives first second m.place u v
      ⊎ ((m.first ≢ m.second) × InclusionGives first second m.place u v)

-- the two results of every overlap have a common descendant: the right side of the first rule with
-- what sticks out behind, and what stands before with the right side of the second rule; and the
-- two results of every inclusion of one rule in another: the right side of the first rule, and its
-- left side with the second rule used
pub record AllJoin (rules : List Rule) : Type 0 where
  pub overlaps : (i j place : ℕ) (first second : Rule)
      → rule_numbered rules i ≡ Some first → rule_numbered rules j ≡ Some second
      → (o : Overlaps first.left second.left place)
      → HaveCommon rules (first.right ++ o.c) (o.a ++ second.right)
  pub inclusions : (i j place : ℕ) (first second : Rule)
      → rule_numbered rules i ≡ Some first → rule_numbered rules j ≡ Some second
      → i ≢ j → (o : Includes first.left second.left place)
      → HaveCommon rules first.right (o.a ++ (second.right ++ o.c))
