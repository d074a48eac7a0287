-- Equations, the moves that show them, and the rules that they give.
use Rattle.std.specs.Prelude.{◌≡◌, ◌⊎◌, ℕ, ℤ, false, Some, List, [], ◌∷◌, ◌++◌, map}
use Rattle.mg_words.specs.Letter.{IsLetterOf}
use Rattle.mg_present.specs.Presentation.{Group}
use Rattle.mg_rules.specs.declared.meeting.Meeting.{Meeting}
use Rattle.mg_rules.specs.declared.rewriter.Rewriting.{Rewriting}
use Rattle.mg_rules.specs.Rule.{Rule, IsNormal}
use Rattle.mg_rules.specs.Shortlex.{Decreases}
use Rattle.mg_rules.specs.Meeting.{Results}
use Rattle.mg_rules.specs.Reading.{LeadsBy}
use Rattle.mg_rulelog.specs.declared.moves.Move.{Move}
use Rattle.mg_rulelog.specs.declared.moves.Move.TheVariants.{OutPair, OutRelator, By, Back}
use Rattle.mg_rulelog.specs.Rule.{Sides, relator_numbered}
use Rattle.mg_rulelog.specs.Moves.{pair_of, all_undone}

-- the rules as the sides that moves are over
abbrev pub sides : List Rule → List Sides
sides rules = map (λ (rule : Rule). record { left = rule.left; right = rule.right }) rules

-- two words, and the moves that lead from the first to the second
pub record Equation : Type 0 where
  pub one : List ℤ
  pub other : List ℤ
  pub moves : List Move

-- a letter before its inverse, and the empty word
abbrev pub pair_equation : ℤ → Equation
pair_equation x = record { one = pair_of x; other = []; moves = OutPair x 0 ∷ [] }

-- a relator, and the empty word
abbrev pub relator_equation : ℕ → List ℤ → Equation
relator_equation number relator = record { one = relator; other = []; moves = OutRelator number false 0 ∷ [] }

-- the two results of an overlap or inclusion: the word in which the left sides meet comes from the first by the first
-- rule backwards, and gives the second by the second rule
abbrev pub meeting_equation : Meeting → List ℤ → List ℤ → Equation
meeting_equation m u v = record { one = u; other = v; moves = Back m.first 0 ∷ By m.second m.place ∷ [] }

-- what completion takes for equations: pairs and relators, and the results of overlaps and inclusions
pub data IsEquation (group : Group) (rules : List Rule) (e : Equation) : Type 0 where
  pair : (x : ℤ) → IsLetterOf group.generators x → e ≡ pair_equation x → IsEquation group rules e
  relator : (number : ℕ) (word : List ℤ) → relator_numbered group.relators number ≡ Some word
      → e ≡ relator_equation number word → IsEquation group rules e
  meeting : (m : Meeting) (u v : List ℤ) → Results rules m u v → e ≡ meeting_equation m u v → IsEquation group rules e

-- the equation read the other way
abbrev pub turned : Equation → Equation
turned e = record { one = e.other; other = e.one; moves = all_undone e.moves }

-- rewritings as moves
abbrev pub by_each : List Rewriting → List Move
by_each told = map (λ (r : Rewriting). By r.rule r.place) told

-- The equation gives a rule from its first to its second word: the sides of the rule are normal descendants of the two
-- words, and the right one is smaller. The reason: back from the left side to the first word, the equation's own moves,
-- and on from the second word to the right side.
pub record Gives (rules : List Rule) (e : Equation) (rule : Rule) (moves : List Move) : Type 0 where
  pub from_one : List Rewriting
  pub from_other : List Rewriting
  pub left : LeadsBy rules e.one from_one rule.left
  pub right : LeadsBy rules e.other from_other rule.right
  pub left_normal : IsNormal rules rule.left
  pub right_normal : IsNormal rules rule.right
  pub decreases : Decreases rule
  pub moves_are : moves ≡ all_undone (by_each from_one) ++ (e.moves ++ by_each from_other)

-- some equation of the rules gives the rule with this reason, read in one of the two ways
pub record IsGiven (group : Group) (rules : List Rule) (rule : Rule) (moves : List Move) : Type 0 where
  pub equation : Equation
  pub is : IsEquation group rules equation
  pub gives : Gives rules equation rule moves ⊎ Gives rules (turned equation) rule moves
