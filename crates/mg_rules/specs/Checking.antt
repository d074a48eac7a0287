-- What a check of completeness finds by first descendants alone.
use Rattle.std.specs.Prelude.{ℕ, ◌-◌, ◌+◌, ℤ, neg_ℤ, List, [], ◌∷◌, ◌++◌, length, take, drop}
use Rattle.mg_words.specs.Letter.{IsLetterOf}
use Rattle.mg_rules.specs.declared.meeting.Meeting.{Meeting}
use Rattle.mg_rules.specs.Rule.{Rule}
use Rattle.mg_rules.specs.First.{IsFirstDescendant}
use Rattle.mg_rules.specs.Meeting.{Results}

-- the first descendant is empty
abbrev pub Vanishes : List Rule → List ℤ → Type 0
Vanishes rules w = IsFirstDescendant rules w []

-- each letter before its inverse vanishes
abbrev pub LettersVanish : List Rule → ℕ → Type 0
LettersVanish rules m = (x : ℤ) → IsLetterOf m x → Vanishes rules (x ∷ neg_ℤ x ∷ [])

-- u and v have the same first descendant
abbrev pub FallTogether : List Rule → List ℤ → List ℤ → Type 0
FallTogether rules u v = (w : List ℤ) × IsFirstDescendant rules u w × IsFirstDescendant rules v w

-- the two results of the overlap or inclusion have the same first descendant
abbrev pub ResultsFall : List Rule → Meeting → Type 0
ResultsFall rules m = (u v : List ℤ) → Results rules m u v → FallTogether rules u v

-- the first result: the right side of the first rule, and what sticks out behind its left side
abbrev pub one_result : Rule → Rule → ℕ → List ℤ
one_result first second place =
    first.right ++ drop (length first.left - place) second.left

-- the second result: what stands before, the right side of the second rule, and what stands behind
abbrev pub other_result : Rule → Rule → ℕ → List ℤ
other_result first second place =
    take place first.left ++ (second.right ++ drop (place + length second.left) first.left)
