-- First descendants: the descendant that is reached by always replacing the occurrence that ends
-- first.
use Rattle.std.specs.Prelude.{◌≡◌, ℕ, ◌+◌, ◌<◌, ◌≤◌, ◌⊎◌, ℤ, Some, List, [], ◌∷◌, ◌++◌, length}
use Rattle.mg_rules.specs.Rule.{Rule, rule_numbered, Occurrence, IsNormal}

-- how many letters of the word come before the end of the occurrence
abbrev pub end_of : {rules : List Rule} {w : List ℤ} → Occurrence rules w → ℕ
end_of o = length o.before + length o.rule.left

-- one occurrence ends before another, or ends there too and its rule has no greater number
abbrev pub ComesFirst : {rules : List Rule} {w : List ℤ}
    → Occurrence rules w → Occurrence rules w → Type 0
ComesFirst o other =
    (end_of o < end_of other) ⊎ ((end_of o ≡ end_of other) × (o.number ≤ other.number))

-- v is u with the first occurrence replaced: the one that ends first, and of those that end there
-- the one of the rule with the least number
pub record RewritesFirst (rules : List Rule) (u v : List ℤ) : Type 0 where
  pub at : Occurrence rules u
  pub first : (other : Occurrence rules u) → ComesFirst at other
  pub replaced : v ≡ at.before ++ (at.rule.right ++ at.behind)

-- these words lead from u to v, each next one by replacing the first occurrence
abbrev pub LeadsFirst : List Rule → List ℤ → List (List ℤ) → List ℤ → Type 0
LeadsFirst rules u [] v = u ≡ v
LeadsFirst rules u (w ∷ words) v = RewritesFirst rules u w × LeadsFirst rules w words v

-- v is the first descendant of u: it is normal, and reached by replacing first occurrences
pub record IsFirstDescendant (rules : List Rule) (u v : List ℤ) : Type 0 where
  pub words : List (List ℤ)
  pub leads : LeadsFirst rules u words v
  pub normal : IsNormal rules v

-- the left side of the rule with this number ends the word
pub record Ends (rules : List Rule) (w : List ℤ) (number : ℕ) : Type 0 where
  pub rule : Rule
  pub numbered : rule_numbered rules number ≡ Some rule
  pub before : List ℤ
  pub ends : w ≡ before ++ rule.left

-- the least number of a rule whose left side ends the word, and 0 where there is none
pub record IsLeastEnd (rules : List Rule) (w : List ℤ) (number : ℕ) : Type 0 where
  pub ends : 0 < number → Ends rules w number
  pub none : number ≡ 0 → (other : ℕ) → Ends rules w other → ⊥
  pub least : (other : ℕ) → Ends rules w other → number ≤ other

-- v is u with the left side of the rule with this number, which stands at the place, replaced by
-- its right side
pub record RewritesAt (rules : List Rule) (number place : ℕ) (u v : List ℤ) : Type 0 where
  pub at : Occurrence rules u
  pub by_rule : at.number ≡ number
  pub at_place : length at.before ≡ place
  pub replaced : v ≡ at.before ++ (at.rule.right ++ at.behind)
