-- Rewriting systems: rules, what they rewrite, and what is reached by them.
use Rattle.std.specs.Prelude.{◌≡◌, ℕ, zero, suc, ℤ, Option, None, Some, List, [], ◌∷◌, ◌++◌, slice_get}

-- a left and a right word
pub record Rule : Type 0 where
  pub left : List ℤ
  pub right : List ℤ

-- the rule with a number, counted from 1
abbrev pub rule_numbered : List Rule → ℕ → Option Rule
rule_numbered rules zero = None
rule_numbered rules (suc n) = slice_get rules n

-- a left side stands in the word, between what stands before and what stands behind
pub record Occurrence (rules : List Rule) (w : List ℤ) : Type 0 where
  pub number : ℕ
  pub rule : Rule
  pub numbered : rule_numbered rules number ≡ Some rule
  pub before : List ℤ
  pub behind : List ℤ
  pub stands : w ≡ before ++ (rule.left ++ behind)

-- v is u with one occurrence of a left side replaced by its right side
pub record Rewrites (rules : List Rule) (u v : List ℤ) : Type 0 where
  pub at : Occurrence rules u
  pub replaced : v ≡ at.before ++ (at.rule.right ++ at.behind)

-- these words lead from u to v, each next one by a rewriting
abbrev pub Leads : List Rule → List ℤ → List (List ℤ) → List ℤ → Type 0
Leads rules u [] v = u ≡ v
Leads rules u (w ∷ words) v = Rewrites rules u w × Leads rules w words v

-- v is a descendant of u: some list of words leads from u to v
abbrev pub Descends : List Rule → List ℤ → List ℤ → Type 0
Descends rules u v = (words : List (List ℤ)) × Leads rules u words v

-- u and v have a common descendant
abbrev pub HaveCommon : List Rule → List ℤ → List ℤ → Type 0
HaveCommon rules u v = (w : List ℤ) × Descends rules u w × Descends rules v w

-- no left side occurs in the word
abbrev pub IsNormal : List Rule → List ℤ → Type 0
IsNormal rules w = Occurrence rules w → ⊥
