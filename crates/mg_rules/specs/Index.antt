-- Which system an index is of: a tree of the left sides, which are read from the end.
use Rattle.std.specs.Prelude.{◌≡◌, ℕ, ◌+◌, ◌<◌, ◌≤◌, ◌⊎◌, ℤ, pos, negsuc, Some, List, [], ◌∷◌, ◌++◌, length, slice_get, slice_set, replicate}
use Rattle.mg_rules.specs.declared.index.Node.{Node}
use Rattle.mg_rules.specs.Rule.{Rule, rule_numbered}

-- the place of a letter in a node's table
abbrev pub code : ℤ → ℕ
code (pos n) = n + n
code (negsuc n) = n + n + 3

-- a node stands there, with a table of the right length
abbrev pub IsWide : List Node → ℕ → Type 0
IsWide nodes n = (node : Node) × (slice_get nodes n ≡ Some node) × (length node.below ≡ 130)

-- the table of a node leads to this number by the letter
abbrev pub IsBelow : List Node → ℕ → ℤ → ℕ → Type 0
IsBelow nodes n x m = (node : Node) × (slice_get nodes n ≡ Some node) × (slice_get node.below (code x) ≡ Some m)

-- the word leads to the node: the empty word to the root, and the letter x before a word from
-- where that leads to the node below by x; a 0 in a table is no node
abbrev pub Reaches : List Node → List ℤ → ℕ → Type 0
Reaches nodes [] m = m ≡ 0
Reaches nodes (x ∷ w) m = (n : ℕ) × Reaches nodes w n × IsBelow nodes n x m × (0 < m)

-- the rule with this number has this left side
abbrev pub HasLeft : List Rule → ℕ → List ℤ → Type 0
HasLeft rules number w = (rule : Rule) × (rule_numbered rules number ≡ Some rule) × (rule.left ≡ w)

-- the least number of a rule with this left side, and 0 where there is none
pub record IsLeastLeft (rules : List Rule) (w : List ℤ) (number : ℕ) : Type 0 where
  pub has : 0 < number → HasLeft rules number w
  pub none : number ≡ 0 → (other : ℕ) → HasLeft rules other w → ⊥
  pub least : (other : ℕ) → HasLeft rules other w → number ≤ other

-- a node that knows the least rule with this left side
pub record Knows (rules : List Rule) (nodes : List Node) (w : List ℤ) (n : ℕ) : Type 0 where
  pub node : Node
  pub there : slice_get nodes n ≡ Some node
  pub wide : length node.below ≡ 130
  pub least : IsLeastLeft rules w node.least

-- an empty node
abbrev pub fresh : Node
fresh = record { least = 0; below = replicate 130 0 }

-- the node with a table that leads to m by the letter x
abbrev pub led : Node → ℤ → ℕ → Node
led node x m = record { least = node.least; below = slice_set node.below (code x) m }

-- the tree with an empty node at its end, below the node n by the letter x
abbrev pub grown : List Node → ℕ → Node → ℤ → List Node
grown nodes n node x = slice_set nodes n (led node x (length nodes)) ++ fresh ∷ []

-- the lesser of two numbers, where 0 stands for none
pub record IsLesser (a b least : ℕ) : Type 0 where
  pub is : (least ≡ a) ⊎ (least ≡ b)
  pub none : least ≡ 0 → (a ≡ 0) × (b ≡ 0)
  pub first : 0 < a → least ≤ a
  pub second : 0 < b → least ≤ b

-- an index is of a system: each left side leads to a node, no two words lead to one, and each node
-- knows the least rule whose left side is the word that leads to it
pub record IsIndexOf (rules : List Rule) (nodes : List Node) : Type 0 where
  pub all : (number : ℕ) (w : List ℤ) → HasLeft rules number w → (n : ℕ) × Reaches nodes w n
  pub one : (u v : List ℤ) (n : ℕ) → Reaches nodes u n → Reaches nodes v n → u ≡ v
  pub knows : (w : List ℤ) (n : ℕ) → Reaches nodes w n → Knows rules nodes w n
  pub root : 0 < length nodes
