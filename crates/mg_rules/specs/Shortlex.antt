-- The shortlex order of words, in which rules decrease.
use Rattle.std.specs.Prelude.{◌≡◌, ◌<◌, ◌⊎◌, ℤ, List, length}
use Rattle.std.specs.List.{AllByRecursion}
use Rattle.std.specs.declared.cmp.Ordering.TheVariants.{Less}
use Rattle.mg_words.specs.Orders.{letters_cmp}
use Rattle.mg_rules.specs.Rule.{Rule}

-- u is shorter than v, or as long and smaller letter by letter
abbrev pub IsSmaller : List ℤ → List ℤ → Type 0
IsSmaller u v = (length u < length v) ⊎ ((length u ≡ length v) × (letters_cmp u v ≡ Less))

-- the right side is smaller than the left side
abbrev pub Decreases : Rule → Type 0
Decreases rule = IsSmaller rule.right rule.left

-- each rule decreases
abbrev pub AllDecrease : List Rule → Type 0
AllDecrease rules = AllByRecursion Decreases rules
