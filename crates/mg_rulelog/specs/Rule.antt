-- The rules of a log as values.
use Rattle.std.specs.Prelude.{ℕ, zero, suc, ℤ, Option, None, List, map, slice_get}
use Rattle.mg_rulelog.specs.declared.moves.Move.{Move}

-- the two sides of a rule
pub record Sides : Type 0 where
  pub left : List ℤ
  pub right : List ℤ

-- a rule with the moves that lead from its left side to its right side
pub record Logged : Type 0 where
  pub left : List ℤ
  pub right : List ℤ
  pub moves : List Move

abbrev pub sides_of : Logged → Sides
sides_of rule = record { left = rule.left; right = rule.right }

-- the sides of each rule
abbrev pub all_sides : List Logged → List Sides
all_sides rules = map sides_of rules

-- the relator with a number, counted from 1
abbrev pub relator_numbered : List (List ℤ) → ℕ → Option (List ℤ)
relator_numbered relators zero = None
relator_numbered relators (suc n) = slice_get relators n

-- the rule with a number, counted from 1
abbrev pub sides_numbered : List Sides → ℕ → Option Sides
sides_numbered rules zero = None
sides_numbered rules (suc n) = slice_get rules n
