-- Which logs are accepted.
use Rattle.std.specs.Prelude.{◌≡◌, ℕ, ℤ, Some, List, [], ◌∷◌, take, slice_get}
use Rattle.std.specs.List.{AllByRecursion}
use Rattle.mg_words.specs.Word.{IsOver}
use Rattle.mg_present.specs.Presentation.{Group}
use Rattle.mg_present.specs.Ask.{Inquiry}
use Rattle.mg_rulelog.specs.declared.moves.Move.{Move}
use Rattle.mg_rulelog.specs.declared.moves.Move.TheVariants.{InPair, OutPair, InRelator, OutRelator, By, Back}
use Rattle.mg_rulelog.specs.declared.log.RuleLog.{RuleLog}
use Rattle.mg_rulelog.specs.Rule.{Sides, Logged, all_sides}
use Rattle.mg_rulelog.specs.Moves.{Leads}

-- A rule follows from rules: its sides are words over the generators, and its moves, over those rules, lead from its
-- left side to its right side.
pub record Follows (group : Group) (rules : List Sides) (rule : Logged) : Type 0 where
  pub left : IsOver group.generators rule.left
  pub right : IsOver group.generators rule.right
  pub reason : Leads group rules rule.moves rule.left rule.right

-- each rule follows from the rules before it
abbrev pub AllFollow : Group → List Logged → Type 0
AllFollow group rules =
    (place : ℕ) (rule : Logged) → slice_get rules place ≡ Some rule → Follows group (all_sides (take place rules)) rule

-- a left side is replaced by its right side
abbrev pub IsBy : Move → Type 0
IsBy (InPair x place) = ⊥
IsBy (OutPair x place) = ⊥
IsBy (InRelator number inverse place) = ⊥
IsBy (OutRelator number inverse place) = ⊥
IsBy (By number place) = Unit {0}
IsBy (Back number place) = ⊥

-- the moves rewrite the goal to the empty word: each replaces a left side by its right side
pub record Erases (group : Group) (rules : List Sides) (moves : List Move) (goal : List ℤ) : Type 0 where
  pub rewritings : AllByRecursion IsBy moves
  pub leads : Leads group rules moves goal []

-- there are as many lists of moves as goals, and each rewrites its goal to the empty word
abbrev pub AllErase : Group → List Sides → List (List Move) → List (List ℤ) → Type 0
AllErase group rules [] [] = Unit {0}
AllErase group rules (moves ∷ lists) (goal ∷ goals) = Erases group rules moves goal × AllErase group rules lists goals
AllErase group rules [] (goal ∷ goals) = ⊥
AllErase group rules (moves ∷ lists) [] = ⊥

-- A log is accepted where each of its rules follows from the rules before it, and its moves rewrite each goal to the
-- empty word by any of its rules. Subgroup words play no part.
pub record IsAccepted (ask : Inquiry) (log : RuleLog) : Type 0 where
  pub rules : AllFollow ask.group log.rules
  pub goals : AllErase ask.group (all_sides log.rules) log.goals ask.goals
