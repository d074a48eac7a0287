-- Asks: whether each goal lies in the subgroup that some words generate.
use Rattle.std.specs.Prelude.{ℕ, ℤ, ◌≤◌, List, length}
use Rattle.std.specs.List.{AllByRecursion}
use Rattle.mg_words.specs.Word.{IsOver, IsReduced}
use Rattle.mg_present.specs.Presentation.{Group, IsPresented}
use Rattle.mg_present.specs.declared.ask.TheConstants.{MOST_SUBGROUP_WORDS, MOST_GOALS}

-- a group, words that generate a subgroup, and goals
pub record Inquiry : Type 0 where
  pub group : Group
  pub subgroup : List (List ℤ)
  pub goals : List (List ℤ)

-- a reduced word over the generators
pub record IsReducedOver (generators : ℕ) (w : List ℤ) : Type 0 where
  pub over : IsOver generators w
  pub reduced : IsReduced w

-- these words may be asked about in the group
pub record CanAsk (group : Group) (subgroup goals : List (List ℤ)) : Type 0 where
  pub subgroup_count : length subgroup ≤ MOST_SUBGROUP_WORDS
  pub subgroup_words : AllByRecursion (IsReducedOver group.generators) subgroup
  pub goal_count : length goals ≤ MOST_GOALS
  pub goal_words : AllByRecursion (IsReducedOver group.generators) goals

-- what holds of every Ask
pub record IsAsked (ask : Inquiry) : Type 0 where
  pub group : IsPresented ask.group
  pub words : CanAsk ask.group ask.subgroup ask.goals
