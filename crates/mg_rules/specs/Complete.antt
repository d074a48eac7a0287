-- Systems that are complete for a group, and what they refute.
use Rattle.std.specs.Prelude.{◌≡◌, ◌≢◌, ℕ, ◌<◌, ℤ, neg_ℤ, List, [], ◌∷◌, length, slice_index_or}
use Rattle.std.specs.List.{AllByRecursion}
use Rattle.mg_words.specs.Letter.{IsLetterOf}
use Rattle.mg_words.specs.Word.{IsOver}
use Rattle.mg_present.specs.Presentation.{Group}
use Rattle.mg_present.specs.Ask.{Inquiry}
use Rattle.mg_rules.specs.Rule.{Rule, Descends, IsNormal}
use Rattle.mg_rules.specs.Shortlex.{AllDecrease}
use Rattle.mg_rules.specs.Meeting.{AllJoin}

-- both sides are words over the first m generators
pub record IsRuleOver (m : ℕ) (rule : Rule) : Type 0 where
  pub left : IsOver m rule.left
  pub right : IsOver m rule.right

-- the system is complete for the group: its words are over the generators, each rule decreases,
-- what overlaps and inclusions give has common descendants, and each pair of a letter and its
-- inverse and each relator descends to the empty word
pub record IsComplete (group : Group) (rules : List Rule) : Type 0 where
  pub over : AllByRecursion (IsRuleOver group.generators) rules
  pub decrease : AllDecrease rules
  pub join : AllJoin rules
  pub pairs : (x : ℤ) → IsLetterOf group.generators x → Descends rules (x ∷ neg_ℤ x ∷ []) []
  pub relators : AllByRecursion (λ relator. Descends rules relator []) group.relators

-- the system refutes the goal at the place: it is complete for the group, there are no subgroup
-- words, and a normal descendant of the goal isn't empty
pub record Refutes (ask : Inquiry) (goal : ℕ) (rules : List Rule) : Type 0 where
  pub complete : IsComplete ask.group rules
  pub alone : ask.subgroup ≡ []
  pub there : goal < length ask.goals
  pub remains : List ℤ
  pub descends : Descends rules (slice_index_or ask.goals goal []) remains
  pub normal : IsNormal rules remains
  pub some : remains ≢ []
