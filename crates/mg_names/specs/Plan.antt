-- Plans: what a script asks for. Names and texts are lists of bytes.
use Rattle.std.specs.Prelude.{◌≡◌, ℕ, List, Option, Some, slice_get}
use Rattle.mg_words.specs.declared.procedure.Procedure.{Procedure}
use Rattle.mg_present.specs.Presentation.{Group}
use Rattle.mg_present.specs.Ask.{Inquiry}

-- a declared group, with the names of its generators in order
pub record PlanGroup : Type 0 where
  pub name : List ℕ
  pub generators : List (List ℕ)
  pub group : Group

-- what a question asks: that each goal lies in the subgroup
pub data Asked : Type 0 where
  plain : Inquiry → Asked

-- a question, and the place from 0 of the group that gives its words their names
pub record PlanQuestion : Type 0 where
  pub name : List ℕ
  pub group : ℕ
  pub asked : Asked

-- a step of a session; questions go by their places from 0
pub data Step : Type 0 where
  fund : (units : ℕ) → Step
  grant : (question : ℕ) → Procedure → (units : ℕ) → Step
  run : (bound : Option ℕ) → Step
  cancel : (question : ℕ) → Procedure → Step
  -- of the first questions, as many as this
  report : (questions : ℕ) → Step
  report_facts : Step
  report_log : Step

-- a script as a session runs it
pub record Plan : Type 0 where
  pub groups : List PlanGroup
  pub questions : List PlanQuestion
  pub steps : List Step

-- the question at this place asks this
abbrev pub AskOf : Plan → ℕ → Inquiry → Type 0
AskOf plan question ask = (asked : PlanQuestion) × (slice_get plan.questions question ≡ Some asked) × (asked.asked ≡ plain ask)
