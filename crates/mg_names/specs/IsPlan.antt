-- What holds of the plans that scripts mean.
use Rattle.std.specs.Prelude.{◌≡◌, ℕ, ◌≤◌, Some, IfSome, List, length, Contains, slice_get}
use Rattle.std.specs.List.{AllByRecursion}
use Rattle.mg_lex.specs.declared.limits.TheConstants.{NUMBER_LIMIT}
use Rattle.mg_words.specs.declared.procedure.Procedure.{Procedure}
use Rattle.mg_present.specs.Ask.{Inquiry}
use Rattle.mg_names.specs.declared.plan.TheConstants.{MOST_SEARCHES, MOST_STEPS}
use Rattle.mg_present.specs.Applies.{Applies}
use Rattle.mg_names.specs.Plan.{Plan, PlanGroup, PlanQuestion, plain, AskOf, Step, fund, grant, run, cancel, report, report_facts, report_log}

-- the group of the question is there, and has a name for each generator that the question's words may have
pub record HasNames (plan : Plan) (question : PlanQuestion) : Type 0 where
  pub group : PlanGroup
  pub there : slice_get plan.groups question.group ≡ Some group
  pub ask : Inquiry
  pub asked : question.asked ≡ plain ask
  pub named : length group.generators ≡ ask.group.generators

-- the question is there, and the procedure may be used for what it asks
pub record CanBeAsked (plan : Plan) (question : ℕ) (procedure : Procedure) : Type 0 where
  pub ask : Inquiry
  pub asked : AskOf plan question ask
  pub applies : Applies procedure ask

-- the step names what is there, and no more units than a number of a script
abbrev pub IsStep : Plan → Step → Type 0
IsStep plan (fund units) = units ≤ NUMBER_LIMIT
IsStep plan (grant question procedure units) = CanBeAsked plan question procedure × (units ≤ NUMBER_LIMIT)
IsStep plan (run bound) = IfSome bound (λ units. units ≤ NUMBER_LIMIT)
IsStep plan (cancel question procedure) = CanBeAsked plan question procedure
IsStep plan (report questions) = questions ≤ length plan.questions
IsStep plan report_facts = Unit {0}
IsStep plan report_log = Unit {0}

-- a grant is for one of these pairs
abbrev pub GrantsOneOf : List (ℕ × Procedure) → Step → Type 0
GrantsOneOf pairs (grant question procedure units) = Contains pairs (question, procedure)
GrantsOneOf pairs step = Unit {0}

-- Questions have names for their words, and steps name what is there. The grants name at most so many pairs of a
-- question and a procedure.
pub record IsPlan (plan : Plan) : Type 0 where
  pub questions : AllByRecursion (HasNames plan) plan.questions
  pub steps : AllByRecursion (IsStep plan) plan.steps
  pub steps_count : length plan.steps ≤ MOST_STEPS
  pub pairs : List (ℕ × Procedure)
  pub pairs_count : length pairs ≤ MOST_SEARCHES
  pub pairs_of : AllByRecursion (GrantsOneOf pairs) plan.steps
