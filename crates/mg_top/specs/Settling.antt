-- Runs in which the search of a question by `derive` may test a number.
use Rattle.std.specs.Prelude.{◌≡◌, ℕ, ◌+◌, ◌≤◌, Option, Some, List, slice_get}
use Rattle.mg_words.specs.declared.procedure.Procedure.TheVariants.{Derive}
use Rattle.mg_names.specs.Plan.{Plan, run}
use Rattle.mg_session.specs.State.{State, SearchState}
use Rattle.mg_session.specs.Session.{IsThere}
use Rattle.mg_session.specs.RunOk.{reach}

-- the step is a run that leads to this state, and in it the search by `derive` of the question at this place has a
-- reach of at least n
pub record IsRunReaching (plan : Plan) (states : List State) (place n step : ℕ) (new : State) : Type 0 where
  pub bound : Option ℕ
  pub runs : slice_get plan.steps step ≡ Some (run bound)
  pub old : State
  pub from : slice_get states step ≡ Some old
  pub to : slice_get states (step + 1) ≡ Some new
  pub before : List SearchState
  pub search : SearchState
  pub after : List SearchState
  pub there : IsThere old place Derive before search after
  pub within : n ≤ reach bound search
