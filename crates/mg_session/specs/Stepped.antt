-- What code does at a step.
use Rattle.std.specs.Prelude.{ℕ, List}
use Rattle.mg_names.specs.Plan.{Plan, Step}
use Rattle.mg_session.specs.State.{State}
use Rattle.mg_session.specs.Session.{After}
use Rattle.mg_session.specs.Output.{TextOf}
use Rattle.mg_session.specs.Built.{one_worker}

-- the step leads from a state to a state and prints this, whatever was printed before, where one worker makes turns of
-- these sizes
pub record IsStepped (plan : Plan) (IsSize : ℕ → ℕ → ℕ → ℕ → Type 0) (step : Step) (old new : State) (text : List ℕ) : Type 0 where
  pub after : After plan (one_worker IsSize) step old new
  pub text_is : (shown : List ℕ) → TextOf plan (one_worker IsSize) shown step old text shown
