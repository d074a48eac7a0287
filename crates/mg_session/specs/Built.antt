-- How sessions are run so far.
use Rattle.std.specs.Prelude.{ℕ}
use Rattle.mg_session.specs.State.{Params}

-- one worker, whose turns have these sizes
abbrev pub one_worker : (ℕ → ℕ → ℕ → ℕ → Type 0) → Params
one_worker IsSize = record { workers = 1; IsSize = IsSize }

-- no worker and no size of a turn: what steps that make no turn do and print is the same by all params
abbrev pub no_turns : Params
no_turns = record { workers = 0; IsSize = λ turns spent allowed units. ⊥ }
