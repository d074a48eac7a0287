use Rattle.std.proofs.Common.{refl}
use Rattle.mg_session.proofs.States.{run_ok}
use Rattle.mg_session.proofs.Runs.{run_is_ok}
use Rattle.mg_session.proofs.laws.runs_are_in_order.Goals as goal

pub returns-clause-state : goal.returns-clause-state
returns-clause-state g c plan policy workers bound old new ok step = run_ok plan workers (record { workers = workers; IsSize = g.P.Sizes.is_size policy }) bound old new refl step ok

pub returns-clause-run : goal.returns-clause-run
returns-clause-run g c plan policy workers bound old new ok step = run_is_ok plan (record { workers = workers; IsSize = g.P.Sizes.is_size policy }) bound old new step ok
