use Rattle.mg_workers.proofs.Inserts.{runs_with_row, finished_with_row}
use Rattle.mg_workers.proofs.laws.left_rows_take_no_part.Goals as goal

pub returns : goal.returns
returns g c workers place policy row begin old new left h = (runs_with_row _ _ workers (g.P.Sizes.is_size policy) begin place row old new h, finished_with_row place row new left)
