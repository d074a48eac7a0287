use Rattle.mg_cyclic.specs.Kept.{IsRenewed}
use Rattle.mg_cyclic.proofs.Raises.{ChangedUpTo}
use Rattle.mg_cyclic.proofs.kept.renew_all.Given as goal

abbrev pub invariant-loop-row : goal.invariant-loop-row
invariant-loop-row l = ChangedUpTo (IsRenewed l.modulus) l.row-index l.fn.rows l.rows
