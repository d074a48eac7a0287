use Rattle.mg_cyclic.specs.Kept.{IsRaised}
use Rattle.mg_cyclic.proofs.Raises.{ChangedUpTo}
use Rattle.mg_cyclic.proofs.kept.raise_all.Given as goal

abbrev pub invariant-loop-row : goal.invariant-loop-row
invariant-loop-row l = ChangedUpTo (IsRaised l.modulus l.place) l.row-index l.fn.rows l.rows
