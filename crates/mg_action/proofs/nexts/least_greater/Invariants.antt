use Rattle.mg_action.specs.Next.{IsLeastGreater}
use Rattle.mg_action.proofs.nexts.least_greater.Given as goal

abbrev pub invariant-loop-other : goal.invariant-loop-other
invariant-loop-other l = IsLeastGreater l.fn.list l.fn.place l.other l.least
