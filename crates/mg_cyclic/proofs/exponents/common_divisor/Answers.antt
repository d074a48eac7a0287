use Rattle.mg_cyclic.proofs.Tallies.{divides_before}
use Rattle.mg_cyclic.proofs.exponents.common_divisor.Goals as goal

pub loop-rest-preserved : goal.loop-rest-preserved
loop-rest-preserved c = λ n some h k. c.loop-rest.invariant n some (divides_before c.loop-rest.common c.loop-rest.rest n h k) h
