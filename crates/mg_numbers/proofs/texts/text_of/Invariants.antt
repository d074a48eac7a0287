use Rattle.mg_numbers.proofs.TextsSteps.{Written}
use Rattle.mg_numbers.proofs.texts.text_of.Given as goal

abbrev pub invariant-loop-rest : goal.invariant-loop-rest
invariant-loop-rest l = Written l.base l.n l.rest l.out

abbrev pub decreases-loop-rest : goal.decreases-loop-rest
decreases-loop-rest l = l.rest
