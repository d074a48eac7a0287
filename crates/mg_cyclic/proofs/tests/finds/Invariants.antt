use Rattle.std.proofs.Common.{◌≡◌, true}
use Rattle.mg_cyclic.proofs.tests.finds.Given as goal

abbrev pub invariant-loop-turn : goal.invariant-loop-turn
invariant-loop-turn l = l.search.is_open ≡ true
