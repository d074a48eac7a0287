use Rattle.std.proofs.Common.{◌≡◌, true}
use Rattle.mg_derive.proofs.tests.turns_before_the_last.Given as goal

abbrev pub invariant-loop-turn : goal.invariant-loop-turn
invariant-loop-turn l = l.search.is_open ≡ true
