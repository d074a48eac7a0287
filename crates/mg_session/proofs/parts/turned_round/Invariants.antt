use Rattle.std.proofs.Common.{◌≡◌, ◌++◌, length, reverse}
use Rattle.mg_session.proofs.parts.turned_round.Given as goal

abbrev pub invariant-loop-held : goal.invariant-loop-held
invariant-loop-held l = reverse l.fn.searches ≡ l.turned.items ++ reverse l.searches

abbrev pub decreases-loop-held : goal.decreases-loop-held
decreases-loop-held l = length l.searches
