use Rattle.std.proofs.Common.{◌≡◌, length}
use Rattle.mg_rulelog.specs.Tape.{spelled}
use Rattle.mg_rulelog.proofs.tape.Tape.spells.Given as goal

-- letters go from the back to the front
abbrev pub invariant-loop-x : goal.invariant-loop-x
invariant-loop-x l = spelled l.self ≡ spelled l.fn.self

abbrev pub decreases-loop-x : goal.decreases-loop-x
decreases-loop-x l = length l.self.behind.items
