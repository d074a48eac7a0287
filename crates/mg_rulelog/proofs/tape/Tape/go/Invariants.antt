use Rattle.std.proofs.Common.{◌≡◌, ◌≤◌, length}
use Rattle.mg_rulelog.specs.Tape.{spelled}
use Rattle.mg_rulelog.proofs.tape.Tape.go.Given as goal

-- letters go from the front to the back
abbrev pub invariant-loop-self : goal.invariant-loop-self
invariant-loop-self l = spelled l.self ≡ spelled l.fn.self

abbrev pub decreases-loop-self : goal.decreases-loop-self
decreases-loop-self l = length l.self.before.items

-- and then from the back to the front
abbrev pub invariant-loop-self-2 : goal.invariant-loop-self-2
invariant-loop-self-2 l = (spelled l.self ≡ spelled l.fn.self) × (length l.self.before.items ≤ l.place)

abbrev pub decreases-loop-self-2 : goal.decreases-loop-self-2
decreases-loop-self-2 l = length l.self.behind.items
