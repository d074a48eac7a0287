use Rattle.std.proofs.Common.{◌≡◌, ◌+◌, ◌-◌, ◌<◌, ◌≤◌, true}
use Rattle.mg_action.specs.Walk.{IsWalk}
use Rattle.mg_action.proofs.search.Enumeration.advance.Given as goal

abbrev pub invariant-loop-self : goal.invariant-loop-self
invariant-loop-self l = record {
  ask : l.self-inside.ask ≡ l.fn.self.ask;
  cursor : l.self-inside.cursor ≡ l.fn.self.cursor;
  goes_on : l.self-inside.is_open ≡ true;
  some : 1 ≤ l.self-inside.ask.group.generators;
  walks : IsWalk l.self-inside.ask l.self-inside.walk;
  ahead : l.self-inside.cursor < l.self-inside.walk.next;
}

abbrev pub decreases-loop-self : goal.decreases-loop-self
decreases-loop-self l = l.last + 1 - l.self-inside.walk.next
