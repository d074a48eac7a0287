use Rattle.std.proofs.Common.{◌≡◌, ◌≤◌}
use Rattle.mg_derive.specs.Walk.{IsPlace, text_length, first_at}
use Rattle.mg_derive.proofs.walk.Walk.finds.Given as goal

abbrev pub invariant-loop-self : goal.invariant-loop-self
invariant-loop-self l = record {
  next : l.self.next ≡ l.initial.self.next;
  place : IsPlace l.ask l.self;
  some : 1 ≤ l.self.digit;
  length : text_length l.self ≡ text_length l.initial.self;
  first : first_at l.ask l.self ≡ first_at l.ask l.initial.self;
}

abbrev pub decreases-loop-self : goal.decreases-loop-self
decreases-loop-self l = l.self.left
