use Rattle.std.proofs.Common.{◌≡◌, ◌-◌, length}
use Rattle.mg_cyclic.specs.Walk.{IsPlace}
use Rattle.mg_cyclic.proofs.walk.Walk.finds.Given as goal

abbrev pub invariant-loop-self : goal.invariant-loop-self
invariant-loop-self l = record {
  place : IsPlace l.ask l.self;
  next : l.self.next ≡ l.initial.self.next;
  map : l.self.map ≡ l.initial.self.map;
}

abbrev pub decreases-loop-self : goal.decreases-loop-self
decreases-loop-self l = length l.self.map.residues - l.self.level
