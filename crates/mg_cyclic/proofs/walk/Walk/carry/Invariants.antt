use Rattle.std.proofs.Common.{◌≡◌, ◌+◌, ℤ, List, length}
use Rattle.mg_cyclic.specs.Kept.{Keep}
use Rattle.mg_cyclic.specs.Walk.{first_at, stretch_at}
use Rattle.mg_cyclic.proofs.Stretches.{Stands}
use Rattle.mg_cyclic.proofs.walk.Walk.carry.Given as goal

abbrev pub invariant-loop-self : goal.invariant-loop-self
invariant-loop-self l = record {
  stands : Stands l.self.map l.self.level (first_at l.initial.self + stretch_at l.initial.self);
  modulus : l.self.map.modulus ≡ l.initial.self.map.modulus;
  count : length l.self.map.residues ≡ length l.initial.self.map.residues;
  next : l.self.next ≡ l.initial.self.next;
  relators : (words : List (List ℤ)) → Keep words l.initial.self.map l.initial.self.relators.items → Keep words l.self.map l.self.relators.items;
  members : (words : List (List ℤ)) → Keep words l.initial.self.map l.initial.self.members.items → Keep words l.self.map l.self.members.items;
  content : l.self.content ≡ l.initial.self.content;
}

abbrev pub decreases-loop-self : goal.decreases-loop-self
decreases-loop-self l = l.self.level
