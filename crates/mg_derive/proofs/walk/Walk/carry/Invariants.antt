use Rattle.std.proofs.Common.{◌≡◌, ◌+◌, ◌^◌, ◌≤◌, [], length, min}
use Rattle.mg_derive.specs.Symbols.{symbol_count}
use Rattle.mg_derive.specs.Reading.{Leads, at_first}
use Rattle.mg_derive.specs.Walk.{IsEquipped, standing_of, text_length, first_at}
use Rattle.mg_derive.proofs.walk.Walk.carry.Given as goal

abbrev pub invariant-loop-self : goal.invariant-loop-self
invariant-loop-self l = record {
  equipped : IsEquipped l.ask l.self;
  next : l.self.next ≡ l.initial.self.next;
  reads : Leads l.ask l.self.text.symbols at_first (standing_of l.self);
  digit : l.self.digit ≤ symbol_count l.ask;
  begins : l.self.digit ≡ 0 → l.self.text.symbols ≡ [];
  shorter : length l.self.text.symbols + min l.self.digit 1 + l.self.left ≤ text_length l.initial.self;
  first : first_at l.ask l.self + symbol_count l.ask ^ l.self.left ≡ first_at l.ask l.initial.self + symbol_count l.ask ^ l.initial.self.left;
}

abbrev pub decreases-loop-self : goal.decreases-loop-self
decreases-loop-self l = length l.self.text.symbols + min l.self.digit 1
