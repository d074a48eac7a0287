use Rattle.std.proofs.Common.{◌≡◌, ◌+◌, ◌^◌, ◌≤◌, ◌++◌, ◌∷◌, [], length, map, replicate, ap, sym, ◌∙◌, inl, inr, arith}
use Rattle.std.proofs.lemmas.Bool.{cases_lt}
use Rattle.std.proofs.lemmas.List.{length-append, length-map}
use Rattle.mg_numbers.specs.Texts.{value}
use Rattle.mg_derive.specs.Walk.{first_at}
use Rattle.mg_derive.specs.Symbols.{digit_of, symbol_count}
use Rattle.mg_derive.proofs.Passing.{first_after_last, first_next}
use Rattle.mg_derive.proofs.walk.Walk.carry.Goals as goal

pub loop-self-preserved : goal.loop-self-preserved
loop-self-preserved c =
    let ask = c.args.ask.now in
    let old = c.loop-self.self in
    let new = c.leave-self.new.self in
    let last : old.digit ≡ symbol_count ask = omega (arith, c.loop-self.invariant.equipped.base) in
    let text = old.text.symbols in
    let e = c.leave-self.ensures.equipped in
    let some : 1 ≤ c.leave-self.result → length text ≡ length new.text.symbols + 1 =
    λ h. omega (arith, ap length (c.leave-self.ensures.digit h), length-append (map (digit_of ask) new.text.symbols) (c.leave-self.result ∷ []), length-map text (digit_of ask), length-map new.text.symbols (digit_of ask)) in
    record {
      equipped = record { asked = e.asked; base = e.base; some = e.some; longest = e.longest; capacity = e.capacity; room = e.room };
      next = c.leave-self.ensures.next ∙ c.loop-self.invariant.next;
      reads = c.leave-self.ensures.reads;
      digit = c.leave-self.ensures.most;
      begins = c.leave-self.ensures.empty;
      shorter = elim (cases_lt 0 c.leave-self.result) [
        | inl above ↦ omega (arith, some above, c.leave-self.ensures.left, c.loop-self.invariant.shorter, last)
        | inr none ↦ omega (arith, ap length (c.leave-self.ensures.empty (omega arith)), c.leave-self.ensures.left, c.loop-self.invariant.shorter, last)
      ];
      first =
          (ap (λ k. value (symbol_count ask) (map (digit_of ask) new.text.symbols ++ c.leave-self.result ∷ replicate (k + 1) 1) + symbol_count ask ^ (k + 1)) c.leave-self.ensures.left)
          ∙ (first_after_last (symbol_count ask) (map (digit_of ask) text) (map (digit_of ask) new.text.symbols) old.digit c.leave-self.result old.left last c.leave-self.ensures.digit
          (λ h. ap (map (digit_of ask)) (c.leave-self.ensures.none h)) (λ h. ap (map (digit_of ask)) (c.leave-self.ensures.empty h)) ∙ c.loop-self.invariant.first);
    }

pub returns-clause-first : goal.returns-clause-first
returns-clause-first c =
    let ask = c.args.ask.now in
    let old = c.loop-self.self in
    let base : c.args.self.now.base ≡ symbol_count ask = c.requires.place.equipped.base in
    first_next (symbol_count ask) (map (digit_of ask) old.text.symbols) old.digit old.left ∙ (c.loop-self.invariant.first ∙ ap (λ n. first_at ask c.args.self.now + n ^ c.args.self.now.left) (sym base))
