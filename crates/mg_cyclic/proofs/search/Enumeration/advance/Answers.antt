use Rattle.std.proofs.Common.{◌≡◌, ℕ, ◌+◌, ◌-◌, ap, refl, subst, arith}
use Rattle.mg_cyclic.specs.Number.{IsNumbered}
use Rattle.mg_cyclic.proofs.Found.{none_from, finds_first}
use Rattle.mg_cyclic.proofs.search.Enumeration.advance.Goals as goal

pub returns-then-step-clause-found : goal.returns-then-step-clause-found
returns-then-step-clause-found c = λ spent e.
    let now = c.loop-self.self-inside in
    let stays : c.step.new.self.next ≡ now.walk.next = c.step.ensures.stays c.if-step.true in
    let s : now.walk.next - c.args.self.now.cursor ≡ spent = let f : c.step.new.self.next - now.cursor ≡ spent = cc e in omega (arith, f, stays, c.loop-self.invariant.cursor) in
    finds_first c.args.self.now.ask now.ask c.step.new.self.map c.step.new.self.goal c.args.self.now.cursor c.args.units now.walk.next spent c.loop-self.invariant.ask
    (omega (arith, c.loop-self.invariant.ahead, c.loop-self.invariant.cursor)) (omega (arith, ap (λ v. v.cursor) c.self.view_is)) c.loop-self.invariant.walks.none
    (subst (λ (n : ℕ). IsNumbered now.ask.group.generators c.step.new.self.map n) stays (c.step.ensures.numbered c.if-step.true)) (c.step.ensures.refutes c.if-step.true) s

pub returns-clause-more : goal.returns-clause-more
returns-clause-more c = λ _.
    let now = c.loop-self.self-inside in record {
      all = refl;
      none = none_from c.args.self.now.ask now.ask c.args.self.now.cursor (c.args.self.now.cursor + c.args.units) now.walk.next c.loop-self.invariant.ask
          (omega (arith, ap (λ v. v.cursor) c.self.view_is)) c.loop-self.invariant.walks.none;
    }

pub returns-clause-none : goal.returns-clause-none
returns-clause-none c = λ _.
    let now = c.loop-self.self-inside in
    none_from now.ask now.ask 0 (c.self.inside.cursor + c.args.units) now.walk.next refl (omega arith) c.loop-self.invariant.walks.none
