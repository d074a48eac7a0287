use Rattle.std.proofs.Common.{◌≡◌, ℕ, ◌+◌, ◌-◌, ap, sym, subst, length, ◌∙◌, arith}
use Rattle.std.proofs.Math.Nat.{one-le-pow}
use Rattle.mg_numbers.specs.Residues.{ResidueTuple}
use Rattle.mg_cyclic.specs.Number.{IsNumbered}
use Rattle.mg_cyclic.specs.Walk.{first_at, stretch_at}
use Rattle.mg_cyclic.proofs.Stretches.{place_first, numbered_here, modulus_fits_here, equipped_still, none_through}
use Rattle.mg_cyclic.proofs.walk.Walk.step.Goals as goal

pub returns-then-finds-clause-numbered : goal.returns-then-finds-clause-numbered
returns-then-finds-clause-numbered c = λ _.
    let ask = c.args.ask.now in
    let old = c.args.self.now in
    let number : first_at old + 1 ≡ c.finds.new.self.next = sym (c.finds.ensures.next ∙ c.requires.walk.number c.requires.most) in
    subst (λ (n : ℕ). IsNumbered ask.group.generators c.finds.new.self.map n) number
    (subst (λ (t : ResidueTuple). IsNumbered ask.group.generators t (first_at old + 1)) (sym c.finds.ensures.map) (numbered_here ask old c.requires.walk.place))

pub pass-requires-clause-small : goal.pass-requires-clause-small
pass-requires-clause-small c =
    let old = c.args.self.now in
    modulus_fits_here c.args.ask.now c.finds.new.self (c.finds.ensures.place c.if-finds.false)
    (omega (arith, ap place_first c.finds.ensures.map, c.requires.walk.number c.requires.most, c.requires.most))

pub returns-clause-walk : goal.returns-clause-walk
returns-clause-walk c = λ _.
    let ask = c.args.ask.now in
    let old = c.args.self.now in
    let found = c.finds.new.self in
    let new = c.pass.new.self in
    let p = c.finds.ensures.place c.if-finds.false in
    let e = c.pass.ensures in
    let first : first_at found ≡ first_at old = ap place_first c.finds.ensures.map in
    let number : old.next ≡ first_at found + 1 = omega (arith, c.requires.walk.number c.requires.most, first) in
    record {
      place = record { equipped = equipped_still ask found new e.content p.equipped; count = e.count ∙ p.count; standing = e.standing; relators = e.relators ask.group.relators p.relators; members = e.members ask.subgroup p.members };
      some = omega (arith, e.next, c.finds.ensures.next, number);
      none = none_through ask old.next (first_at found) (stretch_at found) new.next number c.requires.walk.none (c.finds.ensures.refused c.if-finds.false) (omega (arith, e.next, c.finds.ensures.next));
      number = λ few. omega (arith, few, e.next, e.first, c.finds.ensures.next, number);
    }

pub returns-clause-rises : goal.returns-clause-rises
returns-clause-rises c = λ _.
    let found = c.finds.new.self in
    let p = c.finds.ensures.place c.if-finds.false in
    let some = one-le-pow (length found.map.residues - found.level) found.map.modulus (omega (arith, p.standing.map.proper)) in
    omega (arith, c.pass.ensures.next, c.finds.ensures.next, c.requires.most, some)
