use Rattle.std.proofs.Common.{◌≡◌, ℕ, ◌+◌, ◌-◌, length, ap, sym, subst, ◌∙◌, arith}
use Rattle.std.proofs.lemmas.List.{length-set}
use Rattle.mg_numbers.specs.Residues.{ResidueTuple}
use Rattle.mg_cyclic.specs.Walk.{first_at, stretch_at}
use Rattle.mg_cyclic.proofs.Stretches.{Stands, place_first, stands_raised, stands_around, stands_enlarged, zeros_at_last}
use Rattle.mg_cyclic.proofs.walk.Walk.carry.Goals as goal

pub returns-then-raise-clause-first : goal.returns-then-raise-clause-first
returns-then-raise-clause-first c =
    let now = c.loop-self.self in
    let total : ℕ = first_at c.args.self.now + stretch_at c.args.self.now in
    ap place_first (c.raise.ensures.raised c.if-raise.true)
    ∙ (stands_raised now.map now.level total c.loop-self.invariant.stands (omega (arith, c.loop-self-test.true)) (c.raise.ensures.up c.if-raise.true)).at

pub loop-self-preserved : goal.loop-self-preserved
loop-self-preserved c =
    let now = c.loop-self.self in
    let i = c.loop-self.invariant in
    let total : ℕ = first_at c.args.self.now + stretch_at c.args.self.now in
    let e = c.raise.ensures.around c.if-raise.false in
    record {
      stands = subst (λ (l : ℕ). Stands c.raise.new.self.map (l - 1) total) (sym c.raise.ensures.level)
          (subst (λ (t : ResidueTuple). Stands t (now.level - 1) total) (sym e) (stands_around now.map now.level total i.stands (omega (arith, c.loop-self-test.true)) (c.raise.ensures.last c.if-raise.false)));
      modulus = ap (λ (t : ResidueTuple). t.modulus) e ∙ i.modulus;
      count = ap (λ (t : ResidueTuple). length t.residues) e ∙ length-set now.map.residues (now.level - 1) 0 ∙ i.count;
      next = c.raise.ensures.next ∙ i.next;
      relators = λ words keep. c.raise.ensures.relators words (i.relators words keep);
      members = λ words keep. c.raise.ensures.members words (i.members words keep);
      content = c.raise.ensures.content ∙ i.content;
    }

pub enlarge-requires-clause-zeros : goal.enlarge-requires-clause-zeros
enlarge-requires-clause-zeros c = zeros_at_last c.loop-self.self.map c.loop-self.self.level _ c.loop-self.invariant.stands (omega (arith, c.loop-self-test.false))

pub returns-clause-relators : goal.returns-clause-relators
returns-clause-relators c = λ words keep. c.enlarge.ensures.relators words (c.loop-self.invariant.relators words keep)

pub returns-clause-members : goal.returns-clause-members
returns-clause-members c = λ words keep. c.enlarge.ensures.members words (c.loop-self.invariant.members words keep)

pub returns-clause-first : goal.returns-clause-first
returns-clause-first c =
    let now = c.loop-self.self in
    let total : ℕ = first_at c.args.self.now + stretch_at c.args.self.now in
    let none : now.level ≡ 0 = omega (arith, c.loop-self-test.false) in
    ap place_first c.enlarge.ensures.map ∙ (stands_enlarged now.map total (subst (λ l. Stands now.map l total) none c.loop-self.invariant.stands)).at
