use Rattle.std.proofs.Common.{ℕ, refl, ◌∙◌, sym, subst, arith}
use Rattle.mg_action.specs.Number.{IsNumbered}
use Rattle.mg_action.proofs.walk.Walk.pass.Goals as goal

pub returns-else-not-put_next-clause-walk : goal.returns-else-not-put_next-clause-walk
returns-else-not-put_next-clause-walk c =
    let old = c.requires.walk in
    record {
      count = c.put_next.ensures.count ∙ old.count;
      few = old.few;
      some = omega (arith, c.number_after-after.ensures.rises);
      none = c.number_after-after.ensures.none;
      numbered = λ less.
          subst (λ (m : ℕ). IsNumbered m c.put_next.new.self c.number_after-after.result) old.count
          (c.if-not-put_next.ensures.next refl c.args.self.now.next c.number_after-after.result (subst (λ (m : ℕ). IsNumbered m c.args.self.now.action c.args.self.now.next) (sym old.count) (old.numbered c.requires.most)) (c.number_after-after.ensures.behind less));
    }
