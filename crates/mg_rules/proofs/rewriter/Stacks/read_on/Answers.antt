use Rattle.std.proofs.Common.{◌≡◌, ◌∙◌, ◌++◌, ◌∷◌, [], List, ℤ, subst, ap, sym}
use Rattle.mg_rules.specs.Reading.{whole}
use Rattle.mg_rules.specs.First.{IsLeastEnd}
use Rattle.mg_rules.proofs.Reading.{read_one, none_ends}
use Rattle.mg_rules.proofs.rewriter.Stacks.read_on.Goals as goal

pub loop-letter-preserved : goal.loop-letter-preserved
loop-letter-preserved c =
    let read = c.loop-letter.self.read.items in
    let x = c.in-Some.letter in
    let pushed : c.push.new.self.items ≡ read ++ x ∷ [] = c.in_ok-push.ensures.items in
    let least : IsLeastEnd c.args.rules.now c.push.new.self.items c.least_end-number.result =
    subst (λ (t : List ℤ). IsLeastEnd c.args.rules.now t c.least_end-number.result) c.deref.ensures.value c.least_end-number.ensures in
    record {
      same = c.loop-letter.invariant.same ∙ (read_one read c.loop-letter.self.rest.items c.pop.new.self.items x c.in-Some.ensures.items
          ∙ ap (λ t. whole t c.pop.new.self.items) (sym pushed));
      normal = none_ends c.args.rules.now read c.push.new.self.items x c.least_end-number.result c.loop-letter.invariant.normal pushed c.if-number-gt0.false least;
    }
