use Rattle.std.proofs.Common.{List, ℤ, sym, subst}
use Rattle.std.specs.Prelude.{OnOk}
use Rattle.mg_rules.specs.Rule.{IsNormal}
use Rattle.mg_rules.specs.First.{IsFirstDescendant}
use Rattle.mg_rules.proofs.Firsts.{normal_empty}
use Rattle.mg_rules.proofs.Reading.{whole_begun}
use Rattle.mg_rules.proofs.rewriter.Rewriter.rewrite.Goals as goal

pub descend-requires-clause-normal : goal.descend-requires-clause-normal
descend-requires-clause-normal c = subst (IsNormal c.args.rules.now) (sym c.in_ok-begin.ensures.read) (normal_empty c.args.rules.now c.requires.decrease)

pub returns : goal.returns
returns c =
    subst (λ (t : List ℤ). OnOk c.descend.result (IsFirstDescendant c.args.rules.now t c.descend.new.self.read.items))
    (whole_begun c.begin.new.self.read.items c.begin.new.self.rest.items c.args.w.now c.in_ok-begin.ensures.read c.in_ok-begin.ensures.rest) c.descend.ensures.first
