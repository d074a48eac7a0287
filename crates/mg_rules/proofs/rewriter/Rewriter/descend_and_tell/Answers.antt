use Rattle.std.proofs.Common.{List, ℤ, refl, sym, subst}
use Rattle.std.specs.Prelude.{OnOk}
use Rattle.mg_rules.specs.Rule.{IsNormal}
use Rattle.mg_rules.specs.First.{IsFirstDescendant}
use Rattle.mg_rules.specs.Reading.{Tells}
use Rattle.mg_rules.proofs.Firsts.{normal_empty}
use Rattle.mg_rules.proofs.Reading.{whole_begun, on_ok_both}
use Rattle.mg_rules.proofs.rewriter.Rewriter.descend_and_tell.Goals as goal

pub descend-requires-clause-normal : goal.descend-requires-clause-normal
descend-requires-clause-normal c = subst (IsNormal c.args.rules.now) (sym c.in_ok-begin.ensures.read) (normal_empty c.args.rules.now c.requires.decrease)

pub returns-clause-first : goal.returns-clause-first
returns-clause-first c =
    subst (λ (t : List ℤ). OnOk c.descend.result (IsFirstDescendant c.args.rules.now t c.descend.new.self.read.items))
    (whole_begun c.begin.new.self.read.items c.begin.new.self.rest.items c.args.w.now c.in_ok-begin.ensures.read c.in_ok-begin.ensures.rest) c.descend.ensures.first

pub returns-clause-told : goal.returns-clause-told
returns-clause-told c =
    subst (λ (t : List ℤ). OnOk c.descend.result (Tells c.args.rules.now t c.descend.new.self.read.items c.args.told.now c.descend.new.told))
    (whole_begun c.begin.new.self.read.items c.begin.new.self.rest.items c.args.w.now c.in_ok-begin.ensures.read c.in_ok-begin.ensures.rest)
    (on_ok_both c.descend.result _ _ _ c.descend.ensures.told c.descend.ensures.told (λ h k. h refl))
