use Rattle.std.proofs.Common.{◌≡◌, ◌∙◌, ◌++◌, sym, ap}
use Rattle.std.proofs.lemmas.Option.{same_Some}
use Rattle.mg_rules.specs.Rule.{Rule}
use Rattle.mg_rules.proofs.Reading.{rule_used, replaced, on_ok_both}
use Rattle.mg_rules.proofs.rewriter.Stacks.use_rule.Goals as goal

pub replace-requires : goal.replace-requires
replace-requires c =
    let ends = c.requires.ends.least.ends c.requires.ends.some in
    let rule : ends.rule ≡ c.index-pairs-number.result = same_Some ends.rule c.index-pairs-number.result (sym ends.numbered ∙ rule_used c.args.rules.now c.pairs.result.now c.args.self.now.read.items c.args.number c.index-pairs-number.result c.requires.ends c.pairs.ensures c.index-pairs-number.is) in
    (ends.before, ends.ends ∙ ap (λ (r : Rule). ends.before ++ r.left) rule)

pub returns : goal.returns
returns c =
    on_ok_both c.replace.result _ _ _ c.replace.ensures.read c.replace.ensures.rest
    (replaced c.args.rules.now c.args.self.now.read.items c.args.self.now.rest.items c.replace.new.self.read.items c.replace.new.self.rest.items c.args.number
    c.index-pairs-number.result c.requires.decrease c.requires.ends (rule_used c.args.rules.now c.pairs.result.now c.args.self.now.read.items c.args.number c.index-pairs-number.result c.requires.ends c.pairs.ensures c.index-pairs-number.is))
