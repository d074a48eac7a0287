use Rattle.std.proofs.Common.{◌≡◌, ◌∙◌, [], ◌<◌, take, length, get_or, ap, subst, sym, List}
use Rattle.mg_rules.specs.Rule.{Rule}
use Rattle.mg_rules.specs.Index.{IsIndexOf}
use Rattle.mg_rules.proofs.Trees.{root_index, taken}
use Rattle.mg_rules.proofs.index.RuleIndex.make.Goals as goal

pub loop-place-init : goal.loop-place-init
loop-place-init c = subst (IsIndexOf []) (sym c.in_ok-root.ensures) root_index

pub loop-place-preserved : goal.loop-place-preserved
loop-place-preserved c =
    let rules : List Rule = c.args.rules.now in
    let place = c.loop-place.place in
    let rule : Rule = c.pair-item.result in
    let same : c.pairs-pair-items.result.now ≡ rules = c.pairs-pair-items.ensures in
    let within : place < length rules = subst (λ (t : List Rule). place < length t) same c.loop-place-test.true in
    let there : rule ≡ get_or rules place rule = c.pair-item.is ∙ ap (λ (t : List Rule). get_or t place rule) same in
    let known = taken rules place rule within there in
    let left : rule.left ≡ c.letters.result.now = sym (c.letters.ensures ∙ ap (λ (r : Rule). r.left) c.pair.view_is) in
    subst (λ (t : List Rule). IsIndexOf t c.insert.new.self) (sym known.0) (c.in_ok-insert.ensures.ok (take place rules) rule c.loop-place.invariant left known.1)
