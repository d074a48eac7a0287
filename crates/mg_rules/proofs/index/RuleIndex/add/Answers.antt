use Rattle.std.proofs.Common.{◌≡◌, ◌∙◌, ap, subst, sym}
use Rattle.mg_rules.specs.Rule.{Rule}
use Rattle.mg_rules.specs.Index.{IsIndexOf}
use Rattle.mg_rules.proofs.Trees.{last_of}
use Rattle.mg_rules.proofs.index.RuleIndex.add.Goals as goal

pub returns-clause-ok : goal.returns-clause-ok
returns-clause-ok c =
    let others = c.requires.0 in
    let last = c.requires.1 in
    let known = last_of others last c.pairs-pairs.result.now c.index-pairs-pairs.result (c.pairs-pairs.ensures ∙ c.requires.2) in
    let rule : c.index-pairs-pairs.result ≡ last = c.index-pairs-pairs.is ∙ known.1 in
    let left : last.left ≡ c.letters.result.now = sym (c.letters.ensures ∙ (ap (λ (r : Rule). r.left) c.last.view_is ∙ ap (λ (r : Rule). r.left) rule)) in
    subst (λ t. IsIndexOf t c.insert.new.self) (sym c.requires.2) (c.in_ok-insert.ensures.ok others last c.requires.3 left known.0)
