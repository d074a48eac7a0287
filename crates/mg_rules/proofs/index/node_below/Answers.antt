use Rattle.std.proofs.Common.{◌≡◌, ◌∙◌, ◌∷◌, ◌+◌, ap, length, subst, sym, arith}
use Rattle.mg_rules.specs.Index.{grown, IsBelow, Reaches, IsIndexOf}
use Rattle.mg_rules.proofs.Trees.{grown_index, grown_length}
use Rattle.mg_rules.proofs.index.node_below.Goals as goal

pub returns-clause-index : goal.returns-clause-index
returns-clause-index c =
    let nodes = c.args.nodes.now.items in
    let n = c.args.node in
    let x = c.args.letter in
    let node = c.requires.there.0 in
    let there = c.requires.there.1 in
    let zero : c.below-next.result ≡ 0 = omega (arith, c.if-next-gt0.false) in
    let below : IsBelow nodes n x 0 = subst (IsBelow nodes n x) zero (subst (λ t. IsBelow t n x c.below-next.result) c.deref.ensures.value c.below-next.ensures) in
    let new : c.grow.new.nodes.items ≡ grown nodes n node x = c.grow.ensures.grown node there in
    λ rules w index reached. (let both = grown_index rules nodes w n node x index reached there below in (
      subst (IsIndexOf rules) (sym new) both.0,
      subst (λ t. Reaches t (x ∷ w) c.grow.result) (sym new) (subst (Reaches (grown nodes n node x) (x ∷ w)) (sym c.grow.ensures.place) both.1),
    ))

pub returns-clause-length : goal.returns-clause-length
returns-clause-length c =
    let nodes = c.args.nodes.now.items in
    let n = c.args.node in
    let node = c.requires.there.0 in
    let new : length c.grow.new.nodes.items ≡ length nodes + 1 = ap length (c.grow.ensures.grown node c.requires.there.1) ∙ grown_length nodes n node c.args.letter in
    omega (arith, new)
