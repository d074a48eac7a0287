use Rattle.std.proofs.Common.{◌≡◌, ◌∙◌, ◌∷◌, [], ◌++◌, ◌<◌, ap, sym, subst, length, refl, slice_get, slice_set, Some}
use Rattle.std.proofs.lemmas.Option.{slice_get_read, same_Some}
use Rattle.mg_rules.specs.declared.index.Node.{Node}
use Rattle.mg_rules.specs.Index.{IsIndexOf}
use Rattle.mg_rules.proofs.Trees.{positive, told, told_index, known_again}
use Rattle.mg_rules.proofs.index.note.Goals as goal

pub returns-then-index-eq0 : goal.returns-then-index-eq0
returns-then-index-eq0 c =
    let nodes = c.args.nodes.now.items in
    let n = c.args.node in
    let node : Node = c.index.result.now in
    let other : Node = c.index_mut.result.now in
    let there : slice_get nodes n ≡ Some node = slice_get_read nodes (length nodes) n node refl c.requires.there c.index.ensures in
    let again : slice_get nodes n ≡ Some other = slice_get_read nodes (length nodes) n other refl c.requires.there c.index_mut.ensures.value in
    let same : node ≡ other = same_Some node other (sym there ∙ again) in
    record {
      index = λ others last index reached number.
          subst (λ m. IsIndexOf (others ++ last ∷ []) (slice_set nodes n (told other m))) (sym number)
          (told_index others last nodes n other index reached again (sym (ap (λ (t : Node). t.least) same) ∙ c.if-index-eq0.true));
    }

pub returns-else-index-eq0 : goal.returns-else-index-eq0
returns-else-index-eq0 c =
    let nodes = c.args.nodes.now.items in
    let n = c.args.node in
    let node : Node = c.index.result.now in
    let there : slice_get nodes n ≡ Some node = slice_get_read nodes (length nodes) n node refl c.requires.there c.index.ensures in
    let some : 0 < node.least = positive node.least c.if-index-eq0.false in
    record { index = λ others last index reached number. known_again others last nodes n node index reached there some }
