use Rattle.std.proofs.Common.{◌≡◌, ◌∙◌, subst, sym}
use Rattle.mg_rules.specs.Index.{Reaches, IsIndexOf}
use Rattle.mg_rules.proofs.Trees.{reached_within}
use Rattle.mg_rules.proofs.index.RuleIndex.insert.Goals as goal

pub note-requires : goal.note-requires
note-requires c =
    let others = c.requires.0 in
    let same : c.make_room.new.nodes.items ≡ c.args.self.now = c.make_room.ensures.stay ∙ c.self.view_is in
    let index = c.node_of-node.ensures.index others (subst (IsIndexOf others) (sym same) c.requires.1) in
    record { there = reached_within others c.node_of-node.new.nodes.items c.args.left.now c.node_of-node.result index c.node_of-node.ensures.reached }

pub returns-clause-ok : goal.returns-clause-ok
returns-clause-ok c =
    let same : c.make_room.new.nodes.items ≡ c.args.self.now = c.make_room.ensures.stay ∙ c.self.view_is in
    λ others last index left number. c.note.ensures.index others last (c.node_of-node.ensures.index others (subst (IsIndexOf others) (sym same) index))
    (subst (λ t. Reaches c.node_of-node.new.nodes.items t c.node_of-node.result) (sym left) c.node_of-node.ensures.reached) number
