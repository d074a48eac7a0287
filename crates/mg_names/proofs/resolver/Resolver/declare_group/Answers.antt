use Rattle.std.proofs.Common.{ap, length}
use Rattle.mg_names.specs.Meaning.{with_group}
use Rattle.mg_names.specs.Name.{named_of}
use Rattle.mg_names.proofs.Groups.{still_new, added_is, declared_with}
use Rattle.mg_names.proofs.resolver.Resolver.declare_group.Goals as goal

pub declare-requires : goal.declare-requires
declare-requires c =
    still_new c.requires.sound.scope c.args.self.now c.add_group.new.self _ c.args.name.text.now c.requires.sound.keeps (c.in_ok-add_group.ensures c.requires.sound.scope c.requires.sound.keeps) c.requires.new

pub returns : goal.returns
returns c scope keeps =
    declared_with scope c.args.self.now c.declare.new.self (named_of c.args.name) c.args.parts _ c.next_group-place.result c.declare.result keeps
    (added_is (named_of c.args.name) c.args.parts c.in_ok-text.text c.new-group.result _ c.in_ok-text.ensures c.new-group.ensures.generators c.new-group.ensures.relators (ap length c.as_slice.ensures))
    c.next_group-place.ensures (c.declare.ensures (with_group scope _) (c.in_ok-add_group.ensures scope keeps))
