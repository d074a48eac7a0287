use Rattle.std.proofs.Common.{ℕ, IfOk, List, ℤ, refl, subst}
use Rattle.mg_names.specs.Grouped.{AreRelationsRead}
use Rattle.mg_names.proofs.Groups.{new_home}
use Rattle.mg_names.proofs.resolver.Resolver.read_relators.Goals as goal

pub read_relations-requires-clause-home : goal.read_relations-requires-clause-home
read_relations-requires-clause-home c = new_home _ c.args.self.now c.requires.sound refl c.next_group.ensures

pub returns : goal.returns
returns c rs rest e ends =
    subst (λ (k : ℕ). IfOk c.read_relations.result (λ (relators : List (List ℤ)). AreRelationsRead c.args.self.now.names k c.args.generators.now rs c.args.found.now relators c.read_relations.new.found)) c.next_group.ensures
    (c.read_relations.ensures rs rest e ends)
