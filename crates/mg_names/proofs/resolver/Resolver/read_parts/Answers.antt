use Rattle.std.proofs.Common.{◌++◌, length}
use Rattle.mg_names.specs.Meaning.{relations_in}
use Rattle.mg_names.specs.Sign.{bar_signs}
use Rattle.mg_names.proofs.Groups.{closing, closing_ends, bar_ends, group_ends, few_texts, relations_ahead, group_read}
use Rattle.mg_names.proofs.resolver.Resolver.read_parts.Goals as goal

pub read_relators-requires-clause-few : goal.read_relators-requires-clause-few
read_relators-requires-clause-few c =
    let a = c.requires.ahead in
    let h = c.in_ok-generators.ensures a.generators (bar_signs a.relations ++ closing) (group_ends c.args.cursor.now c.skip_all.new.self a.generators a.relations a.written c.skip_all.ensures) (bar_ends a.relations) in
    few_texts c.in_ok-generators.generators a.generators h.names_are a.sized.few_generators

pub read_relators-requires-clause-ahead : goal.read_relators-requires-clause-ahead
read_relators-requires-clause-ahead c =
    let a = c.requires.ahead in
    let h = c.in_ok-generators.ensures a.generators (bar_signs a.relations ++ closing) (group_ends c.args.cursor.now c.skip_all.new.self a.generators a.relations a.written c.skip_all.ensures) (bar_ends a.relations) in
    relations_ahead c.skip_bar.new.cursor (relations_in a.relations) (c.skip_bar.ensures a.relations h.rest_is) a.sized.each

pub returns : goal.returns
returns c generators rs e =
    let h = c.in_ok-generators.ensures generators (bar_signs rs ++ closing) (group_ends c.args.cursor.now c.skip_all.new.self generators rs e c.skip_all.ensures) (bar_ends rs) in
    let second = c.in_ok-relators.ensures (relations_in rs) closing (c.skip_bar.ensures rs h.rest_is) closing_ends in
    group_read c.args.self.now.names (length c.args.self.now.plan.groups) generators (relations_in rs) c.args.found.now c.read_generators.new.found c.read_relators.new.found
    (record { generators = c.in_ok-generators.generators; relators = c.in_ok-relators.relators }) (bar_signs rs ++ closing) c.read_generators.new.cursor h second
