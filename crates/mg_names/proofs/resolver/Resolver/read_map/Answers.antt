use Rattle.mg_names.specs.Name.{named_of}
use Rattle.mg_names.specs.Scope.{lookup}
use Rattle.mg_names.proofs.Mappings.{group_within, map_shown, stands}
use Rattle.mg_names.proofs.resolver.Resolver.read_map.Goals as goal

pub images-requires-clause-source : goal.images-requires-clause-source
images-requires-clause-source c =
    group_within c.args.self.now c.requires.sound c.args.heading.now.source.text.now c.group-source.result
    (stands (lookup c.args.self.now.names c.args.heading.now.source.text.now) c.group-source.result c.group-source.ensures.some c.group-source.ensures.none)

pub images-requires-clause-target : goal.images-requires-clause-target
images-requires-clause-target c =
    group_within c.args.self.now c.requires.sound c.args.heading.now.target.text.now c.group-target.result
    (stands (lookup c.args.self.now.names c.args.heading.now.target.text.now) c.group-target.result c.group-target.ensures.some c.group-target.ensures.none)

pub returns-in_default-clause-causes : goal.returns-in_default-clause-causes
returns-in_default-clause-causes c scope line all keeps e last =
    map_shown scope c.args.self.now line all (named_of c.args.heading.now.source) (named_of c.args.heading.now.target) c.group-source.result c.group-target.result c.args.found.now c.group-source.new.found c.group-target.new.found c.images.new.found keeps
    (stands (lookup c.args.self.now.names c.args.heading.now.source.text.now) c.group-source.result c.group-source.ensures.some c.group-source.ensures.none)
    (stands (lookup c.args.self.now.names c.args.heading.now.target.text.now) c.group-target.result c.group-target.ensures.some c.group-target.ensures.none)
    c.group-source.ensures.causes c.group-target.ensures.causes (λ from to sf st. c.in_ok-images.ensures.causes scope line all from to keeps e last sf st)

pub returns-in_default-target-clause-causes : goal.returns-in_default-target-clause-causes
returns-in_default-target-clause-causes c scope line all keeps e last =
    map_shown scope c.args.self.now line all (named_of c.args.heading.now.source) (named_of c.args.heading.now.target) c.group-source.result c.group-target.result c.args.found.now c.group-source.new.found c.group-target.new.found c.images.new.found keeps
    (stands (lookup c.args.self.now.names c.args.heading.now.source.text.now) c.group-source.result c.group-source.ensures.some c.group-source.ensures.none)
    (stands (lookup c.args.self.now.names c.args.heading.now.target.text.now) c.group-target.result c.group-target.ensures.some c.group-target.ensures.none)
    c.group-source.ensures.causes c.group-target.ensures.causes (λ from to sf st. c.in_ok-images.ensures.causes scope line all from to keeps e last sf st)

pub returns-clause-causes : goal.returns-clause-causes
returns-clause-causes c scope line all keeps e last =
    map_shown scope c.args.self.now line all (named_of c.args.heading.now.source) (named_of c.args.heading.now.target) c.group-source.result c.group-target.result c.args.found.now c.group-source.new.found c.group-target.new.found c.images.new.found keeps
    (stands (lookup c.args.self.now.names c.args.heading.now.source.text.now) c.group-source.result c.group-source.ensures.some c.group-source.ensures.none)
    (stands (lookup c.args.self.now.names c.args.heading.now.target.text.now) c.group-target.result c.group-target.ensures.some c.group-target.ensures.none)
    c.group-source.ensures.causes c.group-target.ensures.causes (λ from to sf st. c.in_ok-images.ensures.causes scope line all from to keeps e last sf st)
