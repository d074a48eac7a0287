use Rattle.std.proofs.Common.{Option, subst}
use Rattle.mg_names.specs.declared.scope.Object.{Object}
use Rattle.mg_names.specs.Mapped.{arrows_signs, IsMapOf}
use Rattle.mg_names.specs.Name.{named_of}
use Rattle.mg_names.specs.Named.{mapping}
use Rattle.mg_names.proofs.Causes.{accepted, none_is, refused}
use Rattle.mg_names.proofs.Mappings.{line_to, map_after, map_least, map_new, map_there}
use Rattle.mg_names.proofs.resolver.Resolver.mapping.Goals as goal

pub returns-in-Some : goal.returns-in-Some
returns-in-Some c scope line n a b arrows keeps written last =
    let h = c.read_heading-heading.ensures n a b (arrows_signs arrows) written in
    refused scope line (mapping n a b arrows) c.read_map.new.found c.least.result c.in-Some.fault _
    (map_least scope c.args.self.now line arrows n a b (named_of c.read_heading-heading.result.name) (named_of c.read_heading-heading.result.source) (named_of c.read_heading-heading.result.target) keeps h.name h.source h.target c.new-found.result c.check_new.new.found c.read_map.new.found c.new-found.ensures c.check_new.ensures
    (c.in_ok-object.ensures.causes scope line arrows keeps h.rest_is last))
    c.least.ensures c.in-Some.is

pub declare-requires : goal.declare-requires
declare-requires c =
    let n = c.requires.ahead.0 in
    let a = c.requires.ahead.1 in
    let b = c.requires.ahead.2 in
    let arrows = c.requires.ahead.3 in
    let written = c.requires.ahead.4 in
    let some_line = line_to c.args.close in
    let h = c.read_heading-heading.ensures n a b (arrows_signs arrows) written in
    let none = none_is c.read_map.new.found c.least.result c.least.ensures (λ f e. c.in_default.not-Some f e) in
    map_new c.requires.sound.scope c.args.self.now some_line.0 arrows n a b (named_of c.read_heading-heading.result.name) (named_of c.read_heading-heading.result.source) (named_of c.read_heading-heading.result.target) c.requires.sound.keeps h.name h.source h.target c.new-found.result c.check_new.new.found c.read_map.new.found c.new-found.ensures c.check_new.ensures
    (c.in_ok-object.ensures.causes c.requires.sound.scope some_line.0 arrows c.requires.sound.keeps h.rest_is some_line.1)
    none.0

pub returns-in_ok-declare : goal.returns-in_ok-declare
returns-in_ok-declare c scope line n a b arrows keeps written last =
    let h = c.read_heading-heading.ensures n a b (arrows_signs arrows) written in
    let none = none_is c.read_map.new.found c.least.result c.least.ensures (λ f e. c.in_default.not-Some f e) in
    accepted scope line (mapping n a b arrows) c.read_map.new.found c.least.result _
    (map_least scope c.args.self.now line arrows n a b (named_of c.read_heading-heading.result.name) (named_of c.read_heading-heading.result.source) (named_of c.read_heading-heading.result.target) keeps h.name h.source h.target c.new-found.result c.check_new.new.found c.read_map.new.found c.new-found.ensures c.check_new.ensures
    (c.in_ok-object.ensures.causes scope line arrows keeps h.rest_is last))
    c.least.ensures none.1
    (map_after scope _ arrows n a b (named_of c.read_heading-heading.result.name) (named_of c.read_heading-heading.result.source) (named_of c.read_heading-heading.result.target) c.in-Some-object.object h.name h.source h.target
    (subst (λ (o : Option Object). IsMapOf scope arrows (named_of c.read_heading-heading.result.source) (named_of c.read_heading-heading.result.target) o) c.in-Some-object.is (c.in_ok-object.ensures.object scope arrows keeps h.rest_is))
    (c.in_ok-declare.ensures scope keeps))

pub returns-in_default-object : goal.returns-in_default-object
returns-in_default-object c scope line n a b arrows keeps written last =
    let h = c.read_heading-heading.ensures n a b (arrows_signs arrows) written in
    let none = none_is c.read_map.new.found c.least.result c.least.ensures (λ f e. c.in_default.not-Some f e) in
    absurd (map_there scope c.args.self.now line arrows n a b (named_of c.read_heading-heading.result.name) (named_of c.read_heading-heading.result.source) (named_of c.read_heading-heading.result.target) keeps h.name h.source h.target c.new-found.result c.check_new.new.found c.read_map.new.found c.new-found.ensures c.check_new.ensures
    (c.in_ok-object.ensures.causes scope line arrows keeps h.rest_is last)
    none.0
    (subst (λ (o : Option Object). IsMapOf scope arrows (named_of c.read_heading-heading.result.source) (named_of c.read_heading-heading.result.target) o) c.in_default-object.is (c.in_ok-object.ensures.object scope arrows keeps h.rest_is)))
