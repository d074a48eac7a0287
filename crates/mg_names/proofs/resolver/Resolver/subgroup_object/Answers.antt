use Rattle.std.proofs.Common.{◌≡◌, ◌<◌, sym, subst, length, List, map}
use Rattle.std.specs.List.{flat_map}
use Rattle.mg_names.specs.Cause.{in_word}
use Rattle.mg_names.specs.Least.{Gets}
use Rattle.mg_names.specs.Meaning.{value}
use Rattle.mg_names.specs.Name.{named_of}
use Rattle.mg_names.specs.Plan.{PlanGroup}
use Rattle.mg_names.proofs.Declarations.{subgroup_unread, subgroup_declared, group_within, carried}
use Rattle.mg_names.proofs.resolver.Resolver.subgroup_object.Goals as goal

pub returns-in_default : goal.returns-in_default
returns-in_default c scope ws keeps written =
    subgroup_unread scope c.args.self.now.names (named_of c.args.name) (named_of c.args.group) ws c.args.found.now c.check_new.new.found c.group.new.found keeps.names c.check_new.ensures c.group.ensures.causes c.in_default.ensures.none

pub home-home-requires-clause-place : goal.home-home-requires-clause-place
home-home-requires-clause-place c =
    subst (λ (gs : List PlanGroup). c.in-Some.place < length gs) (sym c.known-known.ensures.groups) (group_within c.args.self.now c.requires.sound c.args.group.text.now c.in-Some.place c.in-Some.ensures.some)

pub returns : goal.returns
returns c scope ws keeps written =
    let home = c.home-home.ensures scope (c.known-known.ensures.known scope keeps) in
    subgroup_declared scope c.args.self.now.names (named_of c.args.name) (named_of c.args.group) ws c.in-Some.place c.in_ok-words.words c.args.found.now c.check_new.new.found c.group.new.found c.read_words.new.found keeps.names
    c.in-Some.ensures.some c.check_new.ensures c.group.ensures.causes
    (carried (λ ds k gs. Gets (flat_map (in_word ds k gs) ws) c.group.new.found c.read_words.new.found) scope c.in-Some.place c.home-home.result home (c.in_ok-words.ensures.causes ws written))
    (carried (λ ds k gs. c.in_ok-words.words ≡ map (value ds k gs) ws) scope c.in-Some.place c.home-home.result home (c.in_ok-words.ensures.letters ws written))
