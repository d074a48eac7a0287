use Rattle.std.proofs.Common.{length}
use Rattle.mg_names.specs.Grouped.{group_signs}
use Rattle.mg_names.specs.Meaning.{relations_in}
use Rattle.mg_names.specs.Name.{named_of}
use Rattle.mg_names.specs.Named.{group}
use Rattle.mg_names.specs.Scope.{lookup}
use Rattle.mg_names.proofs.Causes.{refused, accepted, none_is, found_none}
use Rattle.mg_names.proofs.Groups.{behind_name, group_causes, group_gets, group_least, group_fits, group_after, not_taken, other_causes}
use Rattle.mg_names.proofs.resolver.Resolver.group.Goals as goal

pub name-name-requires : goal.name-name-requires
name-name-requires c = (c.requires.ahead.0, group_signs c.requires.ahead.1 c.requires.ahead.2, c.requires.ahead.3)

pub read_parts-requires-clause-ahead : goal.read_parts-requires-clause-ahead
read_parts-requires-clause-ahead c =
    let a = c.requires.ahead in
    record {
      generators = a.1;
      relations = a.2;
      written = (behind_name c.args.cursor.now c.name-name.new.self a.0 (named_of c.name-name.result) a.1 a.2 c.name-name.ensures a.3).1;
      sized = a.4;
    }

pub returns-in-Some : goal.returns-in-Some
returns-in-Some c scope line n generators rs keeps e =
    let h = behind_name c.args.cursor.now c.name-name.new.self n (named_of c.name-name.result) generators rs c.name-name.ensures e in
    let read = c.in_ok-parts.ensures generators rs h.1 in
    let gets = group_gets c.args.self.now.names (length c.args.self.now.plan.groups) (named_of c.name-name.result) generators (relations_in rs) c.check_new.new.found c.read_parts.new.found c.in_ok-parts.parts c.new-found.result
    c.new-found.ensures c.check_new.ensures read in
    refused scope line (group n generators rs) c.read_parts.new.found c.least.result c.in-Some.fault _
    (group_least scope c.args.self.now line n (named_of c.name-name.result) generators rs c.read_parts.new.found keeps h.0 gets) c.least.ensures c.in-Some.is

pub declare_group-requires-clause-new : goal.declare_group-requires-clause-new
declare_group-requires-clause-new c =
    let a = c.requires.ahead in
    let h = behind_name c.args.cursor.now c.name-name.new.self a.0 (named_of c.name-name.result) a.1 a.2 c.name-name.ensures a.3 in
    let read = c.in_ok-parts.ensures a.1 a.2 h.1 in
    let gets = group_gets c.args.self.now.names (length c.args.self.now.plan.groups) (named_of c.name-name.result) a.1 (relations_in a.2) c.check_new.new.found c.read_parts.new.found c.in_ok-parts.parts c.new-found.result
    c.new-found.ensures c.check_new.ensures read in
    let none = none_is c.read_parts.new.found c.least.result c.least.ensures (λ f e. c.in_default.not-Some f e) in
    not_taken (named_of c.name-name.result) (lookup c.args.self.now.names c.name-name.result.text.now) (other_causes c.args.self.now.names (length c.args.self.now.plan.groups) a.1 (relations_in a.2))
    (found_none (group_causes c.args.self.now.names (length c.args.self.now.plan.groups) (named_of c.name-name.result) a.1 (relations_in a.2)) c.read_parts.new.found gets none.0)

pub declare_group-requires-clause-fits : goal.declare_group-requires-clause-fits
declare_group-requires-clause-fits c =
    let a = c.requires.ahead in
    let h = behind_name c.args.cursor.now c.name-name.new.self a.0 (named_of c.name-name.result) a.1 a.2 c.name-name.ensures a.3 in
    group_fits c.args.self.now c.requires.sound a.0 a.1 a.2 c.check_new.new.found c.read_parts.new.found c.in_ok-parts.parts a.4 (c.in_ok-parts.ensures a.1 a.2 h.1)

pub returns : goal.returns
returns c scope line n generators rs keeps e =
    let h = behind_name c.args.cursor.now c.name-name.new.self n (named_of c.name-name.result) generators rs c.name-name.ensures e in
    let read = c.in_ok-parts.ensures generators rs h.1 in
    let gets = group_gets c.args.self.now.names (length c.args.self.now.plan.groups) (named_of c.name-name.result) generators (relations_in rs) c.check_new.new.found c.read_parts.new.found c.in_ok-parts.parts c.new-found.result
    c.new-found.ensures c.check_new.ensures read in
    let none = none_is c.read_parts.new.found c.least.result c.least.ensures (λ f e. c.in_default.not-Some f e) in
    accepted scope line (group n generators rs) c.read_parts.new.found c.least.result _
    (group_least scope c.args.self.now line n (named_of c.name-name.result) generators rs c.read_parts.new.found keeps h.0 gets) c.least.ensures none.1
    (group_after scope c.args.self.now _ n (named_of c.name-name.result) generators rs c.check_new.new.found c.read_parts.new.found c.in_ok-parts.parts keeps h.0 read (c.in_ok-declare_group.ensures scope keeps))
