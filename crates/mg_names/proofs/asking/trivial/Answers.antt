use Rattle.mg_names.specs.Name.{named_of}
use Rattle.mg_names.proofs.Askings.{trivial_read, trivial_unread, group_there}
use Rattle.mg_names.proofs.asking.trivial.Goals as goal

pub returns-in_default : goal.returns-in_default
returns-in_default c scope is = trivial_unread scope c.args.known.now is (named_of c.args.name) c.args.found.now c.group.new.found c.in_default.ensures.none c.group.ensures.causes

pub presentation-requires : goal.presentation-requires
presentation-requires c = group_there c.args.known.now c.requires.known c.args.name.text.now c.in-Some.place c.in-Some.ensures.some

pub returns : goal.returns
returns c scope is = trivial_read scope c.args.known.now is (named_of c.args.name) c.args.found.now c.group.new.found c.in-Some.place c.in_ok-group.group c.in-Some.ensures.some c.group.ensures.causes (c.in_ok-group.ensures scope is)
