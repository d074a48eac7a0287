use Rattle.std.proofs.Common.{◌∙◌, ◌<◌, sym, subst, [], append-nil, length, List}
use Rattle.mg_names.specs.Name.{named_of}
use Rattle.mg_names.specs.Plan.{PlanGroup}
use Rattle.mg_names.specs.Sign.{word_signs}
use Rattle.mg_names.proofs.Askings.{word_read}
use Rattle.mg_names.proofs.Declarations.{word_unread, word_declared, group_within}
use Rattle.mg_names.proofs.resolver.Resolver.word_object.Goals as goal

pub returns-in_default : goal.returns-in_default
returns-in_default c scope w keeps written =
    word_unread scope c.args.self.now.names (named_of c.args.name) (named_of c.args.group) w c.args.found.now c.check_new.new.found c.group.new.found keeps.names c.check_new.ensures c.group.ensures.causes c.in_default.ensures.none

pub word-requires : goal.word-requires
word-requires c = record {
  word = c.requires.ahead.0;
  rest = [];
  written = c.requires.ahead.1 ∙ sym (append-nil (word_signs c.requires.ahead.0));
  stops = tt;
  bounded = c.requires.ahead.2;
}

pub returns : goal.returns
returns c scope w keeps written =
    let whole = written ∙ sym (append-nil (word_signs w)) in
    let read = word_read scope c.in-Some.place c.home-home.result w c.group.new.found c.word.new.found c.in_ok-word.word (c.home-home.ensures scope (c.known-known.ensures.known scope keeps))
    (c.in_ok-word.ensures.letters w [] whole tt) (c.in_ok-word.ensures.causes w [] whole tt) in
    word_declared scope c.args.self.now.names (named_of c.args.name) (named_of c.args.group) w c.in-Some.place c.in_ok-word.word c.args.found.now c.check_new.new.found c.group.new.found c.word.new.found keeps.names
    c.in-Some.ensures.some c.check_new.ensures c.group.ensures.causes read.causes read.letters

pub home-home-requires-clause-place : goal.home-home-requires-clause-place
home-home-requires-clause-place c =
    subst (λ (gs : List PlanGroup). c.in-Some.place < length gs) (sym c.known-known.ensures.groups) (group_within c.args.self.now c.requires.sound c.args.group.text.now c.in-Some.place c.in-Some.ensures.some)
