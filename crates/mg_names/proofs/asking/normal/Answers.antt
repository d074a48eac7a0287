use Rattle.std.proofs.Common.{◌∙◌, sym, ap, Some, List, ℤ}
use Rattle.mg_names.specs.Scope.{a_subgroup}
use Rattle.mg_names.specs.Name.{named_of}
use Rattle.mg_names.proofs.Askings.{normal_read, normal_unread, subgroup_there}
use Rattle.mg_names.proofs.asking.normal.Goals as goal

pub returns-in_default : goal.returns-in_default
returns-in_default c scope is = normal_unread scope c.args.known.now is (named_of c.args.name) c.args.found.now c.subgroup.new.found c.in_default.ensures.none c.subgroup.ensures.causes

pub presentation-requires : goal.presentation-requires
presentation-requires c = subgroup_there c.args.known.now c.requires.known c.args.name.text.now c.in-Some.subgroup.group c.in-Some.subgroup.words.now c.in-Some.ensures.some

pub returns : goal.returns
returns c scope is =
    normal_read scope c.args.known.now is (named_of c.args.name) c.args.found.now c.subgroup.new.found c.in-Some.subgroup.group c.in_ok-words.words c.in_ok-group.group
    (c.in-Some.ensures.some ∙ ap (λ (ws : List (List ℤ)). Some (a_subgroup c.in-Some.subgroup.group ws)) (sym c.in_ok-words.ensures))
    c.subgroup.ensures.causes (c.in_ok-group.ensures scope is)
