use Rattle.std.proofs.Common.{◌∙◌, sym, ap, Some, List, ℤ}
use Rattle.mg_names.specs.Scope.{a_map}
use Rattle.mg_names.specs.Name.{named_of}
use Rattle.mg_names.proofs.Askings.{onto_read, onto_unread, target_there}
use Rattle.mg_names.proofs.asking.onto.Goals as goal

pub returns-in_default : goal.returns-in_default
returns-in_default c scope is = onto_unread scope c.args.known.now is (named_of c.args.name) c.args.found.now c.mapping.new.found c.in_default.ensures.none c.mapping.ensures.causes

pub presentation-requires : goal.presentation-requires
presentation-requires c = target_there c.args.known.now c.requires.known c.args.name.text.now c.in-Some.mapping.source c.in-Some.mapping.target c.in-Some.mapping.map.now c.in-Some.ensures.some

pub returns : goal.returns
returns c scope is =
    onto_read scope c.args.known.now is (named_of c.args.name) c.args.found.now c.mapping.new.found c.in-Some.mapping.source c.in-Some.mapping.target c.in_ok-map.map c.in_ok-target.target
    (c.in-Some.ensures.some ∙ ap (λ (ws : List (List ℤ)). Some (a_map c.in-Some.mapping.source c.in-Some.mapping.target ws)) (sym c.in_ok-map.ensures))
    c.mapping.ensures.causes (c.in_ok-target.ensures scope is)
