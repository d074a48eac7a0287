use Rattle.std.proofs.Common.{◌≡◌, ◌∙◌, ℤ, List, Option, IfOk, subst}
use Rattle.std.specs.Prelude.{map}
use Rattle.mg_names.specs.declared.cursor.Name.{Name}
use Rattle.mg_names.specs.declared.home.Home.{Home}
use Rattle.mg_names.specs.Cause.{in_mapping, twice}
use Rattle.mg_names.specs.Least.{Gets}
use Rattle.mg_names.specs.Mapped.{IsHomeOf}
use Rattle.mg_names.specs.Name.{named_of}
use Rattle.mg_names.proofs.Mappings.{always, known_source, unknown_source, images_are, values_are}
use Rattle.mg_names.proofs.resolver.Resolver.images.Goals as goal

pub returns-in-Some-clause-causes : goal.returns-in-Some-clause-causes
returns-in-Some-clause-causes c scope line all from to keeps e last sf st =
    let r = c.in_ok-arrows.ensures all e in
    always c.in_order.result (Gets (in_mapping scope line all from to) c.args.found.now c.check.new.found)
    (known_source scope line all from to c.args.source c.args.target c.in-Some.home c.home_of-target.result (map named_of c.in_ok-arrows.arrows.names) c.args.close c.args.found.now c.read_arrows.new.found c.check.new.found sf
    (subst (λ (h : Option Home). IsHomeOf scope c.args.source h) c.in-Some.is (c.home_of.ensures scope keeps)) st (c.home_of-target.ensures scope keeps) r.names last r.causes c.in_ok-check-in-Some.ensures)

pub returns-in-Some-clause-images : goal.returns-in-Some-clause-images
returns-in-Some-clause-images c scope all s t keeps e es et =
    let r = c.in_ok-arrows.ensures all e in
    subst (λ (ws : List (List ℤ)). IfOk c.in_order.result (λ words. words ≡ ws))
    (images_are scope s t c.args.source c.in-Some.home all c.as_slice.result.now es (subst (λ (h : Option Home). IsHomeOf scope c.args.source h) c.in-Some.is (c.home_of.ensures scope keeps)) c.as_slice.ensures)
    (c.in_order.ensures scope t all r.names (r.images ∙ values_are scope t c.args.target c.home_of-target.result all et (c.home_of-target.ensures scope keeps)))

pub returns-clause-causes : goal.returns-clause-causes
returns-clause-causes c scope line all from to keeps e last sf st =
    let r = c.in_ok-arrows.ensures all e in
    unknown_source scope line all from to c.args.source c.args.target c.home_of-target.result (map named_of c.in_ok-arrows.arrows.names) c.args.found.now c.read_arrows.new.found c.check_twice.new.found sf
    (subst (λ (h : Option Home). IsHomeOf scope c.args.source h) c.in-None.is (c.home_of.ensures scope keeps)) st (c.home_of-target.ensures scope keeps) r.names r.causes
    (subst (λ (ns : List Name). Gets (twice (map named_of ns)) c.read_arrows.new.found c.check_twice.new.found) c.as_slice-in-None.ensures c.in_ok-check_twice-in-None.ensures)
