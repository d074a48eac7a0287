use Rattle.std.proofs.Common.{length, List, subst, ap, arith, ◌≤◌}
use Rattle.std.proofs.lemmas.List.{take_all}
use Rattle.std.specs.Prelude.{map}
use Rattle.std.specs.List.{flat_map}
use Rattle.mg_names.specs.declared.cursor.Name.{Name}
use Rattle.mg_names.specs.Cause.{not_a_letter}
use Rattle.mg_names.specs.Least.{Gets}
use Rattle.mg_names.specs.Name.{named_of}
use Rattle.mg_names.proofs.Mappings.{generators_at}
use Rattle.mg_names.proofs.mapping.Arrows.check_generators.Goals as goal

pub loop-name-preserved : goal.loop-name-preserved
loop-name-preserved c =
    generators_at (not_a_letter c.args.source.now.names.now c.args.source.now.generators.now) c.args.self.now.names c.as_slice-name-items.result.now c.loop-name.name-index _ c.args.found.now c.loop-name.found c.check_generator.new.found
    c.as_slice-name-items.ensures c.loop-name-test.true c.loop-name.invariant c.check_generator.ensures

pub returns : goal.returns
returns c =
    let end : length c.args.self.now.names ≤ c.loop-name.name-index = omega (arith, c.loop-name-test.false, ap length c.as_slice-name-items.ensures) in
    subst (λ (ns : List Name). Gets (flat_map (not_a_letter c.args.source.now.names.now c.args.source.now.generators.now) (map named_of ns)) c.args.found.now c.loop-name.found)
    (take_all c.loop-name.name-index c.args.self.now.names end) c.loop-name.invariant
