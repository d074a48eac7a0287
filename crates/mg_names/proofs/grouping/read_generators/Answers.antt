use Rattle.std.proofs.Common.{◌≡◌, suc, ap, length, arith}
use Rattle.mg_names.specs.Name.{named_of}
use Rattle.mg_names.proofs.Groups.{no_generators, generator_added, generators_read}
use Rattle.mg_names.proofs.grouping.read_generators.Goals as goal

pub loop-name-init : goal.loop-name-init
loop-name-init c ns rest e ends = no_generators ns rest c.args.found.now c.args.cursor.now c.new-names.result c.new-names.ensures e

pub loop-name-smaller : goal.loop-name-smaller
loop-name-smaller c =
    let one : length c.loop-name.cursor ≡ suc (length c.take_name.new.self) = ap length c.in-Some.ensures.some in
    let two = c.skip_comma.ensures.no_longer in
    omega (arith, one, two)

pub loop-name-preserved : goal.loop-name-preserved
loop-name-preserved c ns rest e ends =
    generator_added ns rest c.args.found.now c.loop-name.found c.add_generator.new.found c.loop-name.names c.add_generator.new.names c.loop-name.cursor c.take_name.new.self c.skip_comma.new.cursor (named_of c.in-Some.name)
    (c.loop-name.invariant ns rest e ends) ends c.in-Some.ensures.some c.skip_comma.ensures.skipped c.in_ok-add_generator.ensures.names c.in_ok-add_generator.ensures.causes

pub returns : goal.returns
returns c ns rest e ends =
    generators_read ns rest c.args.found.now c.loop-name.found c.loop-name.names c.loop-name.cursor c.take_name.new.self (c.loop-name.invariant ns rest e ends) c.in_default.ensures.none.0 c.in_default.ensures.none.1
