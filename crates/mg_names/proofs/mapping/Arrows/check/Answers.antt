use Rattle.mg_names.proofs.Mappings.{lefts_checked}
use Rattle.mg_names.proofs.mapping.Arrows.check.Goals as goal

pub returns : goal.returns
returns c =
    lefts_checked c.args.source.now c.args.self.now.names c.as_slice.result.now c.as_slice-2.result.now c.args.close c.args.found.now c.check_generators.new.found c.check_twice.new.found c.check_all.new.found
    c.as_slice.ensures c.as_slice-2.ensures c.check_generators.ensures c.in_ok-check_twice.ensures c.check_all.ensures
