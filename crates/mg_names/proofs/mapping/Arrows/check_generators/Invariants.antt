use Rattle.std.proofs.Common.{take}
use Rattle.std.specs.Prelude.{map}
use Rattle.std.specs.List.{flat_map}
use Rattle.mg_names.specs.Cause.{not_a_letter}
use Rattle.mg_names.specs.Least.{Gets}
use Rattle.mg_names.specs.Name.{named_of}
use Rattle.mg_names.proofs.mapping.Arrows.check_generators.Given as goal

abbrev pub invariant-loop-name : goal.invariant-loop-name
invariant-loop-name l = Gets (flat_map (not_a_letter l.source.names.now l.source.generators.now) (map named_of (take l.name-index l.self.names))) l.fn.found l.found
