use Rattle.std.proofs.Common.{◌≡◌, drop}
use Rattle.std.specs.Prelude.{map}
use Rattle.mg_names.specs.Cause.{has_all}
use Rattle.mg_names.specs.Meaning.{texts}
use Rattle.mg_names.specs.Name.{named_of}
use Rattle.mg_names.proofs.mapping.has_all.Given as goal

abbrev pub invariant-loop-generator : goal.invariant-loop-generator
invariant-loop-generator l = has_all (texts (map named_of l.names)) (drop l.generator-index l.generators) ≡ has_all (texts (map named_of l.names)) l.generators
