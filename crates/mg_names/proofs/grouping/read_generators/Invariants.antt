use Rattle.std.proofs.Common.{◌≡◌, ◌++◌, List, map, length}
use Rattle.mg_names.specs.Grouped.{EndsList}
use Rattle.mg_names.specs.Named.{Named}
use Rattle.mg_names.specs.Sign.{Sign, generator_signs, listed}
use Rattle.mg_names.proofs.Groups.{AreGeneratorsUpTo}
use Rattle.mg_names.proofs.grouping.read_generators.Given as goal

abbrev pub invariant-loop-name : goal.invariant-loop-name
invariant-loop-name l =
    (ns : List Named) (rest : List Sign) → l.fn.cursor ≡ listed (map generator_signs ns) ++ rest → EndsList rest → AreGeneratorsUpTo ns rest l.fn.found l.names l.cursor l.found

abbrev pub decreases-loop-name : goal.decreases-loop-name
decreases-loop-name l = length l.cursor
