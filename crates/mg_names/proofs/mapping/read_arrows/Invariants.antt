use Rattle.std.proofs.Common.{◌≡◌, List, length}
use Rattle.mg_names.specs.Mapped.{arrows_signs}
use Rattle.mg_names.specs.Named.{Arrow}
use Rattle.mg_names.proofs.Mappings.{IsReadUpTo}
use Rattle.mg_names.proofs.mapping.read_arrows.Given as goal

abbrev pub invariant-loop-alloc : goal.invariant-loop-alloc
invariant-loop-alloc l = (all : List Arrow) → l.fn.cursor ≡ arrows_signs all → IsReadUpTo l.target all l.fn.found l.cursor l.arrows l.found

abbrev pub decreases-loop-alloc : goal.decreases-loop-alloc
decreases-loop-alloc l = length l.cursor
