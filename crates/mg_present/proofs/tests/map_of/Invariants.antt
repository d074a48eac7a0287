use Rattle.std.proofs.Common.{◌≤◌, length}
use Rattle.std.specs.List.{AllByRecursion}
use Rattle.mg_present.specs.declared.gen_map.TheConstants.{MOST_MAPPED_LETTERS}
use Rattle.mg_present.proofs.tests.map_of.Given as goal

abbrev pub invariant-loop-list : goal.invariant-loop-list
invariant-loop-list l = AllByRecursion (λ image. length image ≤ MOST_MAPPED_LETTERS) l.images
