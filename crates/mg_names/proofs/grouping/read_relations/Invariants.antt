use Rattle.std.proofs.Common.{◌≡◌, ◌++◌, List, map, length}
use Rattle.mg_names.specs.Grouped.{EndsList}
use Rattle.mg_names.specs.Named.{Relation}
use Rattle.mg_names.specs.Sign.{Sign, relation_signs, listed}
use Rattle.mg_names.proofs.Groups.{AreRelationsUpTo}
use Rattle.mg_names.proofs.grouping.read_relations.Given as goal

abbrev pub invariant-loop-alloc : goal.invariant-loop-alloc
invariant-loop-alloc l =
    (rs : List Relation) (rest : List Sign) → l.fn.cursor ≡ listed (map relation_signs rs) ++ rest → EndsList rest → AreRelationsUpTo l.home rs rest l.fn.found l.relators l.cursor l.found

abbrev pub decreases-loop-alloc : goal.decreases-loop-alloc
decreases-loop-alloc l = length l.cursor
