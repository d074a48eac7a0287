use Rattle.std.proofs.Common.{◌≡◌, ℕ, List, take, nat_eq, Bor}
use Rattle.std.specs.Prelude.{map}
use Rattle.std.specs.Cmp.Lexicographic.{pointwise}
use Rattle.indexmap.specs.IndexSet.{contains}
use Rattle.mg_names.specs.Cause.{is_among, twice}
use Rattle.mg_names.specs.Least.{Gets}
use Rattle.mg_names.specs.Meaning.{texts}
use Rattle.mg_names.specs.Name.{named_of}
use Rattle.mg_names.proofs.mapping.check_twice.Given as goal

-- the texts of the names so far are kept, and their causes shown
abbrev pub invariant-loop-name : goal.invariant-loop-name
invariant-loop-name l =
    Gets (twice (map named_of (take l.name-index l.names))) l.fn.found l.found
    × ((text : Bor (List ℕ)) → contains (λ a b. pointwise nat_eq a.now b.now) l.earlier text ≡ is_among (texts (map named_of (take l.name-index l.names))) text.now)
