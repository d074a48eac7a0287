use Rattle.std.proofs.Common.{◌≡◌, ◌++◌, ◌+◌, ◌≤◌, List, ℕ, All, length, map, vec_capacity}
use Rattle.std.specs.List.{concat}
use Rattle.std.specs.Slice.Iter.{chunks_exact_rest, chunks_exact_size}
use Rattle.mg_numbers.specs.Perms.{IsPerm}
use Rattle.mg_action.specs.Permutation.{inverse_of}
use Rattle.mg_action.specs.Layout.{AreImages}
use Rattle.mg_action.proofs.lists.put_inverses.Given as goal

-- with the inverses of the permutations that are left, all inverses stand in the list
abbrev pub invariant-loop-perm : goal.invariant-loop-perm
invariant-loop-perm l =
    record {
      can_next : (goal.iterator-loop-perm).can_next l.perm-iterator;
      is_finite : (goal.iterator-loop-perm).is_finite l.perm-iterator;
      size : chunks_exact_size l.perm-iterator ≡ l.degree;
      left : List (List ℕ);
      each : All (IsPerm l.degree) left;
      rest : concat left ≡ chunks_exact_rest l.perm-iterator;
      done : (perms : List (List ℕ)) → AreImages l.degree perms l.perms → l.list.items ++ concat (map inverse_of left) ≡ concat (map inverse_of perms);
      room : length l.list.items + length (chunks_exact_rest l.perm-iterator) ≤ vec_capacity l.list;
      capacity : vec_capacity l.fn.list ≤ vec_capacity l.list;
    }
