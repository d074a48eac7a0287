use Rattle.std.proofs.Common.{◌≡◌, ◌↔◌, ◌%◌, length}
use Rattle.std.specs.Slice.Iter.{chunks_exact_rest, chunks_exact_size}
use Rattle.mg_action.proofs.Rows.{Whole}
use Rattle.mg_action.proofs.lists.are_perms.Given as goal

-- whether all are permutations depends on those that are left
abbrev pub invariant-loop-perm : goal.invariant-loop-perm
invariant-loop-perm l =
    record {
      can_next : (goal.iterator-loop-perm).can_next l.perm-iterator;
      is_finite : (goal.iterator-loop-perm).is_finite l.perm-iterator;
      size : chunks_exact_size l.perm-iterator ≡ l.degree;
      fits : length l.places ≡ l.degree;
      whole : length (chunks_exact_rest l.perm-iterator) % l.degree ≡ 0;
      same : Whole l.degree (chunks_exact_rest l.perm-iterator) ↔ Whole l.degree l.images;
    }
