use Rattle.std.proofs.Common.{◌≡◌, ◌++◌, List, ℕ, All, map}
use Rattle.std.specs.List.{concat}
use Rattle.std.specs.Slice.Iter.{chunks_exact_rest, chunks_exact_size}
use Rattle.mg_numbers.specs.Perms.{IsPerm}
use Rattle.mg_action.specs.Layout.{AreImages}
use Rattle.mg_certtext.specs.Pieces.{spaced, more_listed, Extends}
use Rattle.mg_certtext.specs.Models.{numbers_pieces}
use Rattle.mg_certtext.proofs.models.push_more_images.Given as goal

-- what is written, with the permutations that are left, is all of them
abbrev pub invariant-loop-perm : goal.invariant-loop-perm
invariant-loop-perm l =
    record {
      can_next : (goal.iterator-loop-perm).can_next l.perm-iterator;
      is_finite : (goal.iterator-loop-perm).is_finite l.perm-iterator;
      size : chunks_exact_size l.perm-iterator ≡ l.degree;
      left : List (List ℕ);
      each : All (IsPerm l.degree) left;
      rest : concat left ≡ chunks_exact_rest l.perm-iterator;
      done : (perms : List (List ℕ)) → AreImages l.degree perms l.images →
          l.out.items ++ spaced (more_listed (map numbers_pieces left)) ≡ l.fn.out.items ++ spaced (more_listed (map numbers_pieces perms));
      behind : Extends l.fn.out.items l.out.items;
    }
