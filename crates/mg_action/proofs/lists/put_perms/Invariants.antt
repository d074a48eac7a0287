use Rattle.std.proofs.Common.{◌≡◌, ◌+◌, ◌*◌, ◌≤◌, ℕ, List, length, take, vec_capacity}
use Rattle.std.specs.List.{AllZip, concat}
use Rattle.mg_numbers.specs.Blocks.{Earlier, IsNth}
use Rattle.mg_numbers.specs.Perms.{IsPerm}
use Rattle.mg_action.proofs.lists.put_perms.Given as goal

-- the permutations at the places so far stand in the list
abbrev pub invariant-loop-place : goal.invariant-loop-place
invariant-loop-place l =
    record {
      perms : List (List ℕ);
      joined : concat perms ≡ l.list.items;
      each : AllZip (λ place perm. IsNth (IsPerm l.degree) Earlier (place + 1) perm) (take l.place-index l.places) perms;
      count : length l.list.items ≡ l.place-index * l.degree;
      capacity : vec_capacity l.fn.list ≤ vec_capacity l.list;
    }
