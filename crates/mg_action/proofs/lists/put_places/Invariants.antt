use Rattle.std.proofs.Common.{◌≡◌, length}
use Rattle.mg_action.specs.Layout.{PlacesUpTo}
use Rattle.mg_action.proofs.lists.put_places.Given as goal

-- the numbers so far have their places
abbrev pub invariant-loop-place : goal.invariant-loop-place
invariant-loop-place l =
    record {
      count : length l.out ≡ length l.list;
      places : PlacesUpTo l.place l.list l.out;
    }
