use Rattle.std.proofs.Common.{◌≡◌, ◌<◌, slice_index, drop}
use Rattle.mg_action.specs.Action.{perm_of_word}
use Rattle.mg_action.proofs.action.Action.image.Given as goal

-- the letters that are left take the image so far to that of the point
abbrev pub invariant-loop-place : goal.invariant-loop-place
invariant-loop-place l =
    record {
      below : l.image < l.self.degree;
      rest : slice_index (perm_of_word l.self (drop l.place l.word)) l.image ≡ slice_index (perm_of_word l.self l.word) l.fn.point;
    }
