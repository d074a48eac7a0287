use Rattle.std.proofs.Common.{◌≡◌, ◌≤◌, length, take}
use Rattle.mg_words.specs.Reduction.{free_form}
use Rattle.mg_words.proofs.reduction.reduce.Given as goal

-- the letters before the place are in normal form
abbrev pub invariant-loop-x : goal.invariant-loop-x
invariant-loop-x l = record { done : l.reduced.letters ≡ free_form (take l.x-index l.letters); room : length l.letters ≤ l.reduced.capacity }
