use Rattle.std.proofs.Common.{◌≡◌, ◌+◌, ◌≤◌, ◌++◌, length, take, map, neg_ℤ}
use Rattle.mg_words.specs.Reduction.{free_form}
use Rattle.mg_words.proofs.reduction.freely_equal.Given as goal

-- the letters of the first word before the place are in normal form
abbrev pub invariant-loop-x : goal.invariant-loop-x
invariant-loop-x l = record { done : l.scratch.letters ≡ free_form (take l.x-index l.u.letters); room : length l.u.letters + length l.v.letters ≤ l.scratch.capacity; kept : l.fn.scratch.capacity ≤ l.scratch.capacity }

-- and times the inverses of the second's last letters
abbrev pub invariant-loop-y : goal.invariant-loop-y
invariant-loop-y l = record { can : (goal.iterator-loop-y).can_next l.y-iterator; finite : (goal.iterator-loop-y).is_finite l.y-iterator; done : l.scratch.letters ≡ free_form (l.u.letters ++ map neg_ℤ (map (λ y. y.now) l.yielded)); room : length l.u.letters + length l.v.letters ≤ l.scratch.capacity; kept : l.fn.scratch.capacity ≤ l.scratch.capacity }
