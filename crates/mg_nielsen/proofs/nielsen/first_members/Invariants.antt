use Rattle.std.proofs.Common.{◌≡◌, ◌+◌, ◌++◌, drop}
use Rattle.mg_nielsen.specs.Turn.{first_members}
use Rattle.mg_nielsen.proofs.nielsen.first_members.Given as goal

-- the words from the place on are still to come
abbrev pub invariant-loop-place : goal.invariant-loop-place
invariant-loop-place l = l.members.items ++ first_members (l.place + 1) (drop l.place l.words) ≡ first_members 1 l.words
