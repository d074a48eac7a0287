use Rattle.mg_rulelog.proofs.Following.{FollowBelow}
use Rattle.mg_rulelog.proofs.checker.all_follow.Given as goal

-- the rules before the place follow from the rules before them
abbrev pub invariant-loop-place : goal.invariant-loop-place
invariant-loop-place l = FollowBelow l.group l.rules l.place
