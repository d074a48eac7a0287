use Rattle.std.proofs.Common.{◌≡◌, length}
use Rattle.mg_certs.specs.Claim.{complete}
use Rattle.mg_certs.proofs.Firsts.{RefutesNoneBelow}
use Rattle.mg_certs.proofs.descending.first_refuted.Given as goal

abbrev pub invariant-loop-goal : goal.invariant-loop-goal
invariant-loop-goal l = record {
  all : l.goal-end ≡ length l.ask.goals;
  none : RefutesNoneBelow l.ask (complete l.rules) l.goal;
}
