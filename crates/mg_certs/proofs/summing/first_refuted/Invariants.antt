use Rattle.std.proofs.Common.{◌≡◌, length}
use Rattle.mg_certs.specs.Claim.{residues}
use Rattle.mg_certs.proofs.Firsts.{RefutesNoneBelow}
use Rattle.mg_certs.proofs.summing.first_refuted.Given as goal

abbrev pub invariant-loop-goal : goal.invariant-loop-goal
invariant-loop-goal l = record {
  all : l.goal-end ≡ length l.ask.goals;
  none : RefutesNoneBelow l.ask (residues l.map) l.goal;
}
