use Rattle.std.proofs.Common.{arith}
use Rattle.mg_nielsen.proofs.Choosing.{gains_next}
use Rattle.mg_nielsen.proofs.choice.best_of_member.Goals as goal

pub loop-number-preserved : goal.loop-number-preserved
loop-number-preserved c = record {
  best = c.best_by-best.ensures.best;
  no_less = omega arith;
  all = gains_next c.args.members.now c.loop-number.best.letters c.best_by-best.result.letters c.args.place c.loop-number.number c.loop-number.invariant.all c.best_by-best.ensures.no_less c.best_by-best.ensures.all;
}
