use Rattle.std.proofs.Common.{refl}
use Rattle.mg_nielsen.proofs.Choosing.{no_goal_next}
use Rattle.mg_nielsen.proofs.choice.first_peeling.Goals as goal

pub loop-goal-preserved : goal.loop-goal-preserved
loop-goal-preserved c =
    no_goal_next c.args.members.now c.args.rests.now c.loop-goal.goal c.index-rests-goal.result c.letters.result.now c.loop-goal-test.true c.index-rests-goal.is c.letters.ensures c.loop-goal.invariant (c.in-None.ensures.none refl)
