use Rattle.mg_nielsen.proofs.Choosing.{none_left}
use Rattle.mg_nielsen.proofs.choice.best_peeling.Goals as goal

pub returns-clause-none : goal.returns-clause-none
returns-clause-none c none =
    none_left c.args.members.now c.args.rest.now c.loop-first.best.left c.loop-first.first c.loop-first.best.by c.loop-first.invariant.best none c.loop-first-test.false c.loop-first.invariant.one c.loop-first.invariant.two
