use Rattle.mg_nielsen.proofs.Choosing.{none_gained}
use Rattle.mg_nielsen.proofs.choice.best_step.Goals as goal

pub returns-clause-none : goal.returns-clause-none
returns-clause-none c none =
    none_gained c.args.members.now c.loop-place.best.letters c.loop-place.place c.loop-place.best.by c.loop-place.invariant.best none c.loop-place-test.false c.loop-place.invariant.all
