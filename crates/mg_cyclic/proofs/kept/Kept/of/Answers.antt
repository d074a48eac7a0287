use Rattle.std.proofs.Common.{refl}
use Rattle.mg_cyclic.proofs.Raises.{kept_nothing}
use Rattle.mg_cyclic.proofs.kept.Kept.of.Goals as goal

pub returns : goal.returns
returns c = kept_nothing 2 c.args.generators c.args.word.now _ c.requires.few c.requires.over c.of-tally.ensures.tallies c.of-tally.ensures.tally c.reach_of.ensures c.steps_at-steps.ensures refl
