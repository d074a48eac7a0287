use Rattle.std.proofs.Common.{subst}
use Rattle.mg_complete.specs.Completion.{IsKept}
use Rattle.mg_complete.proofs.Turning.{held_kept}
use Rattle.mg_complete.proofs.completion.Completion.spent.Goals as goal

pub returns-in-None-clause-kept : goal.returns-in-None-clause-kept
returns-in-None-clause-kept c =
    subst IsKept c.self.view_is (held_kept c.self.inside.ask c.self.inside.work c.self.inside.is_open c.self.inside.begun c.group.ensures.fits c.self.invariant)
