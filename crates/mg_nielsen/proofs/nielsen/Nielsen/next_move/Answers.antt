use Rattle.std.proofs.Common.{refl}
use Rattle.mg_nielsen.proofs.Running.{held_reduced, held_rests_reduced, nothing_found}
use Rattle.mg_nielsen.proofs.nielsen.Nielsen.next_move.Goals as goal

pub first_peeling-requires-clause-members : goal.first_peeling-requires-clause-members
first_peeling-requires-clause-members c = held_reduced _ c.self.inside.held c.deref.result.now c.self.invariant c.deref.ensures.value

pub first_peeling-requires-clause-rests : goal.first_peeling-requires-clause-rests
first_peeling-requires-clause-rests c = held_rests_reduced _ c.self.inside.held c.deref-2.result.now c.self.invariant c.deref-2.ensures.value

pub best_step-requires : goal.best_step-requires
best_step-requires c = held_reduced _ c.self.inside.held c.deref-in-None.result.now c.self.invariant c.deref-in-None.ensures.value

pub returns-in-None-best_step-clause-none : goal.returns-in-None-best_step-clause-none
returns-in-None-best_step-clause-none c none =
    nothing_found _ c.args.self.now c.self.view_is c.deref.result.now c.deref-in-None.result.now c.deref-2.result.now c.deref.ensures.value c.deref-2.ensures.value c.deref-in-None.ensures.value
    (c.in-None.ensures.none refl) (c.in-None-best_step.ensures.none refl)
