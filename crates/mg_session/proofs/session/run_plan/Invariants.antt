use Rattle.mg_session.proofs.Sessions.{Going}
use Rattle.mg_session.proofs.session.run_plan.Given as goal

abbrev pub invariant-loop-step : goal.invariant-loop-step
invariant-loop-step g l = Going l.plan (g.P.Sizes.is_size l.policy) l.steps l.step-index l.session l.output
