use Rattle.std.proofs.Common.{◌++◌, ap, ◌∙◌}
use Rattle.std.specs.Prelude.{map}
use Rattle.mg_names.specs.Plan.{Plan}
use Rattle.mg_names.specs.Values.{step_of}
use Rattle.mg_names.specs.declared.plan.PlanStep.TheVariants.{Fund}
use Rattle.mg_session.specs.Built.{one_worker}
use Rattle.mg_session.proofs.Sessions.{going_begins, going_step, going_few, going_counted, going_next, going_done}
use Rattle.mg_session.proofs.Widening.{prints_widen}
use Rattle.mg_session.proofs.session.run_plan.Goals as goal

pub loop-step-init : goal.loop-step-init
loop-step-init g c =
    going_begins c.args.plan.now (g.P.Sizes.is_size c.args.policy.now) c.as_slice-steps.result.now _ _ (ap (map step_of) c.as_slice-steps.ensures ∙ ap (λ (p : Plan). p.steps) c.plan.view_is) c.new-session.ensures c.new-output.ensures

pub take_step-requires : goal.take_step-requires
take_step-requires g c = record {
  plan = c.requires.plan;
  policy = c.requires.policy;
  step = going_step c.args.plan.now (g.P.Sizes.is_size c.args.policy.now) c.as_slice-steps.result.now c.loop-step.step-index c.loop-step.session c.loop-step.output c.loop-step.invariant (Fund 0) c.requires.plan c.loop-step-test.true;
  ok = c.loop-step.invariant.ok;
  few = going_few c.args.plan.now (g.P.Sizes.is_size c.args.policy.now) c.as_slice-steps.result.now c.loop-step.step-index c.loop-step.session c.loop-step.output c.loop-step.invariant c.requires.plan c.loop-step-test.true;
  counted = going_counted c.args.plan.now (g.P.Sizes.is_size c.args.policy.now) c.as_slice-steps.result.now c.loop-step.step-index c.loop-step.session c.loop-step.output c.loop-step.invariant c.requires.plan c.loop-step-test.true;
}

pub loop-step-preserved : goal.loop-step-preserved
loop-step-preserved g c =
    going_next c.args.plan.now (g.P.Sizes.is_size c.args.policy.now) c.as_slice-steps.result.now c.loop-step.step-index c.loop-step.session c.loop-step.output c.loop-step.invariant _ c.in_ok-stepped.stepped.session c.in_ok-stepped.stepped.text.items c.extend_from_slice.new.self
    c.requires.plan c.loop-step-test.true c.in_ok-stepped.ensures (c.in_ok-extend_from_slice.ensures.ok ∙ ap (λ text. c.loop-step.output ++ text) c.as_slice.ensures.value)

pub returns : goal.returns
returns g c =
    prints_widen (one_worker (g.P.Sizes.is_size c.args.policy.now)) (record { workers = c.args._workers; IsSize = g.P.Sizes.is_size c.args.policy.now }) c.requires.workers (λ turns spent allowed units is. is) _ _
    (going_done _ _ _ _ _ _ c.loop-step.invariant c.loop-step-test.false)
