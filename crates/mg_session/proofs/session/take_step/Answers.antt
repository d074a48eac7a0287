use Rattle.std.proofs.Common.{refl}
use Rattle.mg_names.specs.declared.plan.PlanStep.TheVariants.{Fund, Grant, Cancel, Report, ReportFacts}
use Rattle.mg_session.proofs.Sessions.{stepped}
use Rattle.mg_session.proofs.session.take_step.Goals as goal

pub returns-in_ok-text-in-Fund : goal.returns-in_ok-text-in-Fund
returns-in_ok-text-in-Fund g c =
    stepped c.args.plan.now (g.P.Sizes.is_size c.args.policy.now) c.args.step (Fund c.in-Fund.units) c.args.session _ _ c.in-Fund.is (c.in_ok-text-in-Fund.ensures.after c.args.plan.now) (c.in_ok-text-in-Fund.ensures.text c.args.plan.now)

pub returns-in_ok-text-in-Grant : goal.returns-in_ok-text-in-Grant
returns-in_ok-text-in-Grant g c =
    stepped c.args.plan.now (g.P.Sizes.is_size c.args.policy.now) c.args.step (Grant c.in-Grant.question c.in-Grant.procedure c.in-Grant.units) c.args.session _ _ c.in-Grant.is c.in_ok-text-in-Grant.ensures.after c.in_ok-text-in-Grant.ensures.text

pub returns-in_ok-text-in-Cancel : goal.returns-in_ok-text-in-Cancel
returns-in_ok-text-in-Cancel g c =
    stepped c.args.plan.now (g.P.Sizes.is_size c.args.policy.now) c.args.step (Cancel c.in-Cancel.question c.in-Cancel.procedure) c.args.session _ _ c.in-Cancel.is (c.in_ok-text-in-Cancel.ensures.after c.args.plan.now) (c.in_ok-text-in-Cancel.ensures.text c.args.plan.now)

pub returns-in_ok-text-in-ReportFacts : goal.returns-in_ok-text-in-ReportFacts
returns-in_ok-text-in-ReportFacts g c = stepped c.args.plan.now (g.P.Sizes.is_size c.args.policy.now) c.args.step ReportFacts c.args.session c.args.session _ c.in-ReportFacts.is refl (c.in_ok-text-in-ReportFacts.ensures c.args.plan.now)

pub returns-in_ok-text-in-Report : goal.returns-in_ok-text-in-Report
returns-in_ok-text-in-Report g c = stepped c.args.plan.now (g.P.Sizes.is_size c.args.policy.now) c.args.step (Report c.in-Report.questions) c.args.session c.args.session _ c.in-Report.is refl c.in_ok-text-in-Report.ensures
