use Rattle.std.proofs.Common.{◌≡◌, ◌≤◌, ap, ◌∙◌, inl, arith}
use Rattle.mg_session.specs.State.{State}
use Rattle.mg_session.proofs.Moving.{grants}
use Rattle.mg_session.proofs.state.Session.grant.Goals as goal

pub returns-clause-after : goal.returns-clause-after
returns-clause-after c =
    let purse : c.purse-purse.result ≡ c.args.self.now.purse = c.purse-purse.ensures.value ∙ ap (λ (s : State). s.purse) c.self.view_is in
    let few : c.args.units ≤ c.args.self.now.purse = omega arith in
    inl (few, grants c.args.plan.now c.args.question c.args.procedure c.args.units c.args.self.now c.make_ready.new.self c.grant_at.new.self _ c.in_ok-place.ensures c.grant_at.ensures)
