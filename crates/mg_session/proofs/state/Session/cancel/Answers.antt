use Rattle.std.proofs.Common.{refl, inl}
use Rattle.mg_session.proofs.Moving.{cancels, not_absent}
use Rattle.mg_session.proofs.state.Session.cancel.Goals as goal

pub returns-in-Some-clause-after : goal.returns-in-Some-clause-after
returns-in-Some-clause-after c = λ plan. cancels c.args.self.now c.cancel_at.new.self c.args.question c.args.procedure _ c.in-Some.ensures.some c.cancel_at.ensures

pub returns-in-Some-clause-text : goal.returns-in-Some-clause-text
returns-in-Some-clause-text c = λ plan shown. (refl, inl (not_absent c.args.self.now c.args.question c.args.procedure _ c.in-Some.ensures.some, c.new.ensures.items))
