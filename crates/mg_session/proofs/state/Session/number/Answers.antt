use Rattle.std.proofs.Common.{ap, length, arith}
use Rattle.mg_session.specs.State.{State}
use Rattle.mg_session.proofs.Looked.{seen_count, number_at}
use Rattle.mg_session.proofs.state.Session.number.Goals as goal

pub overflow_add-result : goal.overflow_add-result
overflow_add-result c =
    let inside = c.self.inside in
    let all = seen_count inside.searches.items inside.ledger.cells c.self.invariant in
    let same = ap (λ (s : State). length s.searches) c.self.view_is in
    let few = c.self.invariant.few in omega arith

pub returns : goal.returns
returns c =
    let inside = c.self.inside in number_at inside.searches.items inside.ledger.cells c.args.place c.args.self.now c.self.invariant (ap (λ (s : State). s.searches) c.self.view_is) c.requires
