use Rattle.mg_session.proofs.Seen.{cell_within, settled_at, unsettled_at}
use Rattle.mg_session.proofs.state.Session.settle_at.Goals as goal

pub give_back-requires : goal.give_back-requires
give_back-requires c = cell_within c.args.self.now c.self.inside.ledger c.self.inside.searches.items c.self.inside.book c.self.view_is c.self.invariant c.args.place c.requires.there

pub returns-then-is_settled : goal.returns-then-is_settled
returns-then-is_settled c = λ x there so.
    settled_at c.args.self.now c.self.inside.ledger c.self.inside.searches.items c.self.inside.book c.self.view_is c.self.invariant c.args.place x there c.give_back.new.self c.index_mut-kept.result.now c.end_if_settled-kept.result c.give_back.ensures.step c.index_mut-kept.ensures.value
    c.end_if_settled-kept.ensures.found c.end_if_settled-kept.ensures.stopped (c.is_settled.ensures.settled c.if-is_settled.true x there) so

pub returns-else-is_settled : goal.returns-else-is_settled
returns-else-is_settled c = λ x there so. unsettled_at c.args.self.now c.args.place x there (c.is_settled.ensures.unsettled c.if-is_settled.false x there)
