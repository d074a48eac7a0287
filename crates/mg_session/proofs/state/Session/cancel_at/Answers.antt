use Rattle.mg_session.proofs.Seen.{cell_within, cancelled_at}
use Rattle.mg_session.proofs.state.Session.cancel_at.Goals as goal

pub give_back-requires : goal.give_back-requires
give_back-requires c = cell_within c.args.self.now c.self.inside.ledger c.self.inside.searches.items c.self.inside.book c.self.view_is c.self.invariant c.args.place c.requires.there

pub returns : goal.returns
returns c = λ x there. cancelled_at c.args.self.now c.self.inside.ledger c.self.inside.searches.items c.self.inside.book c.self.view_is c.self.invariant c.args.place x there c.give_back.new.self c.index_mut-kept.result.now c.end_if_cancelled-kept.result c.give_back.ensures.step c.index_mut-kept.ensures.value c.end_if_cancelled-kept.ensures
