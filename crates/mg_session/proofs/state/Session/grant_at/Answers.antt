use Rattle.mg_session.proofs.Seen.{cell_within, counted, granted_at}
use Rattle.mg_session.proofs.state.Session.grant_at.Goals as goal

pub grant-requires-clause-there : goal.grant-requires-clause-there
grant-requires-clause-there c = cell_within c.args.self.now c.self.inside.ledger c.self.inside.searches.items c.self.inside.book c.self.view_is c.self.invariant c.args.place c.requires.there

pub grant-requires-clause-counted : goal.grant-requires-clause-counted
grant-requires-clause-counted c = counted c.args.self.now c.self.inside.ledger c.self.inside.searches.items c.self.inside.book c.self.view_is c.self.invariant _ c.args.place c.requires.there c.requires.counted

pub returns : goal.returns
returns c = λ x there. granted_at c.args.self.now c.self.inside.ledger c.self.inside.searches.items c.self.inside.book c.self.view_is c.self.invariant c.args.place x there c.grant.new.self c.args.units c.index_mut-kept.result.now c.end_if_granted-kept.result c.in-Ok.ensures.step c.requires.few c.index_mut-kept.ensures.value c.end_if_granted-kept.ensures
