use Rattle.mg_session.proofs.Seen.{absent_if, present_if}
use Rattle.mg_session.proofs.state.Session.place_of.Goals as goal

pub returns-clause-none : goal.returns-clause-none
returns-clause-none c = absent_if c.args.self.now c.self.inside.ledger c.self.inside.searches.items c.self.inside.book c.self.view_is c.self.invariant c.args.question c.args.procedure c.as_slice.result.now c.place_among.result c.as_slice.ensures.value c.place_among.ensures.none

pub returns-clause-some : goal.returns-clause-some
returns-clause-some c = present_if c.args.self.now c.self.inside.ledger c.self.inside.searches.items c.self.inside.book c.self.view_is c.self.invariant c.args.question c.args.procedure c.as_slice.result.now c.place_among.result c.as_slice.ensures.value c.place_among.ensures.some
