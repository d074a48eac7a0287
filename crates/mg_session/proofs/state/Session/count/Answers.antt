use Rattle.std.proofs.Common.{arith, refl}
use Rattle.mg_session.proofs.Seen.{count}
use Rattle.mg_session.proofs.state.Session.count.Goals as goal

pub returns : goal.returns
returns c = let same = count c.args.self.now c.self.inside.ledger c.self.inside.searches.items c.self.inside.book c.self.view_is c.self.invariant _ refl in omega arith
