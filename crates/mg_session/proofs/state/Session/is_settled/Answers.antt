use Rattle.std.proofs.Common.{sym, subst, arith}
use Rattle.mg_core.specs.Log.{Settled}
use Rattle.mg_certs.specs.Validity.{key_of}
use Rattle.mg_session.proofs.Seen.{kept_within, is_settled, is_unsettled}
use Rattle.mg_session.proofs.state.Session.is_settled.Goals as goal

pub index-requires : goal.index-requires
index-requires c =
    let within = kept_within c.args.self.now c.self.inside.ledger c.self.inside.searches.items c.self.inside.book c.self.view_is c.self.invariant c.args.place c.requires.there in omega arith

pub returns-clause-settled : goal.returns-clause-settled
returns-clause-settled c = λ h x there. is_settled c.args.self.now c.self.inside.ledger c.self.inside.searches.items c.self.inside.book c.self.view_is c.self.invariant c.args.place x there c.index.result.now c.index.ensures (subst (Settled key_of c.self.inside.book) c.key.ensures (c.has_verdict.ensures.settled h))

pub returns-clause-unsettled : goal.returns-clause-unsettled
returns-clause-unsettled c = λ h x there. is_unsettled c.args.self.now c.self.inside.ledger c.self.inside.searches.items c.self.inside.book c.self.view_is c.self.invariant c.args.place x there c.index.result.now c.index.ensures (λ s. c.has_verdict.ensures.unsettled h (subst (Settled key_of c.self.inside.book) (sym c.key.ensures) s))
