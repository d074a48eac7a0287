use Rattle.std.proofs.Common.{◌↔◌, arith, subst}
use Rattle.std.specs.Prelude.{IsTrue}
use Rattle.mg_ledger.specs.declared.ledger.Account.{Account}
use Rattle.mg_session.specs.At.{MayRun}
use Rattle.mg_session.proofs.Seen.{cell_within, kept_within, takes}
use Rattle.mg_session.proofs.state.Session.takes_part.Goals as goal

pub account-held-requires : goal.account-held-requires
account-held-requires c = cell_within c.args.self.now c.self.inside.ledger c.self.inside.searches.items c.self.inside.book c.self.view_is c.self.invariant c.args.place c.requires.there

pub index-requires : goal.index-requires
index-requires c =
    let within = kept_within c.args.self.now c.self.inside.ledger c.self.inside.searches.items c.self.inside.book c.self.view_is c.self.invariant c.args.place c.requires.there in omega arith

pub returns : goal.returns
returns c = λ x there.
    takes c.args.self.now c.self.inside.ledger c.self.inside.searches.items c.self.inside.book c.self.view_is c.self.invariant c.args.place x there c.index.result.now c.may_run.result c.is_settled-settled.result c.index.ensures
    (subst (λ (a : Account). IsTrue c.may_run.result ↔ MayRun a.held c.is_settled-settled.result c.index.result.now.end) c.account-held.ensures.value c.may_run.ensures)
    (λ h. c.is_settled-settled.ensures.settled h x there) (λ h. c.is_settled-settled.ensures.unsettled h x there)
