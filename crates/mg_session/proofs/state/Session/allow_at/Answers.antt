use Rattle.std.proofs.Common.{ap, ◌∙◌, arith}
use Rattle.mg_ledger.specs.declared.ledger.Account.{Account}
use Rattle.mg_session.specs.Run.{within_bound}
use Rattle.mg_session.proofs.Seen.{cell_within, kept_within, allowed_at}
use Rattle.mg_session.proofs.state.Session.allow_at.Goals as goal

pub account-held-requires : goal.account-held-requires
account-held-requires c = cell_within c.args.self.now c.self.inside.ledger c.self.inside.searches.items c.self.inside.book c.self.view_is c.self.invariant c.args.place c.requires.there

pub index_mut-kept-requires : goal.index_mut-kept-requires
index_mut-kept-requires c =
    let within = kept_within c.args.self.now c.self.inside.ledger c.self.inside.searches.items c.self.inside.book c.self.view_is c.self.invariant c.args.place c.requires.there in omega arith

pub returns : goal.returns
returns c = λ x there. allowed_at c.args.self.now c.self.inside.ledger c.self.inside.searches.items c.self.inside.book c.self.view_is c.self.invariant c.args.place x there c.args.bound c.index_mut-kept.result.now c.within-kept.result c.index_mut-kept.ensures.value (c.within-kept.ensures ∙ ap (λ (a : Account). within_bound c.args.bound a.held) c.account-held.ensures.value)
