use Rattle.std.proofs.Common.{subst, arith}
use Rattle.mg_present.specs.Presentation.{Group}
use Rattle.mg_session.specs.At.{HasUnread}
use Rattle.mg_session.proofs.Events.{not_both}
use Rattle.mg_session.proofs.Seen.{kept_within, idles, may_if_idles, if_ok_then}
use Rattle.mg_session.proofs.state.Session.idles.Goals as goal

pub index-kept-requires : goal.index-kept-requires
index-kept-requires c =
    let within = kept_within c.args.self.now c.self.inside.ledger c.self.inside.searches.items c.self.inside.book c.self.view_is c.self.invariant c.args.place c.requires.there in omega arith

pub returns-then-not-may_idle : goal.returns-then-not-may_idle
returns-then-not-may_idle c = λ x there. (
  λ t. absurd (cc t),
  λ i. absurd (not_both c.may_idle.result (c.may_idle.ensures.1 (may_if_idles c.args.self.now c.self.inside.ledger c.self.inside.searches.items c.self.inside.book c.self.view_is c.self.invariant c.args.place x there c.index-kept.result.now c.index-kept.ensures i)) c.if-not-may_idle.true),
)

pub returns-then-settled : goal.returns-then-settled
returns-then-settled c = λ x there. (λ t. absurd (cc t), λ i. absurd (i.unsettled (c.is_settled-settled.ensures.settled c.if-settled.true x there)))

pub returns : goal.returns
returns c =
    if_ok_then c.has_unread.result
    (λ some unread x there. idles c.args.self.now c.self.inside.ledger c.self.inside.searches.items c.self.inside.book c.self.view_is c.self.invariant c.args.place x there c.index-kept.result.now some c.index-kept.ensures (c.may_idle.ensures.0 c.if-not-may_idle.false) (c.is_settled-settled.ensures.unsettled c.if-settled.false x there)
    (subst (λ (group : Group). HasUnread some c.self.inside.book group c.index-kept.result.now.read) c.group.ensures unread)) c.has_unread.ensures
