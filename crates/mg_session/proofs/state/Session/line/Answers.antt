use Rattle.std.proofs.Common.{ap, length, arith}
use Rattle.std.proofs.lemmas.Option.{slice_get_read}
use Rattle.mg_report.specs.Values.{search_of}
use Rattle.mg_session.specs.State.{State}
use Rattle.mg_session.specs.Output.{line_of}
use Rattle.mg_session.proofs.Looked.{seen_count, kept_at}
use Rattle.mg_session.proofs.state.Session.line.Goals as goal

pub index-kept-requires : goal.index-kept-requires
index-kept-requires c =
    let inside = c.self.inside in
    let all = seen_count inside.searches.items inside.ledger.cells c.self.invariant in
    let same = ap (λ (s : State). length s.searches) c.self.view_is in omega arith

pub account-requires : goal.account-requires
account-requires c =
    let inside = c.self.inside in
    let all = seen_count inside.searches.items inside.ledger.cells c.self.invariant in
    let each = c.self.invariant.each in
    let same = ap (λ (s : State). length s.searches) c.self.view_is in omega arith

pub returns : goal.returns
returns c =
    let inside = c.self.inside in
    let place = c.args.place in
    let kept = c.index-kept.result.now in
    let procedure = c.procedure.ensures in
    let account = c.account.ensures.value in
    let all = seen_count inside.searches.items inside.ledger.cells c.self.invariant in
    let same = ap (λ (s : State). length s.searches) c.self.view_is in
    kept_at line_of inside.searches.items inside.ledger.cells place kept c.args.self.now (search_of (record { procedure = c.procedure.result; account = c.account.result; end = kept.end })) c.self.invariant (ap (λ (s : State). s.searches) c.self.view_is)
    (slice_get_read inside.searches.items (length inside.searches.items) place kept (omega arith) (omega arith) c.index-kept.ensures)
    (λ i. record { procedure = procedure i; account = account i; end = kept.end })
