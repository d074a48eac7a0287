use Rattle.std.proofs.Common.{ap, length, arith}
use Rattle.std.proofs.lemmas.Option.{slice_get_read}
use Rattle.mg_search.specs.Search.{ask_of}
use Rattle.mg_session.specs.State.{State}
use Rattle.mg_session.proofs.Looked.{seen_count, kept_at}
use Rattle.mg_session.proofs.state.Session.ask.Goals as goal

pub index-requires : goal.index-requires
index-requires c =
    let inside = c.self.inside in
    let all = seen_count inside.searches.items inside.ledger.cells c.self.invariant in
    let same = ap (λ (s : State). length s.searches) c.self.view_is in omega arith

pub returns : goal.returns
returns c =
    let inside = c.self.inside in
    let place = c.args.place in
    let kept = c.index.result.now in
    let all = seen_count inside.searches.items inside.ledger.cells c.self.invariant in
    let same = ap (λ (s : State). length s.searches) c.self.view_is in
    kept_at (λ search. ask_of search.search) inside.searches.items inside.ledger.cells place kept c.args.self.now c.key.result.now c.self.invariant (ap (λ (s : State). s.searches) c.self.view_is)
    (slice_get_read inside.searches.items (length inside.searches.items) place kept (omega arith) (omega arith) c.index.ensures) c.key.ensures
