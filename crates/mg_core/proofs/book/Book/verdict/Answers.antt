use Rattle.std.proofs.Common.{◌≡◌, ◌+◌, Some, ap, sym, ◌∙◌, subst}
use Rattle.std.specs.Prelude.{slice_get}
use Rattle.std.proofs.lemmas.Option.{slice_get-get_or, slice_get_within, same_Some}
use Rattle.mg_core.specs.Log.{Settled, VerdictIn}
use Rattle.mg_core.specs.Index.{IsBetween, PointsTo}
use Rattle.mg_core.proofs.Books.{book_verdict, book_unsettled}
use Rattle.mg_core.proofs.book.Book.verdict.Goals as goal

pub returns-in-Ok-clause-some : goal.returns-in-Ok-clause-some
returns-in-Ok-clause-some g c =
    let facts = c.self.inside.facts.items in
    let streaks = c.self.inside.streaks.items in
    let places = c.self.inside.places.items in
    let place = c.in-Ok.place in
    let points : PointsTo g.R.Record.recording.settles facts c.args.key.now place = subst (λ fs. PointsTo g.R.Record.recording.settles fs c.args.key.now place) c.as_slice.ensures.value c.in-Ok.ensures.found in
    let small = slice_get_within facts place points.verdict points.is_first.there in
    let read : slice_get facts place ≡ Some c.index.result.now = slice_get-get_or facts place c.index.result.now small ∙ ap Some (sym c.index.ensures) in
    let here = same_Some points.verdict c.index.result.now (sym points.is_first.there ∙ read) in
    subst (λ r. VerdictIn g.R.Record.recording.settles c.args.self.now c.args.key.now (place + 1) r) here
    (subst (λ log. VerdictIn g.R.Record.recording.settles log c.args.key.now (place + 1) points.verdict) c.self.view_is
    (book_verdict g.R.Record.recording.valid g.R.Record.recording.settles g.R.Key.Ord.cmp facts streaks c.self.inside.count places c.self.invariant c.args.key.now place points))

pub returns-in-Err-clause-none : goal.returns-in-Err-clause-none
returns-in-Err-clause-none g c settled =
    let facts = c.self.inside.facts.items in
    let streaks = c.self.inside.streaks.items in
    let places = c.self.inside.places.items in
    let at = c.in-Err.field-0 in
    let between : IsBetween g.R.Record.recording.settles g.R.Key.Ord.cmp facts places c.args.key.now at at = rw (c.as_slice.ensures.value, c.as_slice-2.ensures.value) at c.in-Err.ensures.missed in
    book_unsettled g.R.Record.recording.valid g.R.Record.recording.settles g.R.Key.Ord.cmp facts streaks c.self.inside.count places c.self.invariant g.met.R.Key.Ord.total c.args.key.now at between
    (subst (λ log. Settled g.R.Record.recording.settles log c.args.key.now) (sym c.self.view_is) settled)
