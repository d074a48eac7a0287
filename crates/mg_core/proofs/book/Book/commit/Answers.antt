use Rattle.std.proofs.Common.{◌≡◌, ◌+◌, [], ◌∷◌, ◌++◌, length, ap, sym, ◌∙◌, subst, rules}
use Rattle.mg_core.specs.Log.{Settled, VerdictIn}
use Rattle.mg_core.specs.Index.{IsBetween, PointsTo}
use Rattle.mg_core.proofs.Books.{book_verdict, book_unsettled}
use Rattle.mg_core.proofs.Scans.{nil_of}
use Rattle.mg_core.proofs.book.Book.commit.Goals as goal

pub returns-in_ok-place-in-Ok-clause-ok : goal.returns-in_ok-place-in-Ok-clause-ok
returns-in_ok-place-in-Ok-clause-ok g c =
    let facts = c.self.inside.facts.items in
    let streaks = c.self.inside.streaks.items in
    let places = c.self.inside.places.items in
    let by = c.in-Ok.verdict in
    let points : PointsTo g.R.Record.recording.settles facts c.args.key.now by = subst (λ fs. PointsTo g.R.Record.recording.settles fs c.args.key.now by) c.as_slice.ensures.value c.in-Ok.ensures.found in (
      points.verdict,
      subst (λ log. VerdictIn g.R.Record.recording.settles log c.args.key.now (by + 1) points.verdict) c.self.view_is
          (book_verdict g.R.Record.recording.valid g.R.Record.recording.settles g.R.Key.Ord.cmp facts streaks c.self.inside.count places c.self.invariant c.args.key.now by points),
      c.in_ok-place-in-Ok.ensures.ok,
      c.in_ok-place-in-Ok.ensures.place,
    )

pub returns-in_ok-place-in-Err-clause-ok : goal.returns-in_ok-place-in-Err-clause-ok
returns-in_ok-place-in-Err-clause-ok g c =
    let facts = c.self.inside.facts.items in
    let streaks = c.self.inside.streaks.items in
    let places = c.self.inside.places.items in
    let at = c.in-Err.field-0 in
    let between : IsBetween g.R.Record.recording.settles g.R.Key.Ord.cmp facts places c.args.key.now at at = rw (c.as_slice.ensures.value, c.as_slice-2.ensures.value) at c.in-Err.ensures.missed in
    let unsettled : Settled g.R.Record.recording.settles c.args.self.now c.args.key.now → ⊥ =
    λ settled. book_unsettled g.R.Record.recording.valid g.R.Record.recording.settles g.R.Key.Ord.cmp facts streaks c.self.inside.count places c.self.invariant g.met.R.Key.Ord.total c.args.key.now at between (subst (λ log. Settled g.R.Record.recording.settles log c.args.key.now) (sym c.self.view_is) settled) in
    let entry = c.args.entry in
    let size : length entry.records ≡ 0 = search rules in (
      unsettled,
      c.in_ok-place-in-Err.ensures.ok
          ∙ ap (λ dropped. c.args.self.now ++ record entry { dropped = dropped; records = [] } ∷ []) (sym c.requires.kept)
          ∙ ap (λ records. c.args.self.now ++ record entry { records = records } ∷ []) (sym (nil_of entry.records size)),
      c.in_ok-place-in-Err.ensures.place,
    )

pub put_found-requires-clause-unsettled : goal.put_found-requires-clause-unsettled
put_found-requires-clause-unsettled g c =
    let facts = c.self.inside.facts.items in
    let streaks = c.self.inside.streaks.items in
    let places = c.self.inside.places.items in
    let at = c.in-Err-2.field-0 in
    let between : IsBetween g.R.Record.recording.settles g.R.Key.Ord.cmp facts places c.args.key.now at at = rw (c.as_slice.ensures.value, c.as_slice-2.ensures.value) at c.in-Err-2.ensures.missed in
    let unsettled : Settled g.R.Record.recording.settles c.args.self.now c.args.key.now → ⊥ =
    λ settled. book_unsettled g.R.Record.recording.valid g.R.Record.recording.settles g.R.Key.Ord.cmp facts streaks c.self.inside.count places c.self.invariant g.met.R.Key.Ord.total c.args.key.now at between (subst (λ log. Settled g.R.Record.recording.settles log c.args.key.now) (sym c.self.view_is) settled) in
    unsettled

pub returns-in_ok-place-in-Err-2-clause-ok : goal.returns-in_ok-place-in-Err-2-clause-ok
returns-in_ok-place-in-Err-2-clause-ok g c =
    let facts = c.self.inside.facts.items in
    let streaks = c.self.inside.streaks.items in
    let places = c.self.inside.places.items in
    let at = c.in-Err-2.field-0 in
    let between : IsBetween g.R.Record.recording.settles g.R.Key.Ord.cmp facts places c.args.key.now at at = rw (c.as_slice.ensures.value, c.as_slice-2.ensures.value) at c.in-Err-2.ensures.missed in
    let unsettled : Settled g.R.Record.recording.settles c.args.self.now c.args.key.now → ⊥ =
    λ settled. book_unsettled g.R.Record.recording.valid g.R.Record.recording.settles g.R.Key.Ord.cmp facts streaks c.self.inside.count places c.self.invariant g.met.R.Key.Ord.total c.args.key.now at between (subst (λ log. Settled g.R.Record.recording.settles log c.args.key.now) (sym c.self.view_is) settled) in
    (unsettled, c.in_ok-place-in-Err-2.ensures.ok, c.in_ok-place-in-Err-2.ensures.place)
