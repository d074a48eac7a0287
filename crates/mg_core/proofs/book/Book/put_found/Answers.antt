use Rattle.std.proofs.Common.{◌≡◌, ◌+◌, false, ◌∷◌, [], ◌++◌, length, ap, ◌∙◌, subst, arith, rules}
use Rattle.std.specs.List.{AllByRecursion}
use Rattle.std.proofs.lemmas.List.{length_push}
use Rattle.mg_core.specs.Log.{VerdictIn}
use Rattle.mg_core.specs.Index.{IsBetween, IsPlaceOf, PointsTo, with_place}
use Rattle.mg_core.specs.Streaks.{IsNumbered, Joins, alone, log_of}
use Rattle.mg_core.proofs.Books.{book_kept, book_verdict, log_kept}
use Rattle.mg_core.proofs.Indexes.{indexed_more}
use Rattle.mg_core.proofs.book.Book.put_found.Goals as goal

pub unreachable-requires : goal.unreachable-requires
unreachable-requires g c =
    let facts = c.self.inside.facts.items in
    let streaks = c.self.inside.streaks.items in
    let places = c.self.inside.places.items in
    let by = c.in_default-place_for.field-0 in
    let points : PointsTo g.R.Record.recording.settles facts c.args.key.now by = subst (λ fs. PointsTo g.R.Record.recording.settles fs c.args.key.now by) c.as_slice.ensures.value c.in_default-place_for.ensures.found in
    c.requires.unsettled (by + 1, points.verdict, subst (λ log. VerdictIn g.R.Record.recording.settles log c.args.key.now (by + 1) points.verdict) c.self.view_is (book_verdict g.R.Record.recording.valid g.R.Record.recording.settles g.R.Key.Ord.cmp facts streaks c.self.inside.count places c.self.invariant c.args.key.now by points))

pub invariant_of-self-2 : goal.invariant_of-self-2
invariant_of-self-2 g c =
    let facts = c.self.inside.facts.items in
    let streaks = c.self.inside.streaks.items in
    let places = c.self.inside.places.items in
    let records = c.args.entry.records in
    let now = c.put_turn.new.streaks.items in
    let joins : Joins streaks (alone c.args.entry false c.count_of-count.result) now = subst (λ s. Joins streaks s now) c.turn_of.ensures.alone c.in_ok-put_turn.ensures.ok in
    let count : c.in-Some.place ≡ c.self.inside.count + 1 = search rules in
    let each : AllByRecursion g.R.Record.recording.valid records = subst (AllByRecursion g.R.Record.recording.valid) c.as_slice-records.ensures c.count_of-count.ensures.valid in
    let size : c.count_of-count.result ≡ length records = c.count_of-count.ensures.count ∙ ap length c.as_slice-records.ensures in
    let between : IsBetween g.R.Record.recording.settles g.R.Key.Ord.cmp facts places c.args.key.now c.in-Err.at c.in-Err.at = rw (c.as_slice.ensures.value, c.as_slice-2.ensures.value) at c.in-Err.ensures.missed in
    let behind : c.len.result ≡ length facts = search rules in
    let place : IsPlaceOf g.R.Record.recording.settles records c.args.key.now (length facts) c.place_among-verdict.result = rw (c.as_slice-records.ensures, behind) at c.place_among-verdict.ensures in
    let placed : c.put_place.new.places.items ≡ with_place places c.in-Err.at c.place_among-verdict.result = search rules in
    let put : c.put_records.new.facts.items ≡ facts ++ records = search rules in
    let indexed = indexed_more g.R.Key.Ord.cmp g.met.R.Key.Ord.total g.R.Record.recording.settles facts records c.args.key.now c.requires.of_key places c.in-Err.at c.place_among-verdict.result between place in
    rw (count, placed, put) (book_kept g.R.Record.recording.valid g.R.Record.recording.settles g.R.Key.Ord.cmp facts streaks c.self.inside.count places c.self.invariant c.args.entry now c.count_of-count.result
    (subst IsNumbered c.turn_of.ensures.alone c.turn_of.ensures.numbered) each size joins (with_place places c.in-Err.at c.place_among-verdict.result) indexed)

pub returns-clause-ok : goal.returns-clause-ok
returns-clause-ok g c =
    let facts = c.self.inside.facts.items in
    let streaks = c.self.inside.streaks.items in
    let places = c.self.inside.places.items in
    let records = c.args.entry.records in
    let now = c.put_turn.new.streaks.items in
    let joins : Joins streaks (alone c.args.entry false c.count_of-count.result) now = subst (λ s. Joins streaks s now) c.turn_of.ensures.alone c.in_ok-put_turn.ensures.ok in
    let size : c.count_of-count.result ≡ length records = c.count_of-count.ensures.count ∙ ap length c.as_slice-records.ensures in
    let put : c.put_records.new.facts.items ≡ facts ++ records = search rules in
    let log = log_kept g.R.Record.recording.valid g.R.Record.recording.settles g.R.Key.Ord.cmp facts streaks c.self.inside.count places c.self.invariant c.args.entry now c.requires.kept c.count_of-count.result size joins in
    let more = ap (λ fs. log_of fs now) put ∙ log ∙ ap (λ l. l ++ c.args.entry ∷ []) c.self.view_is in
    more

pub returns-clause-place : goal.returns-clause-place
returns-clause-place g c =
    let facts = c.self.inside.facts.items in
    let streaks = c.self.inside.streaks.items in
    let places = c.self.inside.places.items in
    let records = c.args.entry.records in
    let now = c.put_turn.new.streaks.items in
    let joins : Joins streaks (alone c.args.entry false c.count_of-count.result) now = subst (λ s. Joins streaks s now) c.turn_of.ensures.alone c.in_ok-put_turn.ensures.ok in
    let size : c.count_of-count.result ≡ length records = c.count_of-count.ensures.count ∙ ap length c.as_slice-records.ensures in
    let put : c.put_records.new.facts.items ≡ facts ++ records = search rules in
    let log = log_kept g.R.Record.recording.valid g.R.Record.recording.settles g.R.Key.Ord.cmp facts streaks c.self.inside.count places c.self.invariant c.args.entry now c.requires.kept c.count_of-count.result size joins in
    let more = ap (λ fs. log_of fs now) put ∙ log ∙ ap (λ l. l ++ c.args.entry ∷ []) c.self.view_is in
    let count : c.in-Some.place ≡ c.self.inside.count + 1 = search rules in
    omega (arith, count, ap length more, length_push c.args.self.now c.args.entry, c.self.invariant.count_is, ap length c.self.view_is)
