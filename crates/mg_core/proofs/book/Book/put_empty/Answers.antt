use Rattle.std.proofs.Common.{◌≡◌, ◌+◌, [], ◌∷◌, ◌++◌, ap, ◌∙◌, subst, rules}
use Rattle.mg_core.specs.Streaks.{IsNumbered, Joins, alone}
use Rattle.mg_core.proofs.Books.{book_empty, log_empty}
use Rattle.mg_core.proofs.book.Book.put_empty.Goals as goal

pub invariant_of-self-2 : goal.invariant_of-self-2
invariant_of-self-2 g c =
    let streaks = c.self.inside.streaks.items in
    let now = c.put_turn.new.streaks.items in
    let joins : Joins streaks (alone c.args.entry.now c.args.dropped 0) now = subst (λ s. Joins streaks s now) c.turn_of.ensures.alone c.in_ok-put_turn.ensures.ok in
    let count : c.in-Some.place ≡ c.self.inside.count + 1 = search rules in
    rw count (book_empty g.R.Record.recording.valid g.R.Record.recording.settles g.R.Key.Ord.cmp c.self.inside.facts.items streaks c.self.inside.count c.self.inside.places.items c.self.invariant c.args.entry.now c.args.dropped now
    (subst IsNumbered c.turn_of.ensures.alone c.turn_of.ensures.numbered) joins)

pub returns-clause-ok : goal.returns-clause-ok
returns-clause-ok g c =
    let streaks = c.self.inside.streaks.items in
    let now = c.put_turn.new.streaks.items in
    let joins : Joins streaks (alone c.args.entry.now c.args.dropped 0) now = subst (λ s. Joins streaks s now) c.turn_of.ensures.alone c.in_ok-put_turn.ensures.ok in
    log_empty g.R.Record.recording.valid g.R.Record.recording.settles g.R.Key.Ord.cmp c.self.inside.facts.items streaks c.self.inside.count c.self.inside.places.items c.self.invariant c.args.entry.now c.args.dropped now joins
    ∙ ap (λ log. log ++ record (c.args.entry.now) { dropped = c.args.dropped; records = [] } ∷ []) c.self.view_is

pub returns-clause-place : goal.returns-clause-place
returns-clause-place g c =
    let streaks = c.self.inside.streaks.items in
    let now = c.put_turn.new.streaks.items in
    let joins : Joins streaks (alone c.args.entry.now c.args.dropped 0) now = subst (λ s. Joins streaks s now) c.turn_of.ensures.alone c.in_ok-put_turn.ensures.ok in
    let count : c.in-Some.place ≡ c.self.inside.count + 1 = search rules in
    let after = book_empty g.R.Record.recording.valid g.R.Record.recording.settles g.R.Key.Ord.cmp c.self.inside.facts.items streaks c.self.inside.count c.self.inside.places.items c.self.invariant c.args.entry.now c.args.dropped now
    (subst IsNumbered c.turn_of.ensures.alone c.turn_of.ensures.numbered) joins in
    count ∙ after.count_is
