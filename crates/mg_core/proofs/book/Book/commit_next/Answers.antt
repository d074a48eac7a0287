use Rattle.std.proofs.Common.{◌≡◌, ◌+◌, [], ◌∷◌, ◌++◌, refl, ap, sym, ◌∙◌, rules}
use Rattle.mg_core.specs.Streaks.{log_of, next_of}
use Rattle.mg_core.proofs.Books.{book_longer}
use Rattle.mg_core.proofs.Joined.{some_last, log_longer_last}
use Rattle.mg_core.proofs.book.Book.commit_next.Goals as goal

pub go_on-requires-clause-some : goal.go_on-requires-clause-some
go_on-requires-clause-some g c =
    some_last c.self.inside.facts.items c.self.inside.streaks.items c.requires.last.1.before c.requires.last.0 (c.self.view_is ∙ c.requires.last.1.log_is)

pub invariant_of-self-2 : goal.invariant_of-self-2
invariant_of-self-2 g c =
    let count : c.in-Some.count ≡ c.self.inside.count + 1 = search rules in
    rw count (book_longer g.R.Record.recording.valid g.R.Record.recording.settles g.R.Key.Ord.cmp c.self.inside.facts.items c.self.inside.streaks.items c.self.inside.count c.self.inside.places.items c.self.invariant c.go_on.new.streaks.items c.in_ok-go_on.ensures.ok)

pub returns-clause-ok : goal.returns-clause-ok
returns-clause-ok g c last is =
    let facts = c.self.inside.facts.items in
    let longer = c.in_ok-go_on.ensures.ok in
    let old = ap (log_of facts) (sym longer.old_is) in
    let new =
    ap (log_of facts) longer.new_is
    ∙ log_longer_last facts longer.before longer.last is.before last (old ∙ c.self.view_is ∙ is.log_is)
    ∙ ap (λ log. log ++ next_of last ∷ []) (old ∙ c.self.view_is) in
    (c.requires.unsettled, new, refl)
