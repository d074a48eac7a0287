-- Lemmas on what a book holds: one turn more.
use Rattle.std.proofs.Common.{◌≡◌, ℕ, ◌+◌, Bool, true, false, List, [], ◌∷◌, ◌++◌, length, Option, Ordering, ap, sym, ◌∙◌, subst, arith, refl, append-nil}
use Rattle.std.specs.List.{AllByRecursion}
use Rattle.std.specs.Cmp.{IsTotalOrder}
use Rattle.std.proofs.lemmas.List.{length_push}
use Rattle.mg_core.specs.declared.entries.Entry.{Entry}
use Rattle.mg_core.specs.declared.streaks.Streak.{Streak}
use Rattle.mg_core.specs.Book.{IsBook}
use Rattle.mg_core.specs.Index.{IsBetween, IsIndexed, PointsTo}
use Rattle.mg_core.specs.Log.{Settled, VerdictIn}
use Rattle.mg_core.specs.Streaks.{Found, GoesLonger, IsNumbered, Joins, alone, log_of, turn_of}
use Rattle.mg_core.proofs.Firsts.{verdict_at, not_settled}
use Rattle.mg_core.proofs.Indexes.{missed}
use Rattle.mg_core.proofs.Joined.{facts_found, found_joined, found_longer, log_joined, log_longer, numbered_joined, numbered_longer}
use Rattle.mg_core.proofs.Scans.{all_append}

module _ {R K : Type 0} (valid : R → Type 0) (settles : R → Option K) (cmp : K → K → Ordering) (facts : List R) (streaks : List Streak) (count : ℕ) (places : List ℕ) (book : IsBook valid settles cmp facts streaks count places) where
  -- the verdict at a place of the index, and a key that the index misses
  pub book_verdict : (key : K) (place : ℕ) (h : PointsTo settles facts key place) → VerdictIn settles (log_of facts streaks) key (place + 1) h.verdict
  book_verdict key place h = verdict_at settles (log_of facts streaks) facts key place h.verdict (facts_found facts streaks book.found) h.is_first

  pub book_unsettled : IsTotalOrder cmp → (key : K) (at : ℕ) → IsBetween settles cmp facts places key at at → Settled settles (log_of facts streaks) key → ⊥
  book_unsettled total key at h = not_settled settles (log_of facts streaks) facts key (facts_found facts streaks book.found) (missed cmp total settles facts places key at h)

  module _ (new : List R) (s : Streak) (now : List Streak) (size : s.records ≡ length new) (one : s.more ≡ 0) (joins : Joins streaks s now) where
    count_more : count + 1 ≡ length (log_of (facts ++ new) now)
    count_more =
        let more = ap length (log_joined facts new streaks s now book.found size one joins) in
        omega (arith, book.count_is, more, length_push (log_of facts streaks) (turn_of s.common s.turn new))

    pub book_more : (s.common.dropped ≡ true → s.records ≡ 0) → IsNumbered s → AllByRecursion valid new → (places_now : List ℕ) → IsIndexed settles cmp (facts ++ new) places_now → IsBook valid settles cmp (facts ++ new) now (count + 1) places_now
    book_more none small each places_now indexed = record {
      each_valid = all_append valid facts new book.each_valid each;
      found = found_joined facts new streaks s now book.found size none joins;
      numbered = numbered_joined streaks s now book.numbered small one joins;
      count_is = count_more;
      indexed = indexed;
    }

  -- a book whose last streak goes on
  pub book_longer : (now : List Streak) → GoesLonger streaks now → IsBook valid settles cmp facts now (count + 1) places
  book_longer now h =
      let more = ap (log_of facts) h.new_is ∙ log_longer facts h.before h.last ∙ ap (λ ss. log_of facts ss ++ turn_of h.last.common (h.last.turn + h.last.more + 1) [] ∷ []) (sym h.old_is) in
      record {
        each_valid = book.each_valid;
        found = subst (Found facts) (sym h.new_is) (found_longer facts h.before h.last (subst (Found facts) h.old_is book.found));
        numbered = subst (AllByRecursion IsNumbered) (sym h.new_is) (numbered_longer h.before h.last (subst (AllByRecursion IsNumbered) h.old_is book.numbered) h.next);
        count_is = omega (arith, book.count_is, ap length more, length_push (log_of facts streaks) (turn_of h.last.common (h.last.turn + h.last.more + 1) []));
        indexed = book.indexed;
      }

  -- a book with a turn more that found nothing
  pub book_empty : (entry : Entry R) (dropped : Bool) (now : List Streak) → IsNumbered (alone entry dropped 0) → Joins streaks (alone entry dropped 0) now → IsBook valid settles cmp facts now (count + 1) places
  book_empty entry dropped now small joins =
      subst (λ fs. IsBook valid settles cmp fs now (count + 1) places) (append-nil facts)
      (book_more [] (alone entry dropped 0) now refl refl joins (λ h. refl) small tt places (subst (λ fs. IsIndexed settles cmp fs places) (sym (append-nil facts)) book.indexed))

  pub log_empty : (entry : Entry R) (dropped : Bool) (now : List Streak) → Joins streaks (alone entry dropped 0) now → log_of facts now ≡ log_of facts streaks ++ record entry { dropped = dropped; records = [] } ∷ []
  log_empty entry dropped now joins =
      ap (λ fs. log_of fs now) (sym (append-nil facts)) ∙ log_joined facts [] streaks (alone entry dropped 0) now book.found refl refl joins

  -- a book with a turn more that was kept
  pub book_kept : (entry : Entry R) (now : List Streak) (records : ℕ) → IsNumbered (alone entry false records) → AllByRecursion valid entry.records → records ≡ length entry.records → Joins streaks (alone entry false records) now → (places_now : List ℕ) → IsIndexed settles cmp (facts ++ entry.records) places_now → IsBook valid settles cmp (facts ++ entry.records) now (count + 1) places_now
  book_kept entry now records small each size joins places_now indexed =
      book_more entry.records (alone entry false records) now size refl joins (λ dropped. absurd (cc)) small each places_now indexed

  pub log_kept : (entry : Entry R) (now : List Streak) → entry.dropped ≡ false → (records : ℕ) → records ≡ length entry.records → Joins streaks (alone entry false records) now → log_of (facts ++ entry.records) now ≡ log_of facts streaks ++ entry ∷ []
  log_kept entry now kept records size joins =
      log_joined facts entry.records streaks (alone entry false records) now book.found size refl joins ∙ ap (λ dropped. log_of facts streaks ++ record entry { dropped = dropped } ∷ []) (sym kept)
