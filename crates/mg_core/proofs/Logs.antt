-- Lemmas on logs.
use Rattle.std.proofs.Common.{◌≡◌, List, [], ◌∷◌, ◌++◌, Bool, true, false, cond, refl, ap, sym, ◌∙◌, subst, append_assoc, append-nil}
use Rattle.std.specs.Prelude.{Option, Some, IfSome}
use Rattle.std.specs.List.{AllByRecursion}
use Rattle.mg_core.specs.declared.entries.Entry.{Entry}
use Rattle.mg_core.specs.declared.entries.Committed.{Committed}
use Rattle.mg_core.specs.declared.entries.Committed.TheVariants.{Kept, Dropped}
use Rattle.mg_core.specs.Book.{Commits, entry_put}
use Rattle.mg_core.specs.Log.{facts_of, IsLegal, LegalFrom}

facts_of_step : {R : Type 0} (dropped : Bool) (records more rest : List R) → cond dropped (more ++ rest) (records ++ (more ++ rest)) ≡ cond dropped more (records ++ more) ++ rest
facts_of_step true records more rest = refl
facts_of_step false records more rest = sym (append_assoc records more rest)

-- the facts of a log with more behind it
pub facts_of-append : {R : Type 0} (log more : List (Entry R)) → facts_of (log ++ more) ≡ facts_of log ++ facts_of more
facts_of-append [] more = refl
facts_of-append (entry ∷ log) more =
    ap (λ facts. cond entry.dropped facts (entry.records ++ facts)) (facts_of-append log more) ∙ facts_of_step entry.dropped entry.records (facts_of log) (facts_of more)

module _ {R K : Type 0} (valid : R → Type 0) (settles : R → Option K) (asks : Entry R → Option K) where
  -- what leads on from a log leads on from its parts
  pub legal-split : (before log more : List (Entry R)) → LegalFrom valid settles asks before (log ++ more) → LegalFrom valid settles asks before log × LegalFrom valid settles asks (before ++ log) more
  legal-split before [] more h = (tt, subst (λ (l : List (Entry R)). LegalFrom valid settles asks l more) (sym (append-nil before)) h)
  legal-split before (entry ∷ log) more h =
      let rest = legal-split (before ++ entry ∷ []) log more h.1 in
      ((h.0, rest.0), subst (λ (l : List (Entry R)). LegalFrom valid settles asks l more) (append_assoc before (entry ∷ []) log) rest.1)

  pub legal-join : (before log more : List (Entry R)) → LegalFrom valid settles asks before log → LegalFrom valid settles asks (before ++ log) more → LegalFrom valid settles asks before (log ++ more)
  legal-join before [] more h g = subst (λ (l : List (Entry R)). LegalFrom valid settles asks l more) (append-nil before) g
  legal-join before (entry ∷ log) more h g =
      (h.0, legal-join (before ++ entry ∷ []) log more h.1 (subst (λ (l : List (Entry R)). LegalFrom valid settles asks l more) (sym (append_assoc before (entry ∷ []) log)) g))

  -- one entry more
  pub legal-push : (log : List (Entry R)) (entry : Entry R) → LegalFrom valid settles asks [] log → IsLegal valid settles asks log entry → LegalFrom valid settles asks [] (log ++ entry ∷ [])
  legal-push log entry legal next = legal-join [] log (entry ∷ []) legal (next, tt)

  -- an entry that was committed for its key
  pub legal-committed : (key : K) (old new : List (Entry R)) (entry : Entry R) (committed : Committed) → entry.dropped ≡ false → asks (entry_put entry committed) ≡ Some key →
      AllByRecursion valid entry.records → AllByRecursion (λ r. IfSome (settles r) (λ k. k ≡ key)) entry.records → Commits settles key old entry new committed →
      LegalFrom valid settles asks [] old → LegalFrom valid settles asks [] new
  legal-committed key old new entry (Kept place) kept asked each_valid each_settles commits legal =
      subst (LegalFrom valid settles asks []) (sym commits.1)
      (legal-push old entry legal (record {
        key = key;
        of_search = asked;
        dropped = (λ dropped. absurd (let bad : true ≡ false = sym dropped ∙ kept in cc), λ settled. absurd (commits.0 settled));
        bare = λ dropped. absurd (let bad : true ≡ false = sym dropped ∙ kept in cc);
        each_valid = each_valid;
        each_settles = each_settles;
      }))
  legal-committed key old new entry (Dropped place by) kept asked each_valid each_settles commits legal =
      subst (LegalFrom valid settles asks []) (sym commits.2)
      (legal-push old (entry_put entry (Dropped place by)) legal (record {
        key = key;
        of_search = asked;
        dropped = (λ dropped. (by, commits.0, commits.1), λ settled. refl);
        bare = λ dropped. refl;
        each_valid = tt;
        each_settles = tt;
      }))
