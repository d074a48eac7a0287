-- Lemmas that runs keep logs legal.
use Rattle.std.proofs.Common.{◌≡◌, ℕ, Bool, true, false, cond, List, [], ◌∷◌, Option, Some, None, IsSome, IsNone, IfSome, refl, ap, sym, ◌∙◌, subst}
use Rattle.std.specs.List.{AllByRecursion}
use Rattle.mg_core.specs.declared.entries.Entry.{Entry}
use Rattle.mg_core.specs.declared.entries.Facts.{Facts}
use Rattle.mg_core.specs.Log.{IsLegal, LegalFrom}
use Rattle.mg_core.proofs.Logs.{legal-join}
use Rattle.mg_turn.specs.declared.outcome.TurnEnd.{TurnEnd}
use Rattle.mg_turn.specs.declared.outcome.TurnEnd.TheVariants.{More, Found, Closed, Idle, Stopped, Full}
use Rattle.mg_core.specs.Recording.{Recording}
use Rattle.mg_turn.specs.Turn.{Searching, Sound, EndFits, AreModels, Settles, records_of}
use Rattle.mg_workers.specs.Run.{Row, Running, entry_of}
use Rattle.mg_workers.specs.Rows.{EachPair, Keeps, AreFunded, AreAsked}
use Rattle.mg_workers.proofs.Pairs.{all_at, all_along}
use Rattle.mg_workers.proofs.Events.{event_sound, event_keeps, still_funded, Happens, LeadsBy, Run}

none_if : {K : Type 0} (P : K → Type 0) (o : Option K) → IsNone o → IfSome o P
none_if P None h = tt
none_if P (Some k) h = absurd (cc)

all_cond : {X : Type 0} (P : X → Type 0) (b : Bool) (xs : List X) → AllByRecursion P xs → AllByRecursion P (cond b [] xs)
all_cond P true xs h = tt
all_cond P false xs h = h

module _ {R K G S : Type 0} (recording : Recording R K G) (searching : Searching R K G S) (exclusive : (r : R) → recording.valid r → IsSome (recording.model_of r) → IsNone (recording.settles r)) where
  models_settle_none : (key : K) (records : List R) → AllByRecursion recording.valid records → AreModels recording records → AllByRecursion (λ r. IfSome (recording.settles r) (λ k. k ≡ key)) records
  models_settle_none key [] valid models = tt
  models_settle_none key (r ∷ rs) valid models =
      (none_if (λ k. k ≡ key) (recording.settles r) (exclusive r valid.0 models.0), models_settle_none key rs valid.1 models.1)

  found_settle : (key : K) (records : List R) → AllByRecursion recording.valid records → Settles recording key records → AllByRecursion (λ r. IfSome (recording.settles r) (λ k. k ≡ key)) records
  found_settle key [] valid h = absurd h
  found_settle key (r ∷ rs) valid h =
      (subst (λ o. IfSome o (λ k. k ≡ key)) (sym h.0) refl, models_settle_none key rs valid.1 h.2)

  -- a record of a turn that settles something settles the key
  pub end_settles : (search : S) (units : ℕ) (facts : Facts R) (spent : ℕ) (end : TurnEnd R) → AllByRecursion recording.valid (records_of end) → EndFits recording searching search units facts spent end → AllByRecursion (λ r. IfSome (recording.settles r) (λ k. k ≡ searching.key search)) (records_of end)
  end_settles search units facts spent More valid h = tt
  end_settles search units facts spent (Found records) valid h = found_settle (searching.key search) records valid h
  end_settles search units facts spent (Closed records) valid h = models_settle_none (searching.key search) records valid h.1
  end_settles search units facts spent Idle valid h = tt
  end_settles search units facts spent (Stopped seen) valid h = tt
  end_settles search units facts spent (Full what count) valid h = tt

  module _ (workers : ℕ) (IsSize : ℕ → ℕ → ℕ → ℕ → Type 0) (begin : List (Entry R)) (sound : Sound recording searching) (asks : Entry R → Option K) where
    event_legal : (old new : Running R S) → AreAsked searching asks old.rows → (e : Happens recording searching workers IsSize begin old new) → IsLegal recording.valid recording.settles asks old.log (entry_of e.pass e.row e.outcome e.dropped)
    event_legal old new asked e =
        let entry = entry_of e.pass e.row e.outcome e.dropped in
        let turn = event_sound recording searching workers IsSize begin sound old new e in
        let settles = end_settles e.row.search e.units e.facts e.outcome.spent e.outcome.end turn.valid turn.end in
        record {
          key = searching.key e.row.search;
          of_search = all_at (λ (row : Row S). (one : Entry R) → one.search ≡ row.number → asks one ≡ Some (searching.key row.search)) old.rows e.place e.row asked e.of_row entry refl;
          dropped = e.is_dropped;
          bare = λ dropped. ap (λ b. cond b [] (records_of e.outcome.end)) dropped;
          each_valid = all_cond recording.valid e.dropped (records_of e.outcome.end) turn.valid;
          each_settles = all_cond (λ r. IfSome (recording.settles r) (λ k. k ≡ searching.key e.row.search)) e.dropped (records_of e.outcome.end) settles;
        }

    still_asked : (xs ys : List (Row S)) → EachPair (Keeps searching) xs ys → AreAsked searching asks xs → AreAsked searching asks ys
    still_asked = all_along (Keeps searching) (λ (row : Row S). (one : Entry R) → one.search ≡ row.number → asks one ≡ Some (searching.key row.search)) (λ (row : Row S). (one : Entry R) → one.search ≡ row.number → asks one ≡ Some (searching.key row.search))
        (λ x y k asked one number. asked one (number ∙ k.number) ∙ ap Some (sym k.key))

    leads_legal : (states : List (Running R S)) (old new : Running R S) → AreFunded old.rows → AreAsked searching asks old.rows → LeadsBy recording searching workers IsSize begin old states new → LegalFrom recording.valid recording.settles asks [] old.log → LegalFrom recording.valid recording.settles asks [] new.log
    leads_legal [] old new funded asked h legal = subst (λ (r : Running R S). LegalFrom recording.valid recording.settles asks [] r.log) h legal
    leads_legal (mid ∷ states) old new funded asked h legal =
        let kept = event_keeps recording searching workers IsSize begin sound old mid funded h.0 in
        let entry = entry_of h.0.pass h.0.row h.0.outcome h.0.dropped in
        let longer = legal-join recording.valid recording.settles asks [] old.log (entry ∷ []) legal (event_legal old mid asked h.0, tt) in
        leads_legal states mid new (still_funded recording searching workers IsSize begin sound old.rows mid.rows kept funded) (still_asked old.rows mid.rows kept asked) h.1
        (subst (λ log. LegalFrom recording.valid recording.settles asks [] log) (sym h.0.log) longer)

    -- runs keep logs legal
    pub runs_legal : (old new : Running R S) → AreFunded old.rows → AreAsked searching asks old.rows → Run recording searching workers IsSize begin old new → LegalFrom recording.valid recording.settles asks [] old.log → LegalFrom recording.valid recording.settles asks [] new.log
    runs_legal old new funded asked h legal = leads_legal h.0 old new funded asked h.1 legal
