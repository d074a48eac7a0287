-- Lemmas on runs of one search that finds at its third unit.
use Rattle.std.proofs.Common.{◌≡◌, ℕ, ◌+◌, ◌-◌, ◌<◌, ◌≤◌, ◌⊎◌, inl, inr, Bool, true, false, cond, nat_lt, List, [], ◌∷◌, ◌++◌, Some, refl, ap, sym, ◌∙◌, subst, arith, zero-add, lit<}
use Rattle.std.specs.Prelude.{slice_get}
use Rattle.std.specs.List.{AllByRecursion}
use Rattle.std.proofs.lemmas.Bool.Decides.{nat_tests}
use Rattle.mg_core.specs.declared.entries.Entry.{Entry}
use Rattle.mg_core.specs.Log.{facts_of, Settled}
use Rattle.mg_core.proofs.Logs.{facts_of-append}
use Rattle.mg_turn.specs.declared.outcome.TurnEnd.{TurnEnd}
use Rattle.mg_turn.specs.declared.outcome.TurnEnd.TheVariants as ended
use Rattle.mg_core.specs.Recording.{Recording}
use Rattle.mg_turn.specs.Turn.{records_of, goes_on}
use Rattle.mg_double.specs.Third.{Third, ThirdEnd, third}
use Rattle.mg_workers.specs.declared.held.End.{End}
use Rattle.mg_workers.specs.declared.held.End.TheVariants as ends
use Rattle.mg_workers.specs.Run.{Row, Running, entry_of, row_after, end_after, leaves_at, Finished}
use Rattle.mg_workers.specs.Examples.{third_with}
use Rattle.mg_workers.proofs.Pairs.{only}
use Rattle.mg_workers.proofs.Events.{Happens, LeadsBy, Run}

not_true : (b : Bool) → (b ≡ true → ⊥) → b ≡ false
not_true true h = absurd (h refl)
not_true false h = refl

-- how the search stands: it goes on with less than three units, and has put no fact into the log, or it has found
abbrev StandsAs : {R : Type 0} → Bool → ℕ → End → List R → Type 0
StandsAs left spent end facts =
    ((left ≡ false) × (spent < 3) × (facts ≡ []) × ((end ≡ ends.More) ⊎ (spent ≡ 0))) ⊎ ((left ≡ true) × (spent ≡ 3) × (end ≡ ends.Found))

module _ {R K G : Type 0} (recording : Recording R K G) (verdict : K → R) (workers : ℕ) (IsSize : ℕ → ℕ → ℕ → ℕ → Type 0) (begin : List (Entry R)) (bound : ℕ) where
  record Stands (facts : List R) (row : Row (Third K G)) : Type 0 where
    counted : row.search.spent ≡ row.spent
    all : row.spent + row.allowed ≡ bound
    held_is : row.held ≡ row.allowed
    stands : StandsAs row.left row.spent row.end facts

  record State (running : Running R (Third K G)) : Type 0 where
    row : Row (Third K G)
    rows_are : running.rows ≡ row ∷ []
    state : Stands (facts_of running.log) row

  end_stands : (key : K) (before units spent : ℕ) (end : TurnEnd R) → ThirdEnd recording verdict key before units spent end → nat_lt (before + spent) 3 ≡ goes_on end →
      StandsAs (leaves_at (end_after false end)) (before + spent) (end_after false end) (records_of end ++ [])
  end_stands key before units spent ended.More h goes = inl (refl, grind (arith, nat_tests), refl, inl refl)
  end_stands key before units spent (ended.Found records) h goes = inr (refl, h.0, refl)
  end_stands key before units spent (ended.Closed records) h goes = absurd h
  end_stands key before units spent ended.Idle h goes = absurd h
  end_stands key before units spent (ended.Stopped seen) h goes = inl (refl, grind (arith, nat_tests), refl, inl refl)
  end_stands key before units spent (ended.Full what count) h goes = absurd h

  no_fact_settles : (log : List (Entry R)) (key : K) → facts_of log ≡ [] → Settled recording.settles log key → ⊥
  no_fact_settles log key none settled =
      let there = subst (λ facts. slice_get facts (settled.0 - 1) ≡ Some settled.1) none settled.2.fact.there in
      cc

  -- before a turn the search goes on, and no fact is there
  before_turn : (facts : List R) (row : Row (Third K G)) → row.left ≡ false → Stands facts row → facts ≡ []
  before_turn facts row stays s = elim s.stands [ inl h ↦ h.2 | inr h ↦ absurd (let bad : true ≡ false = sym h.0 ∙ stays in cc) ]

  event_state : (old new : Running R (Third K G)) → State old → Happens recording (third recording verdict) workers IsSize begin old new → State new
  event_state old new s e =
      let after = row_after e.row e.facts e.outcome e.dropped e.search in
      let place = only old.rows s.row e.row after e.place s.rows_are e.of_row in
      let here = subst (Stands (facts_of old.log)) place.0 s.state in
      let none = before_turn (facts_of old.log) e.row e.stays here in
      let kept = not_true e.dropped (λ dropped. no_fact_settles old.log e.row.search.key none (e.is_dropped.0 dropped)) in
      let spent : e.search.spent ≡ e.row.search.spent + e.outcome.spent = ap (λ (t : Third K G). t.spent) e.turn.after_is in
      let sum : e.row.search.spent + e.outcome.spent ≡ e.row.spent + e.outcome.spent = ap (λ n. n + e.outcome.spent) here.counted in
      let stands = subst (λ n. StandsAs (leaves_at (end_after false e.outcome.end)) n (end_after false e.outcome.end) (records_of e.outcome.end ++ [])) sum
      (end_stands e.row.search.key e.row.search.spent e.units e.outcome.spent e.outcome.end e.turn.end e.turn.openness) in
      let stands_here = subst (λ d. StandsAs (leaves_at (end_after d e.outcome.end)) (e.row.spent + e.outcome.spent) (end_after d e.outcome.end) (cond d [] (cond d [] (records_of e.outcome.end) ++ []))) (sym kept) stands in
      let facts : facts_of new.log ≡ cond e.dropped [] (cond e.dropped [] (records_of e.outcome.end) ++ []) =
      ap facts_of e.log ∙ facts_of-append old.log (entry_of e.pass e.row e.outcome e.dropped ∷ []) ∙ ap (λ fs. fs ++ cond e.dropped [] (cond e.dropped [] (records_of e.outcome.end) ++ [])) none in
      record {
        row = after;
        rows_are = e.rows ∙ place.1;
        state = record {
          counted = spent ∙ sum;
          all = omega (arith, here.all, e.turn.within);
          held_is = omega (arith, here.held_is);
          stands = subst (StandsAs after.left after.spent after.end) (sym facts) stands_here;
        };
      }

  leads_state : (states : List (Running R (Third K G))) (old new : Running R (Third K G)) → State old → LeadsBy recording (third recording verdict) workers IsSize begin old states new → State new
  leads_state [] old new s h = subst State h s
  leads_state (mid ∷ states) old new s h = leads_state states mid new (event_state old mid s h.0) h.1

  begins_state : (key : K) (group : G) (number : ℕ) → State (third_with key group number bound)
  begins_state key group number = record {
    row = _;
    rows_are = refl;
    state = record { counted = refl; all = zero-add bound; held_is = refl; stands = inl (refl, lit< tt, refl, inr refl) };
  }

  run_state : (key : K) (group : G) (number : ℕ) (new : Running R (Third K G)) → Run recording (third recording verdict) workers IsSize begin (third_with key group number bound) new → State new
  run_state key group number new h = leads_state h.0 (third_with key group number bound) new (begins_state key group number) h.1

  last_row : (new : Running R (Third K G)) (s : State new) → Finished new → (s.row.left ≡ true) ⊎ (s.row.allowed ≡ 0)
  last_row new s finished =
      let moved = subst (AllByRecursion (λ (row : Row (Third K G)). (row.left ≡ true) ⊎ (row.allowed ≡ 0))) s.rows_are finished in
      moved.0

  -- with less than three units it spends them all, and goes on
  pub spends_all : (key : K) (group : G) (number : ℕ) (new : Running R (Third K G)) → 1 ≤ bound → bound < 3 → Run recording (third recording verdict) workers IsSize begin (third_with key group number bound) new → Finished new →
      (after : Row (Third K G)) × (new.rows ≡ after ∷ []) × (after.spent ≡ bound) × (after.held ≡ 0) × (after.allowed ≡ 0) × (after.end ≡ ends.More)
  spends_all key group number new some few h finished =
      let s = run_state key group number new h in
      elim s.state.stands [
        | inl on ↦
            elim (last_row new s finished) [
              | inl left ↦ absurd (let bad : true ≡ false = sym left ∙ on.0 in cc)
              | inr none ↦
                  let spent : s.row.spent ≡ bound = omega (arith, s.state.all) in
                  (s.row, s.rows_are, spent, s.state.held_is ∙ none, none, elim on.3 [ inl end ↦ end | inr unspent ↦ absurd (omega arith) ])
            ]
        | inr found ↦ absurd (omega (arith, s.state.all, found.1))
      ]

  -- with three or more it spends three, and has found
  pub finds : (key : K) (group : G) (number : ℕ) (new : Running R (Third K G)) → 3 ≤ bound → Run recording (third recording verdict) workers IsSize begin (third_with key group number bound) new → Finished new →
      (after : Row (Third K G)) × (new.rows ≡ after ∷ []) × (after.spent ≡ 3) × (after.held ≡ bound - 3) × (after.allowed ≡ bound - 3) × (after.end ≡ ends.Found)
  finds key group number new enough h finished =
      let s = run_state key group number new h in
      elim s.state.stands [
        | inl on ↦
            elim (last_row new s finished) [
              | inl left ↦ absurd (let bad : true ≡ false = sym left ∙ on.0 in cc)
              | inr none ↦ absurd (omega (arith, s.state.all, on.1))
            ]
        | inr found ↦
            let rest : s.row.allowed ≡ bound - 3 = omega (arith, s.state.all, found.1) in
            (s.row, s.rows_are, found.1, s.state.held_is ∙ rest, rest, found.2)
      ]
