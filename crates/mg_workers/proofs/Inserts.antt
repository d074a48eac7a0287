-- Lemmas that a row more, of a search that takes no part, changes nothing of a run.
use Rattle.std.proofs.Common.{◌≡◌, ℕ, zero, suc, ◌⊎◌, inl, true, List, [], ◌∷◌, Some, map, set, refl, ap, ◌∙◌}
use Rattle.std.specs.Prelude.{slice_get, insert}
use Rattle.std.specs.List.{AllByRecursion}
use Rattle.mg_core.specs.declared.entries.Entry.{Entry}
use Rattle.mg_core.specs.Recording.{Recording}
use Rattle.mg_turn.specs.Turn.{Searching}
use Rattle.mg_workers.specs.Run.{Row, Running, row_after, Finished}
use Rattle.mg_workers.specs.Rows.{with_row}
use Rattle.mg_workers.proofs.Events.{Happens, LeadsBy, Run}

-- where a member stands in the longer list, whatever is written there
module _ {X : Type 0} (w : X) where
  pub moved : (p : ℕ) (xs : List X) (i : ℕ) (x : X) → slice_get xs i ≡ Some x → (j : ℕ) × (slice_get (insert xs p w) j ≡ Some x) × ((y : X) → insert (set xs i y) p w ≡ set (insert xs p w) j y)
  moved zero xs i x e = (suc i, e, λ y. refl)
  moved (suc p) [] i x e = absurd (cc)
  moved (suc p) (v ∷ vs) zero x e = (zero, e, λ y. refl)
  moved (suc p) (v ∷ vs) (suc i) x e =
      let rest = moved p vs i x e in
      (suc rest.0, rest.1, λ y. ap (λ ws. v ∷ ws) (rest.2 y))

  pub all_insert : (P : X → Type 0) (p : ℕ) (xs : List X) → P w → AllByRecursion P xs → AllByRecursion P (insert xs p w)
  all_insert P zero xs h all = (h, all)
  all_insert P (suc p) [] h all = (h, tt)
  all_insert P (suc p) (x ∷ xs) h all = (all.0, all_insert P p xs h all.1)

module _ {R K G S : Type 0} (recording : Recording R K G) (searching : Searching R K G S) (workers : ℕ) (IsSize : ℕ → ℕ → ℕ → ℕ → Type 0) (begin : List (Entry R)) (place : ℕ) (row : Row S) where
  event_with_row : (old new : Running R S) → Happens recording searching workers IsSize begin old new → Happens recording searching workers IsSize begin (with_row place row old) (with_row place row new)
  event_with_row old new e =
      let there = moved row place old.rows e.place e.row e.of_row in
      record {
        place = there.0;
        row = e.row;
        of_row = there.1;
        stays = e.stays;
        allowed = e.allowed;
        openness = e.openness;
        pass = e.pass;
        pass_from = e.pass_from;
        pass_upto = e.pass_upto;
        units = e.units;
        is_size = e.is_size;
        units_from = e.units_from;
        units_upto = e.units_upto;
        seen = e.seen;
        seen_all_before = e.seen_all_before;
        seen_is_there = e.seen_is_there;
        facts = e.facts;
        handed = e.handed;
        outcome = e.outcome;
        search = e.search;
        turn = e.turn;
        dropped = e.dropped;
        is_dropped = e.is_dropped;
        log = e.log;
        rows = ap (λ rows. insert rows place row) e.rows ∙ there.2 (row_after e.row e.facts e.outcome e.dropped e.search);
        once = e.once;
      }

  leads_with_row : (states : List (Running R S)) (old new : Running R S) → LeadsBy recording searching workers IsSize begin old states new → LeadsBy recording searching workers IsSize begin (with_row place row old) (map (with_row place row) states) (with_row place row new)
  leads_with_row [] old new h = ap (with_row place row) h
  leads_with_row (mid ∷ states) old new h = (event_with_row old mid h.0, leads_with_row states mid new h.1)

  -- a run with a row more is a run
  pub runs_with_row : (old new : Running R S) → Run recording searching workers IsSize begin old new → Run recording searching workers IsSize begin (with_row place row old) (with_row place row new)
  runs_with_row old new h = (map (with_row place row) h.0, leads_with_row h.0 old new h.1)

-- and finished where it was, if that row has left
pub finished_with_row : {R S : Type 0} (place : ℕ) (row : Row S) (running : Running R S) → row.left ≡ true → Finished running → Finished (with_row place row running)
finished_with_row {R} {S} place row running left h = all_insert row (λ (r : Row S). (r.left ≡ true) ⊎ (r.allowed ≡ 0)) place running.rows (inl left) h
