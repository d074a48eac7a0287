-- Lemmas on events and on runs: what stays of rows, and that logs grow.
use Rattle.std.proofs.Common.{◌≡◌, ℕ, ◌+◌, ◌≤◌, Bool, false, List, [], ◌∷◌, ◌++◌, refl, ap, sym, ◌∙◌, subst, arith, append-nil, append_assoc}
use Rattle.mg_core.specs.declared.entries.Entry.{Entry}
use Rattle.mg_core.specs.declared.entries.Facts.{Facts}
use Rattle.mg_core.proofs.Hands.{handed_of_group, handed_few}
use Rattle.mg_turn.specs.declared.outcome.Outcome.{Outcome}
use Rattle.mg_core.specs.Recording.{Recording}
use Rattle.mg_turn.specs.Turn.{Searching, Sound, IsSound, AreWanted}
use Rattle.mg_workers.specs.Run.{Row, Running, Begins, entry_of, row_after, Event, Leads, Runs}
use Rattle.mg_workers.specs.Rows.{EachPair, Keeps, AreFunded}
use Rattle.mg_workers.proofs.Pairs.{all_along, all_imply, pairs_same, pairs_then, pairs_set, all_at, others_all}

module _ {R K G S : Type 0} (recording : Recording R K G) (searching : Searching R K G S) (workers : ℕ) (IsSize : ℕ → ℕ → ℕ → ℕ → Type 0) (begin : List (Entry R)) where
  abbrev pub Happens : Running R S → Running R S → Type 0
  Happens old new = Event recording searching workers IsSize begin old new

  abbrev pub LeadsBy : Running R S → List (Running R S) → Running R S → Type 0
  LeadsBy old states new = Leads recording searching workers IsSize begin old states new

  abbrev pub Run : Running R S → Running R S → Type 0
  Run old new = Runs recording searching workers IsSize begin old new

  -- two runs, one behind the other
  leads_then : (states more : List (Running R S)) (old mid new : Running R S) → LeadsBy old states mid → LeadsBy mid more new → LeadsBy old (states ++ more) new
  leads_then [] more old mid new a b = subst (λ (r : Running R S). LeadsBy r more new) (sym a) b
  leads_then (s ∷ states) more old mid new a b = (a.0, leads_then states more s mid new a.1 b)

  pub runs_then : (old mid new : Running R S) → Run old mid → Run mid new → Run old new
  runs_then old mid new a b = (a.0 ++ b.0, leads_then a.0 b.0 old mid new a.1 b.1)

  -- a run, and an event behind it
  pub runs_push : (old mid new : Running R S) → Run old mid → Happens mid new → Run old new
  runs_push old mid new a e = runs_then old mid new a (new ∷ [], (e, refl))

  -- the log grows at its end
  leads_begins : (states : List (Running R S)) (old new : Running R S) → LeadsBy old states new → Begins old.log new.log
  leads_begins [] old new h = ([], ap (λ (r : Running R S). r.log) (sym h) ∙ sym (append-nil old.log))
  leads_begins (mid ∷ states) old new h =
      let rest = leads_begins states mid new h.1 in
      let entry = entry_of h.0.pass h.0.row h.0.outcome h.0.dropped in
      (entry ∷ rest.0, rest.1 ∙ ap (λ log. log ++ rest.0) h.0.log ∙ append_assoc old.log (entry ∷ []) rest.0)

  pub runs_begins : (old new : Running R S) → Run old new → Begins old.log new.log
  runs_begins old new h = leads_begins h.0 old new h.1

  -- the models of an event are wanted, and so its turn is sound
  wanted : (old new : Running R S) (e : Happens old new) → AreWanted recording searching e.row.search e.units e.facts
  wanted old new e = record {
    few = handed_few recording.model_of (searching.group e.row.search) e.seen e.row.read (searching.wants e.row.search e.units) e.facts e.handed;
    of_group = handed_of_group recording.model_of (searching.group e.row.search) e.seen e.row.read (searching.wants e.row.search e.units) e.facts e.handed;
  }

  module _ (sound : Sound recording searching) where
    pub event_sound : (old new : Running R S) (e : Happens old new) → IsSound recording searching e.row.search e.units e.facts e.outcome e.search
    event_sound old new e = sound e.row.search e.units e.facts e.outcome e.search e.openness e.units_from (wanted old new e) e.turn

    -- what stays of the row of a turn
    keeps_turn : (row : Row S) (units : ℕ) (facts : Facts R) (outcome : Outcome R) (dropped : Bool) (after : S) → row.allowed ≤ row.held → row.left ≡ false → units ≤ row.allowed → IsSound recording searching row.search units facts outcome after → Keeps searching row (row_after row facts outcome dropped after)
    keeps_turn row units facts outcome dropped after funded stays upto turn = record {
      number = refl;
      key = turn.key;
      group = turn.group;
      balance = omega (arith, turn.within);
      kept_back = omega (arith, turn.within);
      within = omega (arith, turn.within);
      rises = omega arith;
      counted = λ same. turn.spent ∙ ap (λ n. n + outcome.spent) same;
      stays_left = λ left. absurd (cc);
    }

    keeps_itself : (row : Row S) → row.allowed ≤ row.held → Keeps searching row row
    keeps_itself row funded = record {
      number = refl;
      key = refl;
      group = refl;
      balance = refl;
      kept_back = refl;
      within = funded;
      rises = omega arith;
      counted = λ same. same;
      stays_left = λ left. refl;
    }

    keeps_then : (x y z : Row S) → Keeps searching x y → Keeps searching y z → Keeps searching x z
    keeps_then x y z a b = record {
      number = b.number ∙ a.number;
      key = b.key ∙ a.key;
      group = b.group ∙ a.group;
      balance = b.balance ∙ a.balance;
      kept_back = b.kept_back ∙ a.kept_back;
      within = b.within;
      rises = omega (arith, a.rises, b.rises);
      counted = λ same. b.counted (a.counted same);
      stays_left = λ left. b.stays_left (ap (λ (r : Row S). r.left) (a.stays_left left) ∙ left) ∙ a.stays_left left;
    }

    pub event_keeps : (old new : Running R S) → AreFunded old.rows → Happens old new → EachPair (Keeps searching) old.rows new.rows
    event_keeps old new funded e =
        let row_fits = all_at (λ (row : Row S). row.allowed ≤ row.held) old.rows e.place e.row funded e.of_row in
        let after = row_after e.row e.facts e.outcome e.dropped e.search in
        subst (EachPair (Keeps searching) old.rows) (sym e.rows)
        (pairs_set (Keeps searching) (λ x z. z.allowed ≤ z.held) old.rows e.place e.row after e.of_row
        (keeps_turn e.row e.units e.facts e.outcome e.dropped e.search row_fits e.stays e.units_upto (event_sound old new e))
        keeps_itself (others_all (λ (z : Row S). z.allowed ≤ z.held) old.rows e.place e.row funded))

    pub still_funded : (xs ys : List (Row S)) → EachPair (Keeps searching) xs ys → AreFunded xs → AreFunded ys
    still_funded = all_along (Keeps searching) (λ (x : Row S). x.allowed ≤ x.held) (λ (y : Row S). y.allowed ≤ y.held) (λ x y k _. k.within)

    leads_keep : (states : List (Running R S)) (old new : Running R S) → AreFunded old.rows → LeadsBy old states new → EachPair (Keeps searching) old.rows new.rows
    leads_keep [] old new funded h = subst (λ (r : Running R S). EachPair (Keeps searching) old.rows r.rows) h (pairs_same (Keeps searching) old.rows (all_imply (λ (x : Row S). x.allowed ≤ x.held) (λ x. Keeps searching x x) keeps_itself old.rows funded))
    leads_keep (mid ∷ states) old new funded h =
        let first = event_keeps old mid funded h.0 in
        pairs_then (Keeps searching) (Keeps searching) (Keeps searching) keeps_then old.rows mid.rows new.rows first (leads_keep states mid new (still_funded old.rows mid.rows first funded) h.1)

    -- what stays of each row in a run
    pub runs_keep : (old new : Running R S) → AreFunded old.rows → Run old new → EachPair (Keeps searching) old.rows new.rows
    runs_keep old new funded h = leads_keep h.0 old new funded h.1

-- a run is one with more workers too, and one with a wider relation of sizes
module _ {R K G S : Type 0} (recording : Recording R K G) (searching : Searching R K G S) (begin : List (Entry R)) (workers more : ℕ) (IsSize Wider : ℕ → ℕ → ℕ → ℕ → Type 0) (fewer : workers ≤ more) (wider : (turns spent allowed units : ℕ) → IsSize turns spent allowed units → Wider turns spent allowed units) where
  event_widens : (old new : Running R S) → Event recording searching workers IsSize begin old new → Event recording searching more Wider begin old new
  event_widens old new e = record {
    place = e.place;
    row = e.row;
    of_row = e.of_row;
    stays = e.stays;
    allowed = e.allowed;
    openness = e.openness;
    pass = e.pass;
    pass_from = e.pass_from;
    pass_upto = omega (arith, e.pass_upto, fewer);
    units = e.units;
    is_size = wider e.row.turns e.row.spent e.row.allowed e.units e.is_size;
    units_from = e.units_from;
    units_upto = e.units_upto;
    seen = e.seen;
    seen_all_before = e.seen_all_before;
    seen_is_there = e.seen_is_there;
    facts = e.facts;
    handed = e.handed;
    outcome = e.outcome;
    search = e.search;
    turn = e.turn;
    dropped = e.dropped;
    is_dropped = e.is_dropped;
    log = e.log;
    rows = e.rows;
    once = e.once;
  }

  leads_widen : (states : List (Running R S)) (old new : Running R S) → Leads recording searching workers IsSize begin old states new → Leads recording searching more Wider begin old states new
  leads_widen [] old new h = h
  leads_widen (mid ∷ states) old new h = (event_widens old mid h.0, leads_widen states mid new h.1)

  pub runs_widen : (old new : Running R S) → Runs recording searching workers IsSize begin old new → Runs recording searching more Wider begin old new
  runs_widen old new h = (h.0, leads_widen h.0 old new h.1)
