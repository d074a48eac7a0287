-- Lemmas on one worker that goes round its searches.
use Rattle.std.proofs.Common.{◌≡◌, ℕ, zero, suc, ◌+◌, ◌-◌, ◌*◌, ◌<◌, ◌≤◌, ◌^◌, ◌↔◌, ◌⊎◌, inl, inr, min, Bool, true, false, cond, not, ◌||◌, ◌&&◌, List, [], ◌∷◌, ◌++◌, Some, None, length, get_or, map, take, drop, set, reverse, refl, ap, sym, ◌∙◌, subst, arith, append-nil, append_assoc}
use Rattle.std.specs.Prelude.{slice_get, Result, Ok, Err, IsTrue, IsSome, IsNone, IfSome, IfOk, OnOk, OnErr, Option}
use Rattle.std.specs.List.{AllByRecursion}
use Rattle.std.proofs.lemmas.List.{length-map, map-append, map-set, reverse-append}
use Rattle.mg_core.specs.declared.entries.Entry.{Entry}
use Rattle.mg_core.specs.declared.entries.Facts.{Facts}
use Rattle.mg_core.specs.Book.{bare}
use Rattle.mg_core.specs.Log.{facts_of, Settled, Handed}
use Rattle.mg_core.specs.Streaks.{IsLastEmpty, next_of}
use Rattle.mg_core.proofs.Logs.{facts_of-append}
use Rattle.mg_turn.specs.declared.outcome.Outcome.{Outcome}
use Rattle.mg_turn.specs.declared.outcome.TurnEnd.{TurnEnd}
use Rattle.mg_turn.specs.declared.outcome.TurnEnd.TheVariants.{More, Found, Closed, Idle, Stopped, Full}
use Rattle.mg_core.specs.Recording.{Recording}
use Rattle.mg_turn.specs.Turn.{Searching, Sound, IsSound, EndFits, records_of, goes_on, is_stopped}
use Rattle.mg_workers.specs.declared.held.Held.{Held}
use Rattle.mg_workers.specs.declared.seat.Seat.{Seat}
use Rattle.mg_workers.specs.declared.held.End.{End}
use Rattle.mg_workers.specs.declared.held.End.TheVariants as ends
use Rattle.mg_workers.specs.Run.{Row, Running, Begins, Event, Runs, Finished, entry_of, row_after, end_after, leaves_at}
use Rattle.mg_workers.specs.Rows.{EachPair}
use Rattle.mg_workers.specs.Round.{row_of, entered, ComesTo, IsFit, GoesRound}
use Rattle.mg_workers.specs.Seats.{seat_of, row_at, seated, cells_of, turns_ahead, Follows, PutsDown, whole, after_whole}
use Rattle.mg_workers.proofs.Pairs.{all_at, all_set, only}
use Rattle.mg_workers.proofs.Counts.{event_uses, total, total-set, chances}
use Rattle.mg_workers.proofs.Events.{Happens, event_sound, runs_then, runs_push, runs_begins}
use Rattle.mg_workers.proofs.Legality.{end_settles}

pub begins_itself : {X : Type 0} (xs : List X) → Begins xs xs
begins_itself xs = ([], sym (append-nil xs))

pub begins_then : {X : Type 0} (xs ys zs : List X) → Begins xs ys → Begins ys zs → Begins xs zs
begins_then xs ys zs a b = (a.0 ++ b.0, b.1 ∙ ap (λ vs. vs ++ b.0) a.1 ∙ append_assoc xs a.0 b.0)

get_map : {X Y : Type 0} (f : X → Y) (xs : List X) (i : ℕ) (x : X) → slice_get xs i ≡ Some x → slice_get (map f xs) i ≡ Some (f x)
get_map f [] i x e = absurd (cc)
get_map f (w ∷ ws) zero x e = let same : w ≡ x = cc in ap (λ v. Some (f v)) same
get_map f (w ∷ ws) (suc i) x e = get_map f ws i x e

-- what stands at a place
pub at_place : {X : Type 0} (xs : List X) (i : ℕ) (d : X) → i < length xs → slice_get xs i ≡ Some (get_or xs i d)
at_place [] i d within = absurd (omega arith)
at_place (w ∷ ws) zero d within = refl
at_place (w ∷ ws) (suc i) d within = at_place ws i d (omega arith)

pub set_itself : {X : Type 0} (xs : List X) (i : ℕ) (d : X) → set xs i (get_or xs i d) ≡ xs
set_itself [] i d = refl
set_itself (w ∷ ws) zero d = refl
set_itself (w ∷ ws) (suc i) d = ap (λ vs. w ∷ vs) (set_itself ws i d)

-- a list that is written over one of its length
taken_back : {X : Type 0} (new old : List X) (n : ℕ) → length new ≡ n → length old ≡ n → take n (new ++ drop (length new) old) ≡ new
taken_back [] old n a b = subst (λ m. take m old ≡ []) a refl
taken_back (x ∷ xs) [] n a b = absurd (omega arith)
taken_back (x ∷ xs) (y ∷ ys) n a b = subst (λ m. take m ((x ∷ xs) ++ drop (suc (length xs)) (y ∷ ys)) ≡ x ∷ xs) a (ap (λ v. x ∷ v) (taken_back xs ys (length xs) refl (omega arith)))

-- a list of one member
pub one_member : {X : Type 0} (xs : List X) (d y : X) → 1 ≤ length xs → length xs < 2 → (xs ≡ get_or xs 0 d ∷ []) × (set xs 0 y ≡ y ∷ [])
one_member [] d y some few = absurd (omega (arith, some))
one_member (w ∷ []) d y some few = (refl, refl)
one_member (w ∷ v ∷ ws) d y some few = absurd (omega (arith, few))

pub if_ok : {T E : Type 0} (P Q : T → Type 0) → ((x : T) → P x → Q x) → (result : Result T E) → IfOk result P → IfOk result Q
if_ok P Q imply (Ok x) h = imply x h
if_ok P Q imply (Err e) h = tt

-- what is settled by some facts is settled by the same facts
settled_along : {R K : Type 0} (settles : R → Option K) (log other : List (Entry R)) (key : K) → facts_of log ≡ facts_of other → Settled settles log key → Settled settles other key
settled_along settles log other key same h =
    let n = h.0 in
    let r = h.1 in
    let verdict = h.2 in (
      n,
      r,
      record {
        fact = record { from_one = verdict.fact.from_one; there = ap (λ fs. slice_get fs (n - 1)) (sym same) ∙ verdict.fact.there };
        verdict = verdict.verdict;
        first = λ m q small fact. verdict.first m q small (record { from_one = fact.from_one; there = ap (λ fs. slice_get fs (m - 1)) same ∙ fact.there });
      },
    )

-- what the changed member has as it had before stays
map_stays : {X Y : Type 0} (f : X → Y) (xs : List X) (i : ℕ) (x y : X) → slice_get xs i ≡ Some x → f y ≡ f x → map f (set xs i y) ≡ map f xs
map_stays f [] i x y e same = absurd (cc)
map_stays f (w ∷ ws) zero x y e same = let here : w ≡ x = cc in ap (λ v. v ∷ map f ws) (same ∙ ap f (sym here))
map_stays f (w ∷ ws) (suc i) x y e same = ap (λ vs. f w ∷ vs) (map_stays f ws i x y e same)

pub cells_stay : {S : Type 0} (seats : List (Seat S)) (i : ℕ) (x y : Seat S) → slice_get seats i ≡ Some x → y.held.cell ≡ x.held.cell → cells_of (set seats i y) ≡ cells_of seats
cells_stay {S} seats i x y e same = map_stays (λ (seat : Seat S). seat.held.cell) seats i x y e same

-- seats that a round has gone over, back in their vector
pub seats_back : {S : Type 0} (items now new : List (Seat S)) (len : ℕ) → now ≡ items → length now ≡ len → cells_of new ≡ cells_of now → take len (new ++ drop (length new) items) ≡ new
seats_back {S} items now new len same long cells =
    let as_long : length new ≡ length now = sym (length-map new (λ (seat : Seat S). seat.held.cell)) ∙ ap length cells ∙ length-map now (λ (seat : Seat S). seat.held.cell) in
    taken_back new items len (as_long ∙ long) (ap length (sym same) ∙ long)

turns_ahead_is : {S : Type 0} (rows : List (Row S)) → turns_ahead rows ≡ total (λ row. row.allowed + chances row.left row.looked) rows
turns_ahead_is [] = refl
turns_ahead_is (row ∷ rows) = omega (arith, turns_ahead_is rows)

-- a search that doesn't leave at its turn goes on
still_open : {R : Type 0} (dropped : Bool) (end : TurnEnd R) → leaves_at (end_after dropped end) ≡ false → goes_on end ≡ true
still_open true end stays = absurd (cc)
still_open false More stays = refl
still_open false (Found records) stays = absurd (cc)
still_open false (Closed records) stays = absurd (cc)
still_open false Idle stays = absurd (cc)
still_open false (Stopped seen) stays = refl
still_open false (Full what count) stays = absurd (cc)

cells_of_held : {S : Type 0} (seats : List (Seat S)) → map (λ (search : Held S). search.cell) (map (λ (seat : Seat S). seat.held) seats) ≡ cells_of seats
cells_of_held [] = refl
cells_of_held (seat ∷ seats) = ap (λ cells. seat.held.cell ∷ cells) (cells_of_held seats)

cells_of_new : {S : Type 0} (searches : List (Held S)) → cells_of (map seat_of searches) ≡ map (λ (search : Held S). search.cell) searches
cells_of_new [] = refl
cells_of_new (search ∷ searches) = ap (λ cells. search.cell ∷ cells) (cells_of_new searches)

-- a search that doesn't go on is over
pub over_unless : (left goes : Bool) (allowed : ℕ) → IsTrue goes ↔ ((left ≡ false) × (1 ≤ allowed)) → goes ≡ false → (left ≡ true) ⊎ (allowed ≡ 0)
over_unless true goes allowed h stays = inl refl
over_unless false goes zero h stays = inr refl
over_unless false goes (suc n) h stays = let on : IsTrue goes = h.1 (refl, omega arith) in absurd (cc)

-- one more of the first members
all_more : {X Y : Type 0} (f : X → Y) (P : Y → Type 0) (xs : List X) (i : ℕ) (x : X) → slice_get xs i ≡ Some x → P (f x) → AllByRecursion P (map f (take i xs)) → AllByRecursion P (map f (take (suc i) xs))
all_more f P [] i x e here h = absurd (cc)
all_more f P (w ∷ ws) zero x e here h = let same : w ≡ x = cc in (subst (λ v. P (f v)) (sym same) here, tt)
all_more f P (w ∷ ws) (suc i) x e here h = (h.0, all_more f P ws i x e here h.1)

-- a member that is popped from one list and pushed on another
pub moved_over : {X Y : Type 0} (f : X → Y) (all : List Y) (xs : List X) (x : X) (ys : List Y) → all ≡ map f (xs ++ x ∷ []) ++ reverse ys → all ≡ map f xs ++ reverse (ys ++ f x ∷ [])
moved_over f all xs x ys e =
    e ∙ ap (λ v. v ++ reverse ys) (map-append f xs (x ∷ [])) ∙ append_assoc (map f xs) (f x ∷ []) (reverse ys) ∙ ap (λ v. map f xs ++ v) (sym (reverse-append ys (f x ∷ [])))

cond_of_end : {R : Type 0} (dropped : Bool) (end : TurnEnd R) → cond dropped ends.Stopped (end_after false end) ≡ end_after dropped end
cond_of_end true end = refl
cond_of_end false end = refl

-- an entry that was committed is that of the turn
pub entry_is : {R S : Type 0} (pass : ℕ) (row : Row S) (outcome : Outcome R) (dropped : Bool) (entry : Entry R) →
    entry ≡ entry_of pass row outcome false → cond dropped (bare entry) entry ≡ entry_of pass row outcome dropped
entry_is pass row outcome true entry same = ap bare same
entry_is pass row outcome false entry same = same

-- what is counted of a turn gives the row after it
module _ {R S : Type 0} (seat after : Seat S) (search : S) (facts : Facts R) (outcome : Outcome R) (dropped stopped : Bool) (kept : End) where
  abbrev pub counted : Bool → End → Held S
  counted stopped end = record {
    search = search;
    number = seat.held.number;
    cell = seat.held.cell;
    held = seat.held.held - outcome.spent;
    spent = seat.held.spent + outcome.spent;
    allowed = seat.held.allowed - outcome.spent;
    turns = min (seat.held.turns + 1) (2 ^ 64 - 1);
    read = cond stopped seat.held.read facts.upto;
    end = end;
  }

  pub row_is : stopped ≡ is_stopped outcome.end → kept ≡ end_after false outcome.end →
      after.held ≡ counted stopped (cond dropped ends.Stopped kept) → after.left ≡ leaves_at (cond dropped ends.Stopped kept) → after.looked ≡ (seat.looked || (stopped && not dropped)) →
      row_at after ≡ row_after (row_at seat) facts outcome dropped search
  row_is stops keeps held left looked =
      let end : cond dropped ends.Stopped kept ≡ end_after dropped outcome.end = ap (λ k. cond dropped ends.Stopped k) keeps ∙ cond_of_end dropped outcome.end in
      ap (λ h. row_of after.left after.looked h) held
      ∙ ap (λ l. row_of l after.looked (counted stopped (cond dropped ends.Stopped kept))) left
      ∙ ap (λ l. row_of (leaves_at (cond dropped ends.Stopped kept)) l (counted stopped (cond dropped ends.Stopped kept))) looked
      ∙ ap (λ b. row_of (leaves_at (cond dropped ends.Stopped kept)) (seat.looked || (b && not dropped)) (counted b (cond dropped ends.Stopped kept))) stops
      ∙ ap (λ e. row_of (leaves_at e) (seat.looked || (is_stopped outcome.end && not dropped)) (counted (is_stopped outcome.end) e)) end

-- the searches of seats are those of their rows
rows_are_held : {S : Type 0} (seats : List (Seat S)) → EachPair (λ (row : Row S) search. row ≡ row_of row.left row.looked search) (map row_at seats) (map (λ seat. seat.held) seats)
rows_are_held [] = tt
rows_are_held (seat ∷ seats) = (refl, rows_are_held seats)

-- searches that come into a run stand so in its rows
rows_of_new : {S : Type 0} (searches : List (Held S)) → map row_at (map seat_of searches) ≡ map (row_of false false) searches
rows_of_new [] = refl
rows_of_new (search ∷ searches) = ap (λ rows. row_of false false search ∷ rows) (rows_of_new searches)

module _ {R K G S : Type 0} (recording : Recording R K G) (searching : Searching R K G S) where
  few_records : (search : S) (units : ℕ) (facts : Facts R) (spent : ℕ) (end : TurnEnd R) → EndFits recording searching search units facts spent end → length (records_of end) ≤ 2
  few_records search units facts spent More fits = omega arith
  few_records search units facts spent (Found []) fits = absurd fits
  few_records search units facts spent (Found (first ∷ rest)) fits = omega (arith, fits.1)
  few_records search units facts spent (Closed records) fits = omega (arith, fits.0)
  few_records search units facts spent Idle fits = omega arith
  few_records search units facts spent (Stopped seen) fits = omega arith
  few_records search units facts spent (Full what count) fits = omega arith

  module _ (search : S) (units : ℕ) (facts : Facts R) (outcome : Outcome R) (after : S) (turn : IsSound recording searching search units facts outcome after) (records : List R) (records_are : records ≡ records_of outcome.end) where
    -- a sound turn brings at most two records
    pub brings_few : length records ≤ 2
    brings_few = subst (λ rs. length rs ≤ 2) (sym records_are) (few_records search units facts outcome.spent outcome.end turn.end)

    -- and those that settle something settle its key
    pub brings_settling : ((r : R) → recording.valid r → IsSome (recording.model_of r) → IsNone (recording.settles r)) → (key : K) → key ≡ searching.key search → AllByRecursion (λ r. IfSome (recording.settles r) (λ k. k ≡ key)) records
    brings_settling exclusive key same =
        subst (λ k. AllByRecursion (λ r. IfSome (recording.settles r) (λ q. q ≡ k)) records) (sym same)
        (subst (AllByRecursion (λ r. IfSome (recording.settles r) (λ q. q ≡ searching.key search))) (sym records_are)
        (end_settles recording searching exclusive search units facts outcome.spent outcome.end turn.valid turn.end))

  module _ (workers : ℕ) (IsSize : ℕ → ℕ → ℕ → ℕ → Type 0) (begin : List (Entry R)) where
    -- an event of one search is one of those among which it stands
    event_at : (rows : List (Row S)) (i : ℕ) (x y : Row S) (log more : List (Entry R)) → slice_get rows i ≡ Some x →
        Happens recording searching workers IsSize begin (record { rows = x ∷ []; log = log }) (record { rows = y ∷ []; log = more }) →
        Happens recording searching workers IsSize begin (record { rows = rows; log = log }) (record { rows = set rows i y; log = more })
    event_at rows i x y log more here e =
        let after = row_after e.row e.facts e.outcome e.dropped e.search in
        let alone = only (x ∷ []) x e.row after e.place refl e.of_row in
        let changed : y ∷ [] ≡ after ∷ [] = e.rows ∙ alone.1 in
        let same : y ≡ after = cc in
        record {
          place = i;
          row = e.row;
          of_row = here ∙ ap Some alone.0;
          stays = e.stays;
          allowed = e.allowed;
          openness = e.openness;
          pass = e.pass;
          pass_from = e.pass_from;
          pass_upto = e.pass_upto;
          units = e.units;
          is_size = e.is_size;
          units_from = e.units_from;
          units_upto = e.units_upto;
          seen = e.seen;
          seen_all_before = e.seen_all_before;
          seen_is_there = e.seen_is_there;
          facts = e.facts;
          handed = e.handed;
          outcome = e.outcome;
          search = e.search;
          turn = e.turn;
          dropped = e.dropped;
          is_dropped = e.is_dropped;
          log = e.log;
          rows = ap (λ row. set rows i row) same;
          once = e.once;
        }

    pub event_of_seat : (seats : List (Seat S)) (i : ℕ) (x y : Seat S) (log more : List (Entry R)) → slice_get seats i ≡ Some x →
        Happens recording searching workers IsSize begin (seated (x ∷ []) log) (seated (y ∷ []) more) →
        Happens recording searching workers IsSize begin (seated seats log) (seated (set seats i y) more)
    event_of_seat seats i x y log more here e =
        subst (λ (rows : List (Row S)). Happens recording searching workers IsSize begin (seated seats log) (record { rows = rows; log = more })) (sym (map-set row_at seats i y))
        (event_at (map row_at seats) i (row_at x) (row_at y) log more (get_map row_at seats i x here) e)

    module _ (sound : Sound recording searching) where
      -- rows stay fit
      pub event_fits : (old new : Running R S) → AllByRecursion (IsFit searching) old.rows → Happens recording searching workers IsSize begin old new → AllByRecursion (IsFit searching) new.rows
      event_fits old new fit e =
          let turn = event_sound recording searching workers IsSize begin sound old new e in
          let row_fit = all_at (IsFit searching) old.rows e.place e.row fit e.of_row in
          let after = row_after e.row e.facts e.outcome e.dropped e.search in
          subst (AllByRecursion (IsFit searching)) (sym e.rows)
          (all_set (IsFit searching) old.rows e.place after fit (record {
            within = omega (arith, row_fit.within, turn.within);
            counted = turn.spent ∙ ap (λ n. n + e.outcome.spent) row_fit.counted;
            in_all = omega (arith, row_fit.in_all, row_fit.within, turn.within, e.units_upto);
            openness = λ stays some. turn.openness ∙ still_open e.dropped e.outcome.end stays;
          }))

      -- and fewer turns are ahead
      pub event_falls : (old new : Running R S) → Happens recording searching workers IsSize begin old new → turns_ahead new.rows < turns_ahead old.rows
      event_falls old new e =
          let turn = event_sound recording searching workers IsSize begin sound old new e in
          let used = event_uses recording searching workers IsSize begin sound old new e in
          let after = row_after e.row e.facts e.outcome e.dropped e.search in
          let changed = ap turns_ahead e.rows in
          let sum = total-set (λ row. row.allowed + chances row.left row.looked) old.rows e.place e.row after e.of_row in
          omega (arith, used, turn.within, e.units_upto, changed, sum, turns_ahead_is old.rows, turns_ahead_is (set old.rows e.place after))

pub fit_at : {R K G S : Type 0} (searching : Searching R K G S) (seats : List (Seat S)) (place : ℕ) (seat : Seat S) → slice_get seats place ≡ Some seat → AllByRecursion (IsFit searching) (map row_at seats) → IsFit searching (row_at seat)
fit_at searching seats place seat here fit = all_at (IsFit searching) (map row_at seats) place (row_at seat) fit (get_map row_at seats place seat here)

-- how far one worker has come with a round of turns: up to which place, and whether some search took one
module _ {R K G S : Type 0} (recording : Recording R K G) (searching : Searching R K G S) (IsSize : ℕ → ℕ → ℕ → ℕ → Type 0) where
  pub record Goes (before : List (Seat S)) (begin : List (Entry R)) (seats : List (Seat S)) (log : List (Entry R)) (some : Bool) (place : ℕ) : Type 0 where
    pub runs : (first : List (Entry R)) → Begins first begin → Runs recording searching 1 IsSize first (seated before begin) (seated seats log)
    pub fit : AllByRecursion (IsFit searching) (map row_at seats)
    pub cells : cells_of seats ≡ cells_of before
    pub fewer : turns_ahead (map row_at seats) + cond some 1 0 ≤ turns_ahead (map row_at before)
    pub over : some ≡ false → AllByRecursion (λ (row : Row S). (row.left ≡ true) ⊎ (row.allowed ≡ 0)) (map row_at (take place seats))

  pub goes_by : (before : List (Seat S)) (begin : List (Entry R)) (seats : List (Seat S)) (log : List (Entry R)) (some : Bool) (place : ℕ) (seat : Seat S) → slice_get seats place ≡ Some seat → (seat.left ≡ true) ⊎ (seat.held.allowed ≡ 0) →
      Goes before begin seats log some place → Goes before begin seats log some (suc place)
  goes_by before begin seats log some place seat here over goes = record {
    runs = goes.runs;
    fit = goes.fit;
    cells = goes.cells;
    fewer = goes.fewer;
    over = λ none. all_more row_at (λ (row : Row S). (row.left ≡ true) ⊎ (row.allowed ≡ 0)) seats place seat here over (goes.over none);
  }

  pub goes_on_by : Sound recording searching → (before : List (Seat S)) (begin : List (Entry R)) (seats : List (Seat S)) (log more : List (Entry R)) (some : Bool) (place : ℕ) (seat after : Seat S) → slice_get seats place ≡ Some seat →
      ((first : List (Entry R)) → Begins first log → Happens recording searching 1 IsSize first (seated (seat ∷ []) log) (seated (after ∷ []) more)) → after.held.cell ≡ seat.held.cell →
      Goes before begin seats log some place → Goes before begin (set seats place after) more true (suc place)
  goes_on_by sound before begin seats log more some place seat after here turn cell goes =
      let event = λ (first : List (Entry R)) (begins : Begins first log). event_of_seat recording searching 1 IsSize first seats place seat after log more here (turn first begins) in
      let falls = event_falls recording searching 1 IsSize log sound (seated seats log) (seated (set seats place after) more) (event log (begins_itself log)) in
      record {
        runs = λ first begins.
            let run = goes.runs first begins in
            let grown = runs_begins recording searching 1 IsSize first (seated before begin) (seated seats log) run in
            runs_push recording searching 1 IsSize first (seated before begin) (seated seats log) (seated (set seats place after) more) run (event first (begins_then first begin log begins grown));
        fit = event_fits recording searching 1 IsSize log sound (seated seats log) (seated (set seats place after) more) goes.fit (event log (begins_itself log));
        cells = cells_stay seats place seat after here cell ∙ goes.cells;
        fewer = omega (arith, falls, goes.fewer);
        over = λ none. absurd (let bad : true ≡ false = none in cc);
      }

  pub goes_as : (before : List (Seat S)) (begin : List (Entry R)) (seats now : List (Seat S)) (log log_now : List (Entry R)) (some some_now : Bool) (place place_now : ℕ) → now ≡ seats → log_now ≡ log → some_now ≡ some → place_now ≡ place →
      Goes before begin seats log some place → Goes before begin now log_now some_now place_now
  goes_as before begin seats now log log_now some some_now place place_now seats_are log_is some_is place_is goes =
      subst (λ members. Goes before begin members log_now some_now place_now) (sym seats_are)
      (subst (λ entries. Goes before begin seats entries some_now place_now) (sym log_is)
      (subst (λ any. Goes before begin seats log any place_now) (sym some_is)
      (subst (λ at. Goes before begin seats log some at) (sym place_is) goes)))

  -- a run that comes to a log, and one that goes on from there
  pub comes_to : (first : List (Entry R)) (old : Running R S) (seats : List (Seat S)) (log new : List (Entry R)) → new ≡ log → Runs recording searching 1 IsSize first old (seated seats log) → ComesTo recording searching IsSize first old new
  comes_to first old seats log new same run = (map row_at seats, subst (λ entries. Runs recording searching 1 IsSize first old (record { rows = map row_at seats; log = entries })) (sym same) run)

  pub comes_then : (first : List (Entry R)) (old mid : Running R S) (log : List (Entry R)) → Runs recording searching 1 IsSize first old mid → ComesTo recording searching IsSize first mid log → ComesTo recording searching IsSize first old log
  comes_then first old mid log run h = (h.0, runs_then recording searching 1 IsSize first old mid (record { rows = h.0; log = log }) run h.1)

  -- where memory is wanting at the next turn of a round
  pub goes_lost : (before : List (Seat S)) (begin : List (Entry R)) (seats : List (Seat S)) (log : List (Entry R)) (some : Bool) (place : ℕ) (new : List (Entry R)) → new ≡ log → Goes before begin seats log some place →
      (first : List (Entry R)) → Begins first begin → ComesTo recording searching IsSize first (seated before begin) new
  goes_lost before begin seats log some place new same goes first begins = comes_to first (seated before begin) seats log new same (goes.runs first begins)

  -- what a run of a search alone has come to: it leads from the start to here, and the search is fit
  pub record Alone (start : Seat S) (begin : List (Entry R)) (here : Seat S) (log : List (Entry R)) : Type 0 where
    pub runs : (first : List (Entry R)) → Begins first begin → Runs recording searching 1 IsSize first (seated (start ∷ []) begin) (seated (here ∷ []) log)
    pub fit : IsFit searching (row_at here)

  pub alone_in : (seat : Seat S) (log : List (Entry R)) → IsFit searching (row_at seat) → Alone seat log seat log
  alone_in seat log fit = record { runs = λ first begins. ([], refl); fit = fit }

  pub alone_next : Sound recording searching → (start : Seat S) (begin : List (Entry R)) (seat after : Seat S) (log more : List (Entry R)) →
      ((first : List (Entry R)) → Begins first log → Happens recording searching 1 IsSize first (seated (seat ∷ []) log) (seated (after ∷ []) more)) →
      Alone start begin seat log → Alone start begin after more
  alone_next sound start begin seat after log more turn alone = record {
    runs = λ first begins.
        let run = alone.runs first begins in
        let grown = runs_begins recording searching 1 IsSize first (seated (start ∷ []) begin) (seated (seat ∷ []) log) run in
        runs_push recording searching 1 IsSize first (seated (start ∷ []) begin) (seated (seat ∷ []) log) (seated (after ∷ []) more) run (turn first (begins_then first begin log begins grown));
    fit = (event_fits recording searching 1 IsSize log sound (seated (seat ∷ []) log) (seated (after ∷ []) more) (alone.fit, tt) (turn log (begins_itself log))).0;
  }

  -- and it may go on by another run
  pub alone_then : (start : Seat S) (begin : List (Entry R)) (seat after : Seat S) (log more : List (Entry R)) →
      ((first : List (Entry R)) → Begins first log → Runs recording searching 1 IsSize first (seated (seat ∷ []) log) (seated (after ∷ []) more)) → IsFit searching (row_at after) →
      Alone start begin seat log → Alone start begin after more
  alone_then start begin seat after log more run fit alone = record {
    runs = λ first begins.
        let before = alone.runs first begins in
        let grown = runs_begins recording searching 1 IsSize first (seated (start ∷ []) begin) (seated (seat ∷ []) log) before in
        runs_then recording searching 1 IsSize first (seated (start ∷ []) begin) (seated (seat ∷ []) log) (seated (after ∷ []) more) before (run first (begins_then first begin log begins grown));
    fit = fit;
  }

  -- where memory is wanting at the next turn, or in the run by which it goes on
  pub alone_lost : (start : Seat S) (begin : List (Entry R)) (seat : Seat S) (log new : List (Entry R)) → new ≡ log → Alone start begin seat log →
      (first : List (Entry R)) → Begins first begin → ComesTo recording searching IsSize first (seated (start ∷ []) begin) new
  alone_lost start begin seat log new same alone first begins = comes_to first (seated (start ∷ []) begin) (seat ∷ []) log new same (alone.runs first begins)

  pub alone_lost_later : (start : Seat S) (begin : List (Entry R)) (seat : Seat S) (log new : List (Entry R)) →
      ((first : List (Entry R)) → Begins first log → ComesTo recording searching IsSize first (seated (seat ∷ []) log) new) → Alone start begin seat log →
      (first : List (Entry R)) → Begins first begin → ComesTo recording searching IsSize first (seated (start ∷ []) begin) new
  alone_lost_later start begin seat log new later alone first begins =
      let run = alone.runs first begins in
      let grown = runs_begins recording searching 1 IsSize first (seated (start ∷ []) begin) (seated (seat ∷ []) log) run in
      comes_then first (seated (start ∷ []) begin) (seated (seat ∷ []) log) new run (later first (begins_then first begin log begins grown))

  -- how far one worker has come with its searches
  pub record Went (searches : List (Held S)) (begin : List (Entry R)) (seats : List (Seat S)) (log : List (Entry R)) : Type 0 where
    pub runs : Runs recording searching 1 IsSize begin (entered searches begin) (seated seats log)
    pub fit : AllByRecursion (IsFit searching) (map row_at seats)
    pub cells : cells_of seats ≡ map (λ (search : Held S). search.cell) searches

  pub went_in : (searches : List (Held S)) (log : List (Entry R)) (seats : List (Seat S)) → AllByRecursion (IsFit searching) (map (row_of false false) searches) → seats ≡ map seat_of searches → Went searches log seats log
  went_in searches log seats fit seats_are =
      let rows : map row_at seats ≡ map (row_of false false) searches = ap (map row_at) seats_are ∙ rows_of_new searches in
      record {
        runs = ([], ap (λ (rows : List (Row S)). record { rows = rows; log = log }) (sym rows));
        fit = subst (AllByRecursion (IsFit searching)) (sym rows) fit;
        cells = ap cells_of seats_are ∙ cells_of_new searches;
      }

  pub went_round : (searches : List (Held S)) (begin : List (Entry R)) (seats now : List (Seat S)) (log : List (Entry R)) (after kept : List (Seat S)) (more : List (Entry R)) → Went searches begin seats log → now ≡ seats → kept ≡ after →
      ((first : List (Entry R)) → Begins first log → Runs recording searching 1 IsSize first (seated now log) (seated after more)) → AllByRecursion (IsFit searching) (map row_at after) → cells_of after ≡ cells_of now →
      Went searches begin kept more
  went_round searches begin seats now log after kept more went same back run fit cells =
      let there = subst (λ members. Went searches begin members log) (sym same) went in
      let grown = runs_begins recording searching 1 IsSize begin (entered searches begin) (seated now log) there.runs in
      subst (λ members. Went searches begin members more) (sym back) (record {
        runs = runs_then recording searching 1 IsSize begin (entered searches begin) (seated now log) (seated after more) there.runs (run begin grown);
        fit = fit;
        cells = cells ∙ there.cells;
      })

  -- where memory is wanting before the first turn
  pub came_nowhere : (searches : List (Held S)) (log : List (Entry R)) → ComesTo recording searching IsSize log (entered searches log) log
  came_nowhere searches log = (map (row_of false false) searches, ([], refl))

  -- where it is wanting in a round, or behind the last one
  pub went_lost : (searches : List (Held S)) (begin : List (Entry R)) (seats now : List (Seat S)) (log new : List (Entry R)) → Went searches begin seats log → now ≡ seats →
      ((first : List (Entry R)) → Begins first log → ComesTo recording searching IsSize first (seated now log) new) → ComesTo recording searching IsSize begin (entered searches begin) new
  went_lost searches begin seats now log new went same later =
      let there = subst (λ members. Went searches begin members log) (sym same) went in
      let grown = runs_begins recording searching 1 IsSize begin (entered searches begin) (seated now log) there.runs in
      comes_then begin (entered searches begin) (seated now log) new there.runs (later begin grown)

  pub went_last : (searches : List (Held S)) (begin : List (Entry R)) (seats : List (Seat S)) (log new : List (Entry R)) → new ≡ log → Went searches begin seats log → ComesTo recording searching IsSize begin (entered searches begin) new
  went_last searches begin seats log new same went = comes_to begin (entered searches begin) seats log new same went.runs

  pub went_out : (searches : List (Held S)) (begin : List (Entry R)) (seats : List (Seat S)) (log : List (Entry R)) (after : List (Held S)) → Went searches begin seats log → Finished (seated seats log) → after ≡ map (λ (seat : Seat S). seat.held) seats → GoesRound recording searching IsSize searches begin after log
  went_out searches begin seats log after went finished after_is = record {
    last = seated seats log;
    runs = went.runs;
    finished = finished;
    log_is = refl;
    rows_are = subst (EachPair (λ (row : Row S) search. row ≡ row_of row.left row.looked search) (map row_at seats)) (sym after_is) (rows_are_held seats);
    cells = ap (map (λ (search : Held S). search.cell)) after_is ∙ cells_of_held seats ∙ went.cells;
  }

-- the seats of searches that are fit are fit
pub seats_fit : {R K G S : Type 0} (searching : Searching R K G S) (searches : List (Held S)) (seats now : List (Seat S)) → AllByRecursion (IsFit searching) (map (row_of false false) searches) → seats ≡ map seat_of searches → now ≡ seats → AllByRecursion (IsFit searching) (map row_at now)
seats_fit searching searches seats now fit seats_are same = subst (AllByRecursion (IsFit searching)) (sym (ap (map row_at) (same ∙ seats_are) ∙ rows_of_new searches)) fit

-- a run of one search is a run of the searches of which there is one
pub runs_of_one : {R K G S : Type 0} (recording : Recording R K G) (searching : Searching R K G S) (IsSize : ℕ → ℕ → ℕ → ℕ → Type 0) (seats now : List (Seat S)) (seat after : Seat S) (log more : List (Entry R)) → seats ≡ seat ∷ [] → now ≡ after ∷ [] →
    ((first : List (Entry R)) → Begins first log → Runs recording searching 1 IsSize first (seated (seat ∷ []) log) (seated (after ∷ []) more)) →
    (first : List (Entry R)) → Begins first log → Runs recording searching 1 IsSize first (seated seats log) (seated now more)
runs_of_one recording searching IsSize seats now seat after log more was is run first begins =
    subst (λ members. Runs recording searching 1 IsSize first (seated seats log) (seated members more)) (sym is)
    (subst (λ members. Runs recording searching 1 IsSize first (seated members log) (seated (after ∷ []) more)) (sym was) (run first begins))

pub comes_of_one : {R K G S : Type 0} (recording : Recording R K G) (searching : Searching R K G S) (IsSize : ℕ → ℕ → ℕ → ℕ → Type 0) (seats : List (Seat S)) (seat : Seat S) (log new : List (Entry R)) → seats ≡ seat ∷ [] →
    ((first : List (Entry R)) → Begins first log → ComesTo recording searching IsSize first (seated (seat ∷ []) log) new) →
    (first : List (Entry R)) → Begins first log → ComesTo recording searching IsSize first (seated seats log) new
comes_of_one recording searching IsSize seats seat log new was later first begins = subst (λ members. ComesTo recording searching IsSize first (seated members log) new) (sym was) (later first begins)

-- a turn that is put down is an event
module _ {R K G S : Type 0} (recording : Recording R K G) (searching : Searching R K G S) (IsSize : ℕ → ℕ → ℕ → ℕ → Type 0) (seat after : Seat S) (log new : List (Entry R)) (search : S) (units : ℕ) (facts : Facts R) (outcome : Outcome R) (dropped : Bool) where
  pub event_put : IsFit searching (row_at seat) → seat.left ≡ false → 1 ≤ seat.held.allowed → IsSize seat.held.turns seat.held.spent seat.held.allowed units → 1 ≤ units → units ≤ seat.held.allowed →
      Handed recording.model_of log (searching.group seat.held.search) seat.held.read (searching.wants seat.held.search units) facts →
      searching.turns seat.held.search units facts outcome search → searching.key search ≡ searching.key seat.held.search → (is_stopped outcome.end ≡ true → seat.looked ≡ false) →
      PutsDown recording.settles (searching.key search) log (record seat { held = record (seat.held) { search = search } }) facts.upto outcome dropped new after →
      (begin : List (Entry R)) → Begins begin log → Event recording searching 1 IsSize begin (seated (seat ∷ []) log) (seated (after ∷ []) new)
  event_put fit stays allowed size from upto handed turn key once put begin before = record {
    place = 0;
    row = row_at seat;
    of_row = refl;
    stays = stays;
    allowed = allowed;
    openness = fit.openness stays allowed;
    pass = 1;
    pass_from = omega arith;
    pass_upto = omega arith;
    units = units;
    is_size = size;
    units_from = from;
    units_upto = upto;
    seen = log;
    seen_all_before = before;
    seen_is_there = begins_itself log;
    facts = facts;
    handed = handed;
    outcome = outcome;
    search = search;
    turn = turn;
    dropped = dropped;
    is_dropped = subst (λ k. (dropped ≡ true) ↔ Settled recording.settles log k) key put.is_dropped;
    log = put.log_is;
    rows = ap (λ row. row ∷ []) (put.row_is facts refl);
    once = λ stopped kept. once stopped;
  }

-- a turn that found nothing spent some unit
pub some_spent : {R K G S : Type 0} (recording : Recording R K G) (searching : Searching R K G S) (search : S) (given : ℕ) (facts : Facts R) (outcome : Outcome R) (after : S) (units : ℕ) → IsSound recording searching search given facts outcome after → outcome ≡ whole units → 1 ≤ units
some_spent recording searching search given facts outcome after units sound is = (subst (λ o. IsSound recording searching search given facts o after) is sound).end.0

pub if_some : (o : Option ℕ) → ((units : ℕ) → o ≡ Some units → 1 ≤ units) → IfSome o (λ units. 1 ≤ units)
if_some None h = tt
if_some (Some units) h = h units refl

-- the last members of equal lists are equal
last_same : {X : Type 0} (xs ys : List X) (x y : X) → xs ++ x ∷ [] ≡ ys ++ y ∷ [] → x ≡ y
last_same xs ys x y e = let turned : x ∷ reverse xs ≡ y ∷ reverse ys = sym (reverse-append xs (x ∷ [])) ∙ ap reverse e ∙ reverse-append ys (y ∷ []) in cc

-- a search that goes on, and hasn't stopped in the run, found nothing and wasn't stopped
went_on : {R : Type 0} (looked : Bool) (end : TurnEnd R) → end_after false end ≡ ends.More → (looked || (is_stopped end && not false)) ≡ false → end ≡ More
went_on looked More more none = refl
went_on looked (Found records) more none = absurd (cc)
went_on looked (Closed records) more none = absurd (cc)
went_on looked Idle more none = absurd (cc)
went_on true (Stopped seen) more none = absurd (cc)
went_on false (Stopped seen) more none = absurd (cc)
went_on looked (Full what count) more none = absurd (cc)

-- after a whole turn that was kept, a next one may follow
module _ {R K S : Type 0} (settles : R → Option K) (key : S → K) (log new : List (Entry R)) (seat after : Seat S) (facts : Facts R) (units : ℕ) where
  pub follows_whole : PutsDown settles (key seat.held.search) log seat facts.upto (whole units) false new after → after.looked ≡ false → seat.held.turns < 2 ^ 64 - 1 → Follows settles (key after.held.search) units new after
  follows_whole put unlooked fewer =
      let row = put.row_is facts refl in
      let entry = entry_of {R = R} 1 (row_at seat) (whole units) false in
      let turn : after.held.turns ≡ min (seat.held.turns + 1) (2 ^ 64 - 1) = ap (λ (r : Row S). r.turns) row in
      let next : entry.turn + 1 ≡ after.held.turns = omega (arith, turn, fewer) in
      let number : after.held.number ≡ seat.held.number = ap (λ (r : Row S). r.number) row in
      let search : after.held.search ≡ seat.held.search = ap (λ (r : Row S). r.search) row in
      record {
        before = log;
        last = entry;
        log_is = put.log_is;
        nothing = refl;
        next_is = ap (λ n. record (next_of entry) { turn = n }) next ∙ ap (λ n. record (entry_of {R = R} 1 (row_at after) (whole units) false) { search = n }) (sym number);
        stays = ap (λ (r : Row S). r.left) row;
        goes_on = ap (λ (r : Row S). r.end) row;
        unlooked = unlooked;
        unsettled = λ settled.
            let same : facts_of new ≡ facts_of log = ap facts_of put.log_is ∙ facts_of-append log (entry ∷ []) ∙ append-nil (facts_of log) in
            let here = subst (λ s. Settled settles new (key s)) search settled in
            let was = put.is_dropped.1 (settled_along settles new log (key seat.held.search) same here) in
            (let bad : false ≡ true = was in cc);
      }

  pub follows_put : (outcome : Outcome R) (dropped : Bool) → outcome ≡ whole units → dropped ≡ false → PutsDown settles (key seat.held.search) log seat facts.upto outcome dropped new after → after.looked ≡ false → seat.held.turns < 2 ^ 64 - 1 → Follows settles (key after.held.search) units new after
  follows_put outcome dropped made kept put unlooked fewer =
      follows_whole (subst (λ d. PutsDown settles (key seat.held.search) log seat facts.upto (whole units) d new after) kept (subst (λ o. PutsDown settles (key seat.held.search) log seat facts.upto o dropped new after) made put)) unlooked fewer

  -- and a next one may follow only after such a turn
  pub put_follows : (outcome : Outcome R) (dropped : Bool) → PutsDown settles (key seat.held.search) log seat facts.upto outcome dropped new after → Follows settles (key after.held.search) units new after →
      (outcome ≡ whole units) × (dropped ≡ false) × (seat.held.turns < 2 ^ 64 - 1)
  put_follows outcome dropped put follows =
      let row = put.row_is facts refl in
      let last = last_same log follows.before (entry_of 1 (row_at seat) outcome dropped) follows.last (sym put.log_is ∙ follows.log_is) in
      let next = ap next_of last ∙ follows.next_is in
      let spent : outcome.spent ≡ units = ap (λ (e : Entry R). e.units) next in
      let kept : dropped ≡ false = ap (λ (e : Entry R). e.dropped) next in
      let turn : seat.held.turns + 1 ≡ after.held.turns = ap (λ (e : Entry R). e.turn) next in
      let turns : after.held.turns ≡ min (seat.held.turns + 1) (2 ^ 64 - 1) = ap (λ (r : Row S). r.turns) row in
      let ends : end_after false outcome.end ≡ ends.More = ap (λ d. end_after d outcome.end) (sym kept) ∙ sym (ap (λ (r : Row S). r.end) row) ∙ follows.goes_on in
      let looked : (seat.looked || (is_stopped outcome.end && not false)) ≡ false = ap (λ d. seat.looked || (is_stopped outcome.end && not d)) (sym kept) ∙ sym (ap (λ (r : Row S). r.looked) row) ∙ follows.unlooked in
      let more = went_on seat.looked outcome.end ends looked in
      (λ i. record { spent = spent i; end = more i }, kept, omega (arith, turn, turns))

-- the log's last entry was kept and found nothing
pub last_is_empty : {R K S : Type 0} (settles : R → Option K) (key : K) (units : ℕ) (log : List (Entry R)) (seat : Seat S) (follows : Follows settles key units log seat) → IsLastEmpty log follows.last
last_is_empty settles key units log seat follows = record {
  before = follows.before;
  log_is = follows.log_is;
  kept = ap (λ entry. entry.dropped) follows.next_is;
  nothing = follows.nothing;
}

-- a whole turn of a search that may follow is put down by the entry next to the last one
module _ {R K S : Type 0} (settles : R → Option K) (log new : List (Entry R)) (seat after : Seat S) (search : S) (units upto : ℕ) where
  pub put_next : (key was : K) → key ≡ was → (follows : Follows settles was units log seat) → new ≡ log ++ next_of follows.last ∷ [] →
      after.held ≡ (record (seat.held) {
        search = search;
        held = seat.held.held - units;
        spent = seat.held.spent + units;
        allowed = seat.held.allowed - units;
        turns = min (seat.held.turns + 1) (2 ^ 64 - 1);
        read = upto;
        end = ends.More;
      }) → after.left ≡ false → after.looked ≡ (seat.looked || false) →
      PutsDown settles key log (record seat { held = record (seat.held) { search = search } }) upto (whole units) false new after
  put_next key was same follows log_is held left looked =
      let with_search : Seat S = record seat { held = record (seat.held) { search = search } } in
      record {
        is_dropped = (λ bad. absurd (cc), λ settled. absurd (follows.unsettled (subst (λ k. Settled settles log k) same settled)));
        log_is = log_is ∙ ap (λ entry. log ++ entry ∷ []) follows.next_is;
        row_is = λ facts told.
            row_is with_search after search (record facts { upto = upto }) (whole units) false false ends.More refl refl held left looked
            ∙ ap (λ u. row_after (row_at with_search) (record facts { upto = u }) (whole units) false search) (sym told);
        cell_is = ap (λ (h : Held S). h.cell) held;
      }

-- a whole turn more
module _ {R K S : Type 0} (settles : R → Option K) (log new : List (Entry R)) (seat : Seat S) (units used turns : ℕ) (search after : S) (read upto : ℕ) where
  pub put_whole : (key was : K) → key ≡ was → (follows : Follows settles was units log (after_whole seat used turns search read)) → new ≡ log ++ next_of follows.last ∷ [] → turns < 2 ^ 64 - 1 →
      PutsDown settles key log (after_whole seat used turns after read) upto (whole units) false new (after_whole seat (used + units) (turns + 1) after upto)
  put_whole key was same follows log_is fewer =
      let held : seat.held.held - (used + units) ≡ seat.held.held - used - units = omega arith in
      let spent : seat.held.spent + (used + units) ≡ seat.held.spent + used + units = omega arith in
      let allowed : seat.held.allowed - (used + units) ≡ seat.held.allowed - used - units = omega arith in
      let counted : turns + 1 ≡ min (turns + 1) (2 ^ 64 - 1) = omega (arith, fewer) in
      put_next settles log new (after_whole seat used turns search read) (after_whole seat (used + units) (turns + 1) after upto) after units upto key was same follows log_is
      (λ i. record (seat.held) { search = after; held = held i; spent = spent i; allowed = allowed i; turns = counted i; read = upto; end = follows.goes_on i })
      follows.stays (follows.unlooked ∙ sym (ap (λ l. l || false) follows.unlooked))

-- no whole turn
pub after_none : {S : Type 0} (seat : Seat S) → after_whole seat 0 seat.held.turns seat.held.search seat.held.read ≡ seat
after_none seat =
    let held : seat.held.held - 0 ≡ seat.held.held = omega arith in
    let spent : seat.held.spent + 0 ≡ seat.held.spent = omega arith in
    let allowed : seat.held.allowed - 0 ≡ seat.held.allowed = omega arith in
    λ i. record seat { held = record (seat.held) { held = held i; spent = spent i; allowed = allowed i } }

-- how far a search alone has come with its whole turns of so many units; they aren't counted yet
pub record Wholly {R K G S : Type 0} (recording : Recording R K G) (searching : Searching R K G S) (IsSize : ℕ → ℕ → ℕ → ℕ → Type 0) (start : Seat S) (begin : List (Entry R)) (units : ℕ) (seat : Seat S) (log : List (Entry R)) (used turns read : ℕ) : Type 0 where
  pub same : seat ≡ record start { held = record (start.held) { search = seat.held.search } }
  pub alone : Alone recording searching IsSize start begin (after_whole start used turns seat.held.search read) log
  pub follows : Follows recording.settles (searching.key seat.held.search) units log (after_whole start used turns seat.held.search read)
  pub within : used ≤ start.held.allowed

module _ {R K G S : Type 0} (recording : Recording R K G) (searching : Searching R K G S) (IsSize : ℕ → ℕ → ℕ → ℕ → Type 0) where
  pub wholly_in : (seat : Seat S) (log : List (Entry R)) (units : ℕ) → IsFit searching (row_at seat) → Follows recording.settles (searching.key seat.held.search) units log seat →
      Wholly recording searching IsSize seat log units seat log 0 seat.held.turns seat.held.read
  wholly_in seat log units fit follows =
      let none = after_none seat in
      record {
        same = refl;
        alone = subst (λ here. Alone recording searching IsSize seat log here log) (sym none) (alone_in recording searching IsSize seat log fit);
        follows = subst (λ here. Follows recording.settles (searching.key seat.held.search) units log here) (sym none) follows;
        within = omega arith;
      }

  module _ (start : Seat S) (begin : List (Entry R)) (units : ℕ) (seat : Seat S) (log : List (Entry R)) (used turns read : ℕ) (wholly : Wholly recording searching IsSize start begin units seat log used turns read) where
    -- and they are counted
    pub wholly_out : (counted : Seat S) → counted ≡ after_whole seat used turns seat.held.search read → Alone recording searching IsSize start begin counted log
    wholly_out counted is = subst (λ here. Alone recording searching IsSize start begin here log) (sym (is ∙ ap (λ s. after_whole s used turns seat.held.search read) wholly.same)) wholly.alone

    -- the policy gives the next turn as many units, and the search may spend them
    abbrev pub IsNext : Seat S → Type 0
    IsNext here = (used + units ≤ here.held.allowed) × (turns < 2 ^ 64 - 1) × IsSize turns (here.held.spent + used) (here.held.allowed - used) units

    module _ (sound : Sound recording searching) (some : 1 ≤ units) (here_next : IsNext seat) (search : S) (facts : Facts R) (outcome : Outcome R) (new : List (Entry R))
        (handed : Handed recording.model_of log (searching.group seat.held.search) read (searching.wants seat.held.search units) facts)
        (turn : searching.turns seat.held.search units facts outcome search) (key : searching.key search ≡ searching.key seat.held.search) where
      next : IsNext start
      next = subst IsNext wholly.same here_next

      -- a turn with as many units, whatever it comes to
      wholly_then : (dropped : Bool) (after : Seat S) → PutsDown recording.settles (searching.key search) log (after_whole start used turns search read) facts.upto outcome dropped new after → Alone recording searching IsSize start begin after new
      wholly_then dropped after put =
          let here = after_whole start used turns seat.held.search read in
          alone_next recording searching IsSize sound start begin here after log new
          (event_put recording searching IsSize here after log new search units facts outcome dropped wholly.alone.fit wholly.follows.stays (omega (arith, next.0, some)) next.2 some (omega (arith, next.0)) handed turn key (λ stopped. wholly.follows.unlooked) put)
          wholly.alone

      pub wholly_last : (dropped : Bool) (counted after : Seat S) → counted ≡ after_whole seat used turns search read →
          PutsDown recording.settles (searching.key counted.held.search) log counted facts.upto outcome dropped new after → Alone recording searching IsSize start begin after new
      wholly_last dropped counted after is put =
          wholly_then dropped after
          (subst (λ s. PutsDown recording.settles (searching.key s.held.search) log s facts.upto outcome dropped new after) (is ∙ ap (λ s. after_whole s used turns search read) wholly.same) put)

      pub wholly_next : outcome ≡ whole units → new ≡ log ++ next_of wholly.follows.last ∷ [] → Wholly recording searching IsSize start begin units (record seat { held = record (seat.held) { search = search } }) new (used + units) (turns + 1) facts.upto
      wholly_next is log_is =
          let before = after_whole start used turns search read in
          let after = after_whole start (used + units) (turns + 1) search facts.upto in
          let put = put_whole recording.settles log new start units used turns seat.held.search search read facts.upto (searching.key search) (searching.key seat.held.search) key wholly.follows log_is next.1 in
          record {
            same = ap (λ (s : Seat S). record s { held = record (s.held) { search = search } }) wholly.same;
            alone = wholly_then false after (subst (λ o. PutsDown recording.settles (searching.key search) log before facts.upto o false new after) (sym is) put);
            follows = follows_whole recording.settles searching.key log new before after facts units put wholly.follows.unlooked next.1;
            within = next.0;
          }

-- what follows of a success
pub on_ok : {T E : Type 0} (P Q : Type 0) → (P → Q) → (result : Result T E) → OnOk result P → OnOk result Q
on_ok P Q imply (Ok x) h = imply h
on_ok P Q imply (Err e) h = tt

pub any_err : {T E : Type 0} (Q : Type 0) → Q → (result : Result T E) → OnErr result Q
any_err Q h (Ok x) = tt
any_err Q h (Err e) = h

-- what follows of a want of memory
pub on_err : {T E : Type 0} (P Q : Type 0) → (P → Q) → (result : Result T E) → OnErr result P → OnErr result Q
on_err P Q imply (Ok x) h = tt
on_err P Q imply (Err e) h = imply h
