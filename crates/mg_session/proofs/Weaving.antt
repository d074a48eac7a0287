-- A run of the searches that take part is a run of all, in which the others sit out.
use Rattle.std.proofs.Common.{◌≡◌, ℕ, zero, suc, ◌+◌, ◌<◌, ◌≤◌, ◌^◌, ◌⊎◌, inl, Bool, true, false, List, [], ◌∷◌, length, map, set, refl, ap, sym, ◌∙◌, subst, arith}
use Rattle.std.specs.Prelude.{Some, slice_get}
use Rattle.std.specs.List.{AllByRecursion}
use Rattle.mg_core.specs.declared.entries.Entry.{Entry}
use Rattle.mg_core.specs.Log.{Settled}
use Rattle.mg_ledger.specs.declared.ledger.Account.{Account}
use Rattle.mg_ledger.specs.Accounts.{total_held, total_spent}
use Rattle.mg_ledger.specs.Ledgers.{IsLedger}
use Rattle.mg_workers.specs.declared.held.Held.{Held}
use Rattle.mg_workers.specs.declared.held.End.{End}
use Rattle.mg_workers.specs.declared.held.End.TheVariants as ends
use Rattle.mg_workers.specs.Run.{Row, Running, Event, Leads, Runs, row_after}
use Rattle.mg_workers.specs.Rows.{EachPair, Keeps, AreFunded}
use Rattle.mg_workers.specs.Round.{row_of as held_row, entered, IsFit, GoesRound}
use Rattle.mg_workers.proofs.Events.{runs_keep}
use Rattle.mg_certs.specs.Claim.{Fact}
use Rattle.mg_certs.specs.Validity.{key_of, recording}
use Rattle.mg_search.specs.Search.{Search, searching, ask_of, is_open}
use Rattle.mg_search.specs.Sounds.{sound}
use Rattle.mg_session.specs.State.{State, SearchState, accounts, ledger_of, row_taken, after_row}
use Rattle.mg_session.specs.Run.{IsRow, after_rows, Rounds, CanGoOn, IsSettled}
use Rattle.mg_session.specs.StateOk.{EndsSo, StandsBeside}
use Rattle.mg_session.specs.Kept.{seen, all_seen, HaveCells, state_of}
use Rattle.mg_session.specs.Built.{one_worker}
use Rattle.mg_session.specs.At.{AreTaking, Round, once, again, TakesIn}
use Rattle.mg_session.specs.Parting.{running, places_of, kept_of, joined, account_after, cells_after, HaveSpent}
use Rattle.mg_session.specs.declared.state.Kept.{Kept}
use Rattle.mg_session.specs.declared.parts.Place.{Place}
use Rattle.mg_session.specs.declared.parts.Place.TheVariants.{Runs as at_run, Rests as at_rest}
use Rattle.mg_ledger.specs.Ledgers.{LedgerState}
use Rattle.mg_session.proofs.Ledger.{held_cons, spent_cons}
use Rattle.mg_session.proofs.Phasing.{Taking}

-- the rows of searches of which some run: the others sit out
abbrev woven : List Bool → List SearchState → List (Row Search) → List (Row Search)
woven (true ∷ runs) (x ∷ xs) (row ∷ rows) = row ∷ woven runs xs rows
woven (true ∷ runs) (x ∷ xs) [] = row_taken true x ∷ woven runs xs []
woven (true ∷ runs) [] rows = rows
woven (false ∷ runs) (x ∷ xs) rows = row_taken true x ∷ woven runs xs rows
woven (false ∷ runs) [] rows = rows
woven [] xs rows = rows

-- a row stands among all, whatever is written there
record Moved (runs : List Bool) (xs : List SearchState) (rows : List (Row Search)) (i : ℕ) (row : Row Search) : Type 0 where
  place : ℕ
  there : slice_get (woven runs xs rows) place ≡ Some row
  with : (new : Row Search) → woven runs xs (set rows i new) ≡ set (woven runs xs rows) place new

moved : (runs : List Bool) (xs : List SearchState) (rows : List (Row Search)) (i : ℕ) (row : Row Search) → slice_get rows i ≡ Some row → Moved runs xs rows i row
moved (true ∷ runs) (x ∷ xs) [] i row e = absurd (cc)
moved (true ∷ runs) (x ∷ xs) (r ∷ rows) zero row e = let same : r ≡ row = cc in record { place = zero; there = ap Some same; with = λ new. refl }
moved (true ∷ runs) (x ∷ xs) (r ∷ rows) (suc i) row e =
    let rest = moved runs xs rows i row e in record { place = suc rest.place; there = rest.there; with = λ new. ap (λ rs. r ∷ rs) (rest.with new) }
moved (false ∷ runs) (x ∷ xs) rows i row e =
    let rest = moved runs xs rows i row e in record { place = suc rest.place; there = rest.there; with = λ new. ap (λ rs. row_taken true x ∷ rs) (rest.with new) }
moved (true ∷ runs) [] rows i row e = record { place = i; there = e; with = λ new. refl }
moved (false ∷ runs) [] rows i row e = record { place = i; there = e; with = λ new. refl }
moved [] xs rows i row e = record { place = i; there = e; with = λ new. refl }

module _ (workers : ℕ) (IsSize : ℕ → ℕ → ℕ → ℕ → Type 0) (begin : List (Entry Fact)) (runs : List Bool) (xs : List SearchState) where
  abbrev all_rows : Running Fact Search → Running Fact Search
  all_rows now = record { rows = woven runs xs now.rows; log = now.log }

  all_event : (old new : Running Fact Search) → Event recording searching workers IsSize begin old new → Event recording searching workers IsSize begin (all_rows old) (all_rows new)
  all_event old new e =
      let there = moved runs xs old.rows e.place e.row e.of_row in
      record {
        place = there.place;
        row = e.row;
        of_row = there.there;
        stays = e.stays;
        allowed = e.allowed;
        openness = e.openness;
        pass = e.pass;
        pass_from = e.pass_from;
        pass_upto = e.pass_upto;
        units = e.units;
        is_size = e.is_size;
        units_from = e.units_from;
        units_upto = e.units_upto;
        seen = e.seen;
        seen_all_before = e.seen_all_before;
        seen_is_there = e.seen_is_there;
        facts = e.facts;
        handed = e.handed;
        outcome = e.outcome;
        search = e.search;
        turn = e.turn;
        dropped = e.dropped;
        is_dropped = e.is_dropped;
        log = e.log;
        rows = ap (woven runs xs) e.rows ∙ there.with (row_after e.row e.facts e.outcome e.dropped e.search);
        once = e.once;
      }

  all_lead : (states : List (Running Fact Search)) (old new : Running Fact Search) → Leads recording searching workers IsSize begin old states new → Leads recording searching workers IsSize begin (all_rows old) (map all_rows states) (all_rows new)
  all_lead [] old new h = ap all_rows h
  all_lead (mid ∷ states) old new h = (all_event old mid h.0, all_lead states mid new h.1)

  all_run : (old new : Running Fact Search) → Runs recording searching workers IsSize begin old new → Runs recording searching workers IsSize begin (all_rows old) (all_rows new)
  all_run old new h = (map all_rows h.0, all_lead h.0 old new h.1)

abbrev IsFinished : Row Search → Type 0
IsFinished row = (row.left ≡ true) ⊎ (row.allowed ≡ 0)

all_over : (runs : List Bool) (xs : List SearchState) (rows : List (Row Search)) → AllByRecursion (λ (row : Row Search). (row.left ≡ true) ⊎ (row.allowed ≡ 0)) rows → AllByRecursion IsFinished (woven runs xs rows)
all_over (true ∷ runs) (x ∷ xs) [] h = (inl refl, all_over runs xs [] tt)
all_over (true ∷ runs) (x ∷ xs) (row ∷ rows) h = (h.0, all_over runs xs rows h.1)
all_over (false ∷ runs) (x ∷ xs) rows h = (inl refl, all_over runs xs rows h)
all_over (true ∷ runs) [] rows h = h
all_over (false ∷ runs) [] rows h = h
all_over [] xs rows h = h

-- the rows of those that come into the run
abbrev came : ℕ → List Bool → List Kept → List Account → List (Row Search)
came cell runs ks cs = map (held_row false false) (running cell runs ks cs)

-- a search that rounds are made for can go on, and its Ask isn't settled
takes_on : (round : Round) (state : State) (x : SearchState) → TakesIn round state x → CanGoOn x.end × (IsSettled state x → ⊥)
takes_on once state x takes = (takes.can_go_on, takes.unsettled)
takes_on again state x idles = (subst CanGoOn (sym idles.idle) tt, idles.unsettled)

module _ (round : Round) (state : State) where
  are_rows : (cell : ℕ) (runs : List Bool) (ks : List Kept) (cs : List Account) → EachPair (Taking round state) (all_seen (cell + 1) ks cs) runs → EachPair (IsRow (TakesIn round state)) (all_seen (cell + 1) ks cs) (woven runs (all_seen (cell + 1) ks cs) (came cell runs ks cs))
  are_rows cell [] [] cs h = tt
  are_rows cell (b ∷ runs) [] cs h = absurd h
  are_rows cell [] (k ∷ ks) [] h = tt
  are_rows cell (b ∷ runs) (k ∷ ks) [] h = absurd h
  are_rows cell [] (k ∷ ks) (c ∷ cs) h = absurd h
  are_rows cell (true ∷ runs) (k ∷ ks) (c ∷ cs) h = (record { row_is = refl; takes = (λ _. h.0.0 refl, λ _. refl) }, are_rows (cell + 1) runs ks cs h.1)
  are_rows cell (false ∷ runs) (k ∷ ks) (c ∷ cs) h = (record { row_is = refl; takes = (λ e. absurd (cc e), λ t. let e = h.0.1 t in absurd (cc e)) }, are_rows (cell + 1) runs ks cs h.1)

  -- a search that can go on and isn't settled is open
  open_if : (search : Search) (number : ℕ) (end : End) → EndsSo state.log search number end → CanGoOn end → (Settled key_of state.log (ask_of search) → ⊥) → is_open search ≡ true
  open_if search number ends.Fresh h can none = h.openness
  open_if search number ends.More h can none = h.openness
  open_if search number ends.Found h can none = absurd (none (h.verdict tt))
  open_if search number ends.Closed h can none = absurd can
  open_if search number ends.Idle h can none = h.openness
  open_if search number ends.Stopped h can none = absurd (none (h.verdict tt))
  open_if search number (ends.Full what count) h can none = absurd can
  open_if search number ends.Cancelled h can none = h.openness

  abbrev InAll : SearchState → Type 0
  InAll x = x.account.spent + x.account.held ≤ 4611686018427387904

  are_fit : (cell : ℕ) (runs : List Bool) (ks : List Kept) (cs : List Account) → EachPair (Taking round state) (all_seen (cell + 1) ks cs) runs → AllByRecursion (λ (x : SearchState). StandsBeside state.log (row_taken true x)) (all_seen (cell + 1) ks cs) →
      AllByRecursion InAll (all_seen (cell + 1) ks cs) → AllByRecursion (IsFit searching) (came cell runs ks cs)
  are_fit cell [] ks cs h stand within = tt
  are_fit cell (true ∷ runs) [] cs h stand within = tt
  are_fit cell (false ∷ runs) [] cs h stand within = tt
  are_fit cell (true ∷ runs) (k ∷ ks) [] h stand within = tt
  are_fit cell (false ∷ runs) (k ∷ ks) [] h stand within = tt
  are_fit cell (true ∷ runs) (k ∷ ks) (c ∷ cs) h stand within =
      let takes = takes_on round state (seen (cell + 1) k c) (h.0.0 refl) in (
        record {
          within = stand.0.allowed;
          counted = stand.0.units;
          in_all = within.0;
          openness = λ _ _. open_if k.search (cell + 1) k.end stand.0.end takes.0 takes.1;
        },
        are_fit (cell + 1) runs ks cs h.1 stand.1 within.1,
      )
  are_fit cell (false ∷ runs) (k ∷ ks) (c ∷ cs) h stand within = are_fit (cell + 1) runs ks cs h.1 stand.1 within.1

-- no search has more units than all together
each_within : (xs : List SearchState) (most : ℕ) → total_held (accounts xs) + total_spent (accounts xs) ≤ most → AllByRecursion (λ (x : SearchState). x.account.spent + x.account.held ≤ most) xs
each_within [] most h = tt
each_within (x ∷ xs) most h =
    let held = held_cons x xs in
    let spent = spent_cons x xs in (omega arith, each_within xs most (omega arith))

funded_of : (rows : List (Row Search)) → AllByRecursion (IsFit searching) rows → AreFunded rows
funded_of [] h = tt
funded_of (row ∷ rows) h = (h.0.within, funded_of rows h.1)

abbrev IsLast : Row Search → Held Search → Type 0
IsLast row held = row ≡ held_row row.left row.looked held

-- those that ran are put back
module _ where
  same_account : (a : Account) → record a { held = a.held; spent = a.spent } ≡ a
  same_account a = refl

  back : (cell : ℕ) (runs : List Bool) (ks : List Kept) (cs : List Account) (lasts : List (Row Search)) (ran : List (Held Search)) → length runs ≡ length ks → length ks ≡ length cs → EachPair (Keeps searching) (came cell runs ks cs) lasts → EachPair IsLast lasts ran →
      after_rows (all_seen (cell + 1) ks cs) (woven runs (all_seen (cell + 1) ks cs) lasts) ≡ all_seen (cell + 1) (joined (places_of runs ks) ran) (cells_after (places_of runs ks) ran cs)
  back cell [] [] cs lasts ran e f keeps last = refl
  back cell (b ∷ runs) [] cs lasts ran e f keeps last = absurd (omega arith)
  back cell [] (k ∷ ks) cs lasts ran e f keeps last = absurd (omega arith)
  back cell (b ∷ runs) (k ∷ ks) [] lasts ran e f keeps last = absurd (omega arith)
  back cell (true ∷ runs) (k ∷ ks) (c ∷ cs) [] ran e f keeps last = absurd keeps
  back cell (true ∷ runs) (k ∷ ks) (c ∷ cs) (row ∷ lasts) [] e f keeps last = absurd last
  back cell (true ∷ runs) (k ∷ ks) (c ∷ cs) (row ∷ lasts) (held ∷ ran) e f keeps last =
      let rest = back (cell + 1) runs ks cs lasts ran (omega arith) (omega arith) keeps.1 last.1 in
      ap (λ (r : Row Search). after_row (seen (cell + 1) k c) r ∷ after_rows (all_seen (cell + 1 + 1) ks cs) (woven runs (all_seen (cell + 1 + 1) ks cs) lasts)) last.0
      ∙ ap (λ ys. seen (cell + 1) (kept_of k.question held) (account_after held c) ∷ ys) rest
  back cell (false ∷ runs) (k ∷ ks) (c ∷ cs) lasts ran e f keeps last =
      let rest = back (cell + 1) runs ks cs lasts ran (omega arith) (omega arith) keeps last in ap (λ ys. seen (cell + 1) k c ∷ ys) rest

  have_spent : (cell : ℕ) (runs : List Bool) (ks : List Kept) (cs : List Account) (lasts : List (Row Search)) (ran : List (Held Search)) → length runs ≡ length ks → length ks ≡ length cs → EachPair (Keeps searching) (came cell runs ks cs) lasts → EachPair IsLast lasts ran →
      HaveSpent (places_of runs ks) ran cs
  have_spent cell [] [] [] [] [] e f keeps last = tt
  have_spent cell [] [] [] [] (held ∷ ran) e f keeps last = absurd last
  have_spent cell [] [] [] (row ∷ lasts) ran e f keeps last = absurd keeps
  have_spent cell [] [] (c ∷ cs) lasts ran e f keeps last = absurd (omega arith)
  have_spent cell (b ∷ runs) [] cs lasts ran e f keeps last = absurd (omega arith)
  have_spent cell [] (k ∷ ks) cs lasts ran e f keeps last = absurd (omega arith)
  have_spent cell (b ∷ runs) (k ∷ ks) [] lasts ran e f keeps last = absurd (omega arith)
  have_spent cell (true ∷ runs) (k ∷ ks) (c ∷ cs) [] ran e f keeps last = absurd keeps
  have_spent cell (true ∷ runs) (k ∷ ks) (c ∷ cs) (row ∷ lasts) [] e f keeps last = absurd last
  have_spent cell (true ∷ runs) (k ∷ ks) (c ∷ cs) (row ∷ lasts) (held ∷ ran) e f keeps last =
      let spent : row.spent ≡ held.spent = ap (λ (r : Row Search). r.spent) last.0 in
      let held_now : row.held ≡ held.held = ap (λ (r : Row Search). r.held) last.0 in
      let rises = keeps.0.rises in
      let balance = keeps.0.balance in
      (record { rises = omega arith; balance = omega arith }, have_spent (cell + 1) runs ks cs lasts ran (omega arith) (omega arith) keeps.1 last.1)
  have_spent cell (false ∷ runs) (k ∷ ks) (c ∷ cs) lasts ran e f keeps last = have_spent (cell + 1) runs ks cs lasts ran (omega arith) (omega arith) keeps last

  pub places_long : (runs : List Bool) (ks : List Kept) → length runs ≡ length ks → length (places_of runs ks) ≡ length ks
  places_long [] [] e = refl
  places_long [] (k ∷ ks) e = absurd (omega arith)
  places_long (b ∷ runs) [] e = absurd (omega arith)
  places_long (true ∷ runs) (k ∷ ks) e = ap suc (places_long runs ks (omega arith))
  places_long (false ∷ runs) (k ∷ ks) e = ap suc (places_long runs ks (omega arith))

  joined_long : (places : List Place) (ran : List (Held Search)) (cs : List Account) → HaveSpent places ran cs → length (joined places ran) ≡ length places
  joined_long [] ran cs h = refl
  joined_long (at_rest k ∷ places) ran [] h = absurd h
  joined_long (at_rest k ∷ places) ran (c ∷ cs) h = ap suc (joined_long places ran cs h)
  joined_long (at_run q ∷ places) [] cs h = absurd h
  joined_long (at_run q ∷ places) (held ∷ ran) [] h = absurd h
  joined_long (at_run q ∷ places) (held ∷ ran) (c ∷ cs) h = ap suc (joined_long places ran cs h.1)

  cells_long : (places : List Place) (ran : List (Held Search)) (cs : List Account) → HaveSpent places ran cs → length (cells_after places ran cs) ≡ length places
  cells_long [] ran cs h = refl
  cells_long (at_rest k ∷ places) ran [] h = absurd h
  cells_long (at_rest k ∷ places) ran (c ∷ cs) h = ap suc (cells_long places ran cs h)
  cells_long (at_run q ∷ places) [] cs h = absurd h
  cells_long (at_run q ∷ places) (held ∷ ran) [] h = absurd h
  cells_long (at_run q ∷ places) (held ∷ ran) (c ∷ cs) h = ap suc (cells_long places ran cs h.1)

  pub have_cells : (places : List Place) (ran : List (Held Search)) (cs : List Account) (ks' : List Kept) (cs' : List Account) → length places < 2 ^ 32 → HaveSpent places ran cs → ks' ≡ joined places ran → cs' ≡ cells_after places ran cs → HaveCells ks' cs'
  have_cells places ran cs ks' cs' few h e f =
      let long = ap length e ∙ joined_long places ran cs h in
      let cells_too = ap length f ∙ cells_long places ran cs h in record { each = omega arith; few = omega arith }

  taking_long : (round : Round) (state : State) (xs : List SearchState) (runs : List Bool) → EachPair (Taking round state) xs runs → length runs ≡ length xs
  taking_long round state [] [] h = refl
  taking_long round state [] (b ∷ runs) h = absurd h
  taking_long round state (x ∷ xs) [] h = absurd h
  taking_long round state (x ∷ xs) (b ∷ runs) h = ap suc (taking_long round state xs runs h.1)

module _ (state : State) (ledger : LedgerState) (ks : List Kept) (log : List (Entry Fact)) (is : state_of ledger ks log ≡ state) (cells : HaveCells ks ledger.cells) (runs : List Bool)
    (units : IsLedger (ledger_of state)) (stand : AllByRecursion (λ (x : SearchState). StandsBeside state.log (row_taken true x)) state.searches) (round : Round) (taking : AreTaking round state runs) where
  abbrev first : State
  first = state_of ledger ks log

  taking_first : AreTaking round first runs
  taking_first = subst (λ (s : State). AreTaking round s runs) (sym is) taking

  pub each_run : length runs ≡ length ks
  each_run = taking_long round first first.searches runs taking_first ∙ seen_long 1 ks ledger.cells cells.each
    where
      seen_long : (n : ℕ) (us : List Kept) (cs : List Account) → length us ≡ length cs → length (all_seen n us cs) ≡ length us
      seen_long n [] cs e = refl
      seen_long n (u ∷ us) [] e = absurd (omega arith)
      seen_long n (u ∷ us) (c ∷ cs) e = ap suc (seen_long (n + 1) us cs (omega arith))

  pub fit : AllByRecursion (IsFit searching) (came 0 runs ks ledger.cells)
  fit =
      let units_first : IsLedger (ledger_of first) = subst (λ (s : State). IsLedger (ledger_of s)) (sym is) units in
      let whole = units_first.balance.whole in
      let bounded = units_first.bounded in
      are_fit round first 0 runs ks ledger.cells taking_first (subst (λ (s : State). AllByRecursion (λ (x : SearchState). StandsBeside s.log (row_taken true x)) s.searches) (sym is) stand) (each_within first.searches _ (omega arith))

  pub few : length (places_of runs ks) < 2 ^ 32
  few = let long = places_long runs ks each_run in let most = cells.few in omega arith

  module _ (ran : List (Held Search)) (log' : List (Entry Fact)) (IsSize : ℕ → ℕ → ℕ → ℕ → Type 0) (went : GoesRound recording searching IsSize (running 0 runs ks ledger.cells) log ran log') where
    kept : EachPair (Keeps searching) (came 0 runs ks ledger.cells) went.last.rows
    kept = runs_keep recording searching 1 IsSize log sound (entered (running 0 runs ks ledger.cells) log) went.last (funded_of (came 0 runs ks ledger.cells) fit) went.runs

    pub spent : HaveSpent (places_of runs ks) ran ledger.cells
    spent = have_spent 0 runs ks ledger.cells went.last.rows ran each_run cells.each kept went.rows_are

    pub rounds : (ledger' : LedgerState) (ks' : List Kept) → ledger' ≡ record ledger { cells = cells_after (places_of runs ks) ran ledger.cells } → ks' ≡ joined (places_of runs ks) ran →
        Rounds (one_worker IsSize) (TakesIn round) state (state_of ledger' ks' log')
    rounds ledger' ks' ledger_is ks_is =
        subst (λ (s : State). Rounds (one_worker IsSize) (TakesIn round) s (state_of ledger' ks' log')) is (record {
          first = all_rows 1 IsSize log runs first.searches (entered (running 0 runs ks ledger.cells) log);
          last = all_rows 1 IsSize log runs first.searches went.last;
          rows = are_rows round first 0 runs ks ledger.cells taking_first;
          log = refl;
          runs = all_run 1 IsSize log runs first.searches (entered (running 0 runs ks ledger.cells) log) went.last went.runs;
          finished = all_over runs first.searches went.last.rows went.finished;
          new_is = ap (λ (l : LedgerState). state_of l ks' log') ledger_is ∙ ap (λ us. state_of (record ledger { cells = cells_after (places_of runs ks) ran ledger.cells }) us log') ks_is
              ∙ ap (λ ys. record first { searches = ys; log = log' }) (sym (back 0 runs ks ledger.cells went.last.rows ran each_run cells.each kept went.rows_are))
              ∙ ap (λ l. record first { searches = after_rows first.searches (woven runs first.searches went.last.rows); log = l }) (sym went.log_is);
        })
