-- The phases of a run, search after search.
use Rattle.std.proofs.Common.{◌≡◌, ℕ, zero, suc, ◌+◌, ◌-◌, ◌<◌, ◌≤◌, ◌↔◌, Bool, true, false, List, [], ◌∷◌, ◌++◌, length, map, take, drop, set, refl, ap, sym, ◌∙◌, subst, arith}
use Rattle.std.specs.Prelude.{Option, Some, slice_get}
use Rattle.std.specs.List.{AllByRecursion}
use Rattle.std.proofs.lemmas.List.{length-set}
use Rattle.mg_core.specs.declared.entries.Entry.{Entry}
use Rattle.mg_core.specs.Log.{Settled}
use Rattle.mg_ledger.specs.Accounts.{total_held}
use Rattle.mg_ledger.specs.Ledgers.{IsLedger}
use Rattle.mg_workers.specs.Rows.{EachPair}
use Rattle.mg_workers.proofs.Pairs.{all_at, all_imply}
use Rattle.mg_names.specs.Plan.{Plan}
use Rattle.mg_certs.specs.Claim.{Fact}
use Rattle.mg_certs.specs.Validity.{key_of}
use Rattle.mg_search.specs.Search.{ask_of}
use Rattle.mg_session.specs.State.{State, SearchState, accounts, ledger_of, row_taken}
use Rattle.mg_session.specs.Run.{allow, Idles, SomeIdles, Further, KeepsVerdict, TakesPart, IsSettledTo, is_found, is_stopped, stays, Settle, Rounds, RunStep}
use Rattle.mg_session.specs.StateOk.{EndsSo, StandsBeside, StateOk}
use Rattle.mg_session.specs.Built.{one_worker}
use Rattle.mg_session.specs.At.{Replaces, Round, again, TakesIn, AreTaking}
use Rattle.mg_session.specs.At.{Runs as Some_runs}
use Rattle.mg_session.proofs.Ledger.{held_cons}
use Rattle.mg_session.proofs.States.{allow_ok, rounds_ok, further_ok}
use Rattle.mg_session.proofs.Events.{not_both}
use Rattle.mg_session.proofs.Onward.{allowed_of, fewer_allowed}
use Rattle.mg_session.proofs.Firsts.{pairs_taken, pairs_more, pairs_put, map_put, map_taken, taken_whole, get_dropped}
use Rattle.mg_session.proofs.Seen.{some_at}

-- the first searches are allowed their units
pub record Allowing (first : State) (bound : Option ℕ) (i last : ℕ) (now : State) : Type 0 where
  pub now_is : now ≡ record first { searches = map (allow bound) (take i first.searches) ++ drop i first.searches }
  pub long : length now.searches ≡ length first.searches
  pub upto : last ≡ length first.searches

pub allow_begins : (first : State) (bound : Option ℕ) (last : ℕ) → last ≡ length first.searches → Allowing first bound 0 last first
allow_begins first bound last e = record { now_is = refl; long = refl; upto = e }

pub allow_next : (first : State) (bound : Option ℕ) (i last : ℕ) (now new : State) → i < last → Allowing first bound i last now →
    ((x : SearchState) → slice_get now.searches i ≡ Some x → Replaces now i now.purse (allow bound x) new) → Allowing first bound (i + 1) last new
allow_next first bound i last now new within h step =
    let long = h.long in
    let upto = h.upto in
    let there = some_at now.searches i (omega arith) in
    let next = (step there.0 there.1).after_is in
    let mixed = map (allow bound) (take i first.searches) ++ drop i first.searches in
    let searches : now.searches ≡ mixed = ap (λ (s : State). s.searches) h.now_is in
    record {
      now_is = next ∙ ap (λ (s : State). record s { searches = set s.searches i (allow bound there.0) }) h.now_is
          ∙ ap (λ xs. record first { searches = xs }) (map_put (allow bound) first.searches i there.0 (subst (λ xs. slice_get xs i ≡ Some there.0) searches there.1));
      long = ap (λ (s : State). length s.searches) next ∙ length-set now.searches i (allow bound there.0) ∙ h.long;
      upto = h.upto;
    }

pub allow_done : (first : State) (bound : Option ℕ) (i last : ℕ) (now : State) → last ≤ i → Allowing first bound i last now → now ≡ record first { searches = map (allow bound) first.searches }
allow_done first bound i last now over h =
    let upto = h.upto in h.now_is ∙ ap (λ xs. record first { searches = xs }) (map_taken (allow bound) first.searches i (omega arith))

abbrev pub Taking : Round → State → SearchState → Bool → Type 0
Taking round state search takes = (takes ≡ true) ↔ TakesIn round state search

pub taking_next : (round : Round) (state : State) (i : ℕ) (runs new : List Bool) (takes : Bool) → i < length state.searches → new ≡ runs ++ takes ∷ [] → ((x : SearchState) → slice_get state.searches i ≡ Some x → Taking round state x takes) →
    EachPair (Taking round state) (take i state.searches) runs → EachPair (Taking round state) (take (i + 1) state.searches) new
taking_next round state i runs new takes within new_is next h =
    let there = some_at state.searches i within in
    subst (EachPair (Taking round state) (take (i + 1) state.searches)) (sym new_is) (pairs_more (Taking round state) state.searches runs i there.0 takes there.1 (next there.0 there.1) h)

-- which settling a search undergoes is said by the log
settled_as : (a b : State) (x y : SearchState) → b.log ≡ a.log → IsSettledTo b x y → IsSettledTo a x y
settled_as a b x y e (is_found s k same) =
    is_found (subst (λ (l : List (Entry Fact)). Settled key_of l (ask_of x.search)) e s) (subst (λ (l : List (Entry Fact)). KeepsVerdict l (ask_of x.search) x.number) e k) same
settled_as a b x y e (is_stopped s k same) =
    is_stopped (subst (λ (l : List (Entry Fact)). Settled key_of l (ask_of x.search)) e s) (λ keeper. k (subst (λ (l : List (Entry Fact)). KeepsVerdict l (ask_of x.search) x.number) (sym e) keeper)) same
settled_as a b x y e (stays s same) = stays (λ settled. s (subst (λ (l : List (Entry Fact)). Settled key_of l (ask_of x.search)) (sym e) settled)) same

holds_less : (s : State) (x y : SearchState) → IsSettledTo s x y → y.account.held ≤ x.account.held
holds_less s x y (is_found settled k same) = let none : y.account.held ≡ 0 = ap (λ (v : SearchState). v.account.held) same in omega arith
holds_less s x y (is_stopped settled k same) = let none : y.account.held ≡ 0 = ap (λ (v : SearchState). v.account.held) same in omega arith
holds_less s x y (stays settled same) = let all : y.account.held ≡ x.account.held = ap (λ (v : SearchState). v.account.held) same in omega arith

held_set : (xs : List SearchState) (i : ℕ) (x y : SearchState) → slice_get xs i ≡ Some x → total_held (accounts (set xs i y)) + x.account.held ≡ total_held (accounts xs) + y.account.held
held_set [] i x y e = absurd (cc)
held_set (z ∷ xs) zero x y e =
    let same : z ≡ x = cc in
    let held : z.account.held ≡ x.account.held = ap (λ (v : SearchState). v.account.held) same in omega (arith, held_cons y xs, held_cons z xs)
held_set (z ∷ xs) (suc i) x y e =
    let rest = held_set xs i x y e in omega (arith, held_cons z (set xs i y), held_cons z xs)

-- the first searches are settled
pub record Settling (first : State) (i last : ℕ) (now : State) : Type 0 where
  pub log : now.log ≡ first.log
  pub funded : now.funded ≡ first.funded
  pub done : EachPair (IsSettledTo first) (take i first.searches) (take i now.searches)
  pub rest : drop i now.searches ≡ drop i first.searches
  pub purse : now.purse + total_held (accounts now.searches) ≡ first.purse + total_held (accounts first.searches)
  pub long : length now.searches ≡ length first.searches
  pub upto : last ≡ length first.searches

pub settle_begins : (first : State) (last : ℕ) → last ≡ length first.searches → Settling first 0 last first
settle_begins first last e = record { log = refl; funded = refl; done = tt; rest = refl; purse = refl; long = refl; upto = e }

abbrev EndsSoOf : List (Entry Fact) → SearchState → Type 0
EndsSoOf log x = EndsSo log x.search x.number x.end

pub settle_next : (first : State) (i last : ℕ) (now new : State) → i < last → AllByRecursion (EndsSoOf first.log) first.searches → Settling first i last now →
    ((x : SearchState) → slice_get now.searches i ≡ Some x → EndsSo now.log x.search x.number x.end → (y : SearchState) × IsSettledTo now x y × Replaces now i (now.purse + (x.account.held - y.account.held)) y new) →
    Settling first (i + 1) last new
settle_next first i last now new within ends h step =
    let long = h.long in
    let upto = h.upto in
    let there = some_at now.searches i (omega arith) in
    let x = there.0 in
    let was = get_dropped first.searches now.searches i x h.rest there.1 in
    let so = subst (λ (l : List (Entry Fact)). EndsSoOf l x) (sym h.log) (all_at (EndsSoOf first.log) first.searches i x ends was) in
    let stepped = step x there.1 so in
    let y = stepped.0 in
    let next = stepped.2.after_is in
    let put = pairs_put (IsSettledTo first) first.searches now.searches i x y there.1 h.rest (settled_as first now x y h.log stepped.1) h.done in
    let searches : new.searches ≡ set now.searches i y = ap (λ (s : State). s.searches) next in
    let purse_now : new.purse ≡ now.purse + (x.account.held - y.account.held) = ap (λ (s : State). s.purse) next in
    let held_now : total_held (accounts new.searches) ≡ total_held (accounts (set now.searches i y)) = ap (λ xs. total_held (accounts xs)) searches in
    let less = holds_less now x y stepped.1 in
    let purse = h.purse in
    record {
      log = ap (λ (s : State). s.log) next ∙ h.log;
      funded = ap (λ (s : State). s.funded) next ∙ h.funded;
      done = subst (λ xs. EachPair (IsSettledTo first) (take (i + 1) first.searches) (take (i + 1) xs)) (sym searches) put.0;
      rest = ap (λ xs. drop (i + 1) xs) searches ∙ put.1;
      purse = omega (arith, held_set now.searches i x y there.1);
      long = ap length searches ∙ length-set now.searches i y ∙ h.long;
      upto = h.upto;
    }

pub settle_done : (first : State) (i last : ℕ) (now : State) → last ≤ i → Settling first i last now → Settle first now
settle_done first i last now over h =
    let long = h.long in
    let upto = h.upto in
    record {
      searches = pairs_taken (IsSettledTo first) first.searches now.searches i (omega arith) (subst (EachPair (IsSettledTo first) (take i first.searches)) (taken_whole now.searches i (omega arith)) h.done);
      purse = h.purse;
      new_is = ap (λ l. record now { log = l }) h.log ∙ ap (λ f. record now { log = first.log; funded = f }) h.funded;
    }

ends_of : (log : List (Entry Fact)) (xs : List SearchState) → AllByRecursion (λ (x : SearchState). StandsBeside log (row_taken true x)) xs → AllByRecursion (EndsSoOf log) xs
ends_of log xs h = all_imply (λ (x : SearchState). StandsBeside log (row_taken true x)) (EndsSoOf log) (λ x stands. stands.end) xs h

module _ (old allowed : State) (bound : Option ℕ) (allowed_is : allowed ≡ record old { searches = map (allow bound) old.searches }) (some : (plan : Plan) × StateOk plan 1 old) where
  allowed_ok : StateOk some.0 1 allowed
  allowed_ok = subst (StateOk some.0 1) (sym allowed_is) (allow_ok some.0 1 bound old some.1)

  pub can_ledger : IsLedger (ledger_of allowed)
  can_ledger = allowed_ok.ledger

  pub can_stand : AllByRecursion (λ (x : SearchState). StandsBeside allowed.log (row_taken true x)) allowed.searches
  can_stand = allowed_ok.stand

  pub ran_in_order : (IsSize : ℕ → ℕ → ℕ → ℕ → Type 0) (ran : State) → Rounds (one_worker IsSize) TakesPart allowed ran → StateOk some.0 1 ran
  ran_in_order IsSize ran rounds = rounds_ok some.0 1 (one_worker IsSize) TakesPart allowed ran refl rounds allowed_ok

  pub can_settle : (IsSize : ℕ → ℕ → ℕ → ℕ → Type 0) (ran ran_on : State) → Rounds (one_worker IsSize) TakesPart allowed ran → Further some.0 (one_worker IsSize) ran ran_on →
      AllByRecursion (λ (x : SearchState). EndsSo ran_on.log x.search x.number x.end) ran_on.searches
  can_settle IsSize ran ran_on rounds further = ends_of ran_on.log ran_on.searches (further_ok some.0 1 (one_worker IsSize) ran further.0 ran_on refl further.1 (ran_in_order IsSize ran rounds)).stand

  pub run_step : (IsSize : ℕ → ℕ → ℕ → ℕ → Type 0) (ran ran_on after : State) → Rounds (one_worker IsSize) TakesPart allowed ran → ((plan : Plan) → Further plan (one_worker IsSize) ran ran_on) → Settle ran_on after →
      (plan : Plan) → RunStep plan (one_worker IsSize) bound old after
  run_step IsSize ran ran_on after rounds further settle plan = record {
    inherited = old;
    inherit = refl;
    ran = ran;
    core = record { rounds = subst (λ (s : State). Rounds (one_worker IsSize) TakesPart s ran) allowed_is rounds };
    inherited_again = ran;
    inherit_again = refl;
    ran_on = ran_on;
    further = further plan;
    settled = after;
    settle = settle;
    sides = refl;
  }

-- of further runs some are made
pub record ReadingOn (IsSize : ℕ → ℕ → ℕ → ℕ → Type 0) (first now : State) (runs : List Bool) : Type 0 where
  pub plan : Plan
  pub ok : StateOk plan 1 now
  pub taking : AreTaking again now runs
  pub onward : (plan : Plan) (after : State) → Further plan (one_worker IsSize) now after → Further plan (one_worker IsSize) first after

pub reading_begins : (IsSize : ℕ → ℕ → ℕ → ℕ → Type 0) (first : State) (runs : List Bool) → (plan : Plan) × StateOk plan 1 first → AreTaking again first runs → ReadingOn IsSize first first runs
reading_begins IsSize first runs some taking = record { plan = some.0; ok = some.1; taking = taking; onward = λ plan after h. h }

some_taken : (state : State) (xs : List SearchState) (runs : List Bool) (place : ℕ) → slice_get runs place ≡ Some true → EachPair (Taking again state) xs runs → (i : ℕ) × (x : SearchState) × (slice_get xs i ≡ Some x) × Idles state x
some_taken state [] [] place e h = absurd (cc e)
some_taken state [] (b ∷ runs) place e h = absurd h
some_taken state (x ∷ xs) [] place e h = absurd h
some_taken state (x ∷ xs) (b ∷ runs) zero e h = let takes : b ≡ true = cc e in (zero, x, refl, h.0.0 takes)
some_taken state (x ∷ xs) (b ∷ runs) (suc place) e h = let rest = some_taken state xs runs place e h.1 in (suc rest.0, rest.1, rest.2, rest.3)

pub some_idles : (state : State) (runs : List Bool) (some : Bool) → some ≡ true → Some_runs some runs → AreTaking again state runs → SomeIdles state
some_idles state runs true e place taking =
    let there = some_taken state state.searches runs place.0 place.1 taking in record { place = there.0; search = there.1; there = there.2; idles = there.3 }
some_idles state runs false e place taking = absurd (cc e)

none_taken : (state : State) (xs : List SearchState) (runs : List Bool) → AllByRecursion (λ (takes : Bool). takes ≡ false) runs → EachPair (Taking again state) xs runs → AllByRecursion (λ search. Idles state search → ⊥) xs
none_taken state [] [] none h = tt
none_taken state [] (b ∷ runs) none h = absurd h
none_taken state (x ∷ xs) [] none h = absurd h
none_taken state (x ∷ xs) (b ∷ runs) none h = (λ idles. not_both b (h.0.1 idles) none.0, none_taken state xs runs none.1 h.1)

pub reading_next : (IsSize : ℕ → ℕ → ℕ → ℕ → Type 0) (first now next : State) (runs runs' : List Bool) (some : Bool) → ReadingOn IsSize first now runs → some ≡ true → Some_runs some runs → ((round : Round) → AreTaking round now runs → Rounds (one_worker IsSize) (TakesIn round) now next) → AreTaking again next runs' → ReadingOn IsSize first next runs'
reading_next IsSize first now next runs runs' some h e runs_some rounds taking =
    let round = rounds again h.taking in
    record {
      plan = h.plan;
      ok = rounds_ok h.plan 1 (one_worker IsSize) Idles now next refl round h.ok;
      taking = taking;
      onward = λ plan after further. h.onward plan after (next ∷ further.0, (some_idles now runs some e runs_some h.taking, next, round, refl, further.1));
    }

pub fewer_next : (IsSize : ℕ → ℕ → ℕ → ℕ → Type 0) (first now next : State) (runs : List Bool) (some : Bool) → ReadingOn IsSize first now runs → some ≡ true → Some_runs some runs → ((round : Round) → AreTaking round now runs → Rounds (one_worker IsSize) (TakesIn round) now next) → allowed_of next.searches < allowed_of now.searches
fewer_next IsSize first now next runs some h e runs_some rounds = fewer_allowed h.plan (one_worker IsSize) now next h.ok (some_idles now runs some e runs_some h.taking) (rounds again h.taking)

pub reading_ends : (IsSize : ℕ → ℕ → ℕ → ℕ → Type 0) (first now : State) (runs : List Bool) (some : Bool) → ReadingOn IsSize first now runs → some ≡ false → Some_runs some runs → (plan : Plan) → Further plan (one_worker IsSize) first now
reading_ends IsSize first now runs true h e none plan = absurd (cc e)
reading_ends IsSize first now runs false h e none plan = h.onward plan now ([], (none_taken now now.searches runs none h.taking, refl))
