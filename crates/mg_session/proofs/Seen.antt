-- Searches cs a session keeps them, and cs its state shows them.
use Rattle.std.proofs.Common.{◌≡◌, ℕ, zero, suc, ◌+◌, ◌-◌, ◌<◌, ◌≤◌, ◌^◌, ◌↔◌, Bool, true, false, List, [], ◌∷◌, ◌++◌, length, set, get_or, ◌⊎◌, inl, inr, refl, ap, sym, ◌∙◌, subst, arith}
use Rattle.std.specs.Prelude.{Option, Some, None, IsTrue, IfSome, IfNone, Result, Ok, Err, IfOk, slice_get}
use Rattle.std.specs.List.{AllByRecursion}
use Rattle.mg_core.specs.declared.entries.Entry.{Entry}
use Rattle.mg_core.specs.Log.{facts_of, Settled, ModelsAbove}
use Rattle.mg_ledger.specs.declared.ledger.Account.{Account}
use Rattle.mg_ledger.specs.Accounts.{no_units, granted_more, given_back}
use Rattle.mg_ledger.specs.Ledgers.{LedgerState, account_at, Step}
use Rattle.mg_ledger.specs.Ledgers.Call.{AddCell, Grant, GiveBack}
use Rattle.mg_words.specs.declared.procedure.Procedure.{Procedure}
use Rattle.mg_workers.specs.declared.held.End.{End}
use Rattle.mg_workers.specs.declared.held.End.TheVariants as ends
use Rattle.mg_certs.specs.Claim.{Fact}
use Rattle.mg_certs.specs.Validity.{key_of, recording}
use Rattle.mg_search.specs.Search.{Search, ask_of, Reads}
use Rattle.mg_session.specs.State.{State, SearchState, IsOf, give_back, ended}
use Rattle.mg_session.specs.Run.{IsSettled, CanGoOn, TakesPart, Idles, IsSettledTo, is_found, is_stopped, stays, allow, within_bound}
use Rattle.mg_session.specs.Session.{IsAbsent, granted, cancelled, end_granted, end_cancelled, new_search}
use Rattle.mg_session.specs.StateOk.{EndsSo}
use Rattle.mg_session.specs.Kept.{seen, all_seen, HaveCells, state_of}
use Rattle.mg_session.specs.At.{IsKeptFor, IsSearchAt, Replaces, with_new, MayRun, MayIdle, HasUnread}
use Rattle.mg_session.specs.declared.state.Kept.{Kept}
use Rattle.mg_session.proofs.Handing.{one_list}

pub if_ok_then : {X E : Type 0} {P Q : X → Type 0} (r : Result X E) → ((x : X) → P x → Q x) → IfOk r P → IfOk r Q
if_ok_then (Ok x) f h = f x h
if_ok_then (Err e) f h = tt

pub length_seen : (n : ℕ) (ks : List Kept) (cs : List Account) → length ks ≡ length cs → length (all_seen n ks cs) ≡ length ks
length_seen n [] cs e = refl
length_seen n (k ∷ ks) [] e = absurd (omega arith)
length_seen n (k ∷ ks) (a ∷ cs) e = ap suc (length_seen (n + 1) ks cs (omega arith))

-- what stands at a place was kept there
pub record SeenAt (ks : List Kept) (cs : List Account) (i : ℕ) (x : SearchState) : Type 0 where
  pub kept : Kept
  pub account : Account
  pub kept_there : slice_get ks i ≡ Some kept
  pub account_there : slice_get cs i ≡ Some account
  pub is_seen : x ≡ seen x.number kept account

pub seen_at : (n : ℕ) (ks : List Kept) (cs : List Account) (i : ℕ) (x : SearchState) → slice_get (all_seen n ks cs) i ≡ Some x → SeenAt ks cs i x
seen_at n [] cs i x e = absurd (cc)
seen_at n (k ∷ ks) [] i x e = absurd (cc)
seen_at n (k ∷ ks) (a ∷ cs) zero x e =
    let same : seen n k a ≡ x = cc in record { kept = k; account = a; kept_there = refl; account_there = refl; is_seen = subst (λ (v : SearchState). v ≡ seen v.number k a) same refl }
seen_at n (k ∷ ks) (a ∷ cs) (suc i) x e =
    let rest = seen_at (n + 1) ks cs i x e in
    record { kept = rest.kept; account = rest.account; kept_there = rest.kept_there; account_there = rest.account_there; is_seen = rest.is_seen }

pub set_seen : (n : ℕ) (ks : List Kept) (cs : List Account) (i : ℕ) (x : SearchState) (k' : Kept) (a' : Account) → slice_get (all_seen n ks cs) i ≡ Some x →
    all_seen n (set ks i k') (set cs i a') ≡ set (all_seen n ks cs) i (seen x.number k' a')
set_seen n [] cs i x k' a' e = absurd (cc)
set_seen n (k ∷ ks) [] i x k' a' e = absurd (cc)
set_seen n (k ∷ ks) (a ∷ cs) zero x k' a' e =
    let same : seen n k a ≡ x = cc in ap (λ (v : SearchState). seen v.number k' a' ∷ all_seen (n + 1) ks cs) same
set_seen n (k ∷ ks) (a ∷ cs) (suc i) x k' a' e = ap (λ xs. seen n k a ∷ xs) (set_seen (n + 1) ks cs i x k' a' e)

pub push_seen : (n : ℕ) (ks : List Kept) (cs : List Account) (k : Kept) (a : Account) → length ks ≡ length cs → all_seen n (ks ++ k ∷ []) (cs ++ a ∷ []) ≡ all_seen n ks cs ++ seen (n + length ks) k a ∷ []
push_seen n [] [] k a e = let same : n ≡ n + 0 = omega arith in ap (λ m. seen m k a ∷ []) same
push_seen n [] (b ∷ cs) k a e = absurd (omega arith)
push_seen n (j ∷ ks) [] k a e = absurd (omega arith)
push_seen n (j ∷ ks) (b ∷ cs) k a e =
    let same : n + 1 + length ks ≡ n + suc (length ks) = omega arith in
    ap (λ xs. seen n j b ∷ xs) (push_seen (n + 1) ks cs k a (omega arith) ∙ ap (λ m. all_seen (n + 1) ks cs ++ seen m k a ∷ []) same)

-- what is kept nowhere is nowhere in the state
pub absent_seen : (question : ℕ) (procedure : Procedure) (n : ℕ) (ks : List Kept) (cs : List Account) → AllByRecursion (λ kept. IsKeptFor question procedure kept → ⊥) ks →
    AllByRecursion (λ search. IsOf question procedure search → ⊥) (all_seen n ks cs)
absent_seen question procedure n [] cs h = tt
absent_seen question procedure n (k ∷ ks) [] h = tt
absent_seen question procedure n (k ∷ ks) (a ∷ cs) h =
    (λ is. h.0 (record { of_question = is.of_question; of_procedure = is.of_procedure }), absent_seen question procedure (n + 1) ks cs h.1)

pub there_seen : (n : ℕ) (ks : List Kept) (cs : List Account) (i : ℕ) (k : Kept) → length ks ≡ length cs → slice_get ks i ≡ Some k → (m : ℕ) × (a : Account) × (slice_get (all_seen n ks cs) i ≡ Some (seen m k a))
there_seen n [] cs i k e there = absurd (cc)
there_seen n (j ∷ ks) [] i k e there = absurd (omega arith)
there_seen n (j ∷ ks) (a ∷ cs) zero k e there = let same : j ≡ k = cc in (n, a, ap (λ v. Some (seen n v a)) same)
there_seen n (j ∷ ks) (a ∷ cs) (suc i) k e there = there_seen (n + 1) ks cs i k (omega arith) there

get_at : {X : Type 0} (xs : List X) (i : ℕ) (x d : X) → slice_get xs i ≡ Some x → get_or xs i d ≡ x
get_at [] i x d e = absurd (cc)
get_at (y ∷ xs) zero x d e = cc
get_at (y ∷ xs) (suc i) x d e = get_at xs i x d e

pub some_at : {X : Type 0} (xs : List X) (i : ℕ) → i < length xs → (x : X) × (slice_get xs i ≡ Some x)
some_at [] i within = absurd (omega arith)
some_at (x ∷ xs) zero within = (x, refl)
some_at (x ∷ xs) (suc i) within = some_at xs i (omega arith)

-- an end that is found stays so, another is stopped
end_settled : (end after : End) → (end ≡ ends.Found → after ≡ ends.Found) → ((end ≡ ends.Found → ⊥) → after ≡ ends.Stopped) → (after ≡ ends.Found) × (end ≡ ends.Found) ⊎ ((after ≡ ends.Stopped) × (end ≡ ends.Found → ⊥))
end_settled ends.Fresh after f s = inr (s (λ e. cc e), λ e. cc e)
end_settled ends.More after f s = inr (s (λ e. cc e), λ e. cc e)
end_settled ends.Found after f s = inl (f refl, refl)
end_settled ends.Closed after f s = inr (s (λ e. cc e), λ e. cc e)
end_settled ends.Idle after f s = inr (s (λ e. cc e), λ e. cc e)
end_settled ends.Stopped after f s = inr (s (λ e. cc e), λ e. cc e)
end_settled (ends.Full what count) after f s = inr (s (λ e. cc e), λ e. cc e)
end_settled ends.Cancelled after f s = inr (s (λ e. cc e), λ e. cc e)

set_there : {X : Type 0} (xs : List X) (i : ℕ) (v : X) → slice_get xs i ≡ Some v → set xs i v ≡ xs
set_there [] i v e = refl
set_there (w ∷ ws) zero v e = let same : v ≡ w = cc in ap (λ u. u ∷ ws) same
set_there (w ∷ ws) (suc i) v e = ap (λ us. w ∷ us) (set_there ws i v e)

-- a search that isn't settled stays
pub unsettled_at : (s : State) (place : ℕ) (x : SearchState) → slice_get s.searches place ≡ Some x → (IsSettled s x → ⊥) → (y : SearchState) × IsSettledTo s x y × Replaces s place (s.purse + (x.account.held - y.account.held)) y s
unsettled_at s place x there none =
    let nothing : s.purse + (x.account.held - x.account.held) ≡ s.purse = omega arith in
    (x, stays none refl, record { after_is = ap (λ xs. record s { searches = xs }) (sym (set_there s.searches place x there)) ∙ ap (λ p. record s { purse = p; searches = set s.searches place x }) (sym nothing) })

-- a search that has made no turn
abbrev pub fresh : ℕ → Search → Kept
fresh question search = record { question = question; search = search; allowed = 0; turns = 0; read = 0; end = ends.Fresh }

abbrev state_with : List (Entry Fact) → ℕ → ℕ → List SearchState → State
state_with log funded purse searches = record { funded = funded; purse = purse; searches = searches; log = log }

module _ (s : State) (ledger : LedgerState) (ks : List Kept) (log : List (Entry Fact)) (is : state_of ledger ks log ≡ s) (cells : HaveCells ks ledger.cells) where
  count_is : length ks ≡ length s.searches
  count_is = sym (length_seen 1 ks ledger.cells cells.each) ∙ ap (λ (v : State). length v.searches) is

  pub count : (n : ℕ) → n ≡ length ks → n ≡ length s.searches
  count n e = e ∙ count_is

  pub kept_within : (place : ℕ) → place < length s.searches → place < length ks
  kept_within place within = let same = count_is in omega arith

  pub cell_within : (place : ℕ) → place < length s.searches → place < length ledger.cells
  cell_within place within = let same = count_is in let each = cells.each in omega arith

  pub absent : (question : ℕ) (procedure : Procedure) → AllByRecursion (λ kept. IsKeptFor question procedure kept → ⊥) ks → IsAbsent s question procedure
  absent question procedure h = subst (λ (v : State). IsAbsent v question procedure) is (absent_seen question procedure 1 ks ledger.cells h)

  pub absent_if : (question : ℕ) (procedure : Procedure) (among : List Kept) (found : Option ℕ) → among ≡ ks → IfNone found (AllByRecursion (λ kept. IsKeptFor question procedure kept → ⊥) among) → IfNone found (IsAbsent s question procedure)
  absent_if question procedure among None e h = absent question procedure (subst (AllByRecursion (λ kept. IsKeptFor question procedure kept → ⊥)) e h)
  absent_if question procedure among (Some place) e h = tt

  pub present : (question : ℕ) (procedure : Procedure) (place : ℕ) (kept : Kept) → slice_get ks place ≡ Some kept → IsKeptFor question procedure kept → IsSearchAt s question procedure place
  present question procedure place kept there h =
      let found = there_seen 1 ks ledger.cells place kept cells.each there in
      subst (λ (v : State). IsSearchAt v question procedure place) is (record { search = seen found.0 kept found.1; there = found.2; is_of = record { of_question = h.of_question; of_procedure = h.of_procedure } })

  pub present_if : (question : ℕ) (procedure : Procedure) (among : List Kept) (found : Option ℕ) → among ≡ ks → IfSome found (λ place. (kept : Kept) × (slice_get among place ≡ Some kept) × IsKeptFor question procedure kept) → IfSome found (λ place. IsSearchAt s question procedure place)
  present_if question procedure among None e h = tt
  present_if question procedure among (Some place) e h = present question procedure place h.0 (subst (λ ys. slice_get ys place ≡ Some h.0) e h.1) h.2

  pub counted : (most place : ℕ) → place < length s.searches → ((x : SearchState) → slice_get s.searches place ≡ Some x → x.account.granted ≤ most) → (account_at ledger place).granted ≤ most
  counted most place within h =
      let there = some_at s.searches place within in
      let at = seen_at 1 ks ledger.cells place there.0 (subst (λ (v : State). slice_get v.searches place ≡ Some there.0) (sym is) there.1) in
      let same : account_at ledger place ≡ there.0.account = get_at ledger.cells place at.account no_units at.account_there ∙ sym (ap (λ (v : SearchState). v.account) at.is_seen) in
      subst (λ (a : Account). a.granted ≤ most) (sym same) (h there.0 there.1)

  module _ (place : ℕ) (x : SearchState) (there : slice_get s.searches place ≡ Some x) where
    there_in : slice_get (all_seen 1 ks ledger.cells) place ≡ Some x
    there_in = subst (λ (v : State). slice_get v.searches place ≡ Some x) (sym is) there

    stands : SeenAt ks ledger.cells place x
    stands = seen_at 1 ks ledger.cells place x there_in

    -- it is what was kept, with the account of its cell
    pub is_kept : (k : Kept) → k ≡ get_or ks place k → x ≡ seen x.number k (account_at ledger place)
    is_kept k e =
        let same_kept : stands.kept ≡ k = sym (e ∙ get_at ks place stands.kept k stands.kept_there) in
        let same_account : stands.account ≡ account_at ledger place = sym (get_at ledger.cells place stands.account no_units stands.account_there) in
        stands.is_seen ∙ ap (λ v. seen x.number v stands.account) same_kept ∙ ap (λ v. seen x.number k v) same_account

    pub account_is : account_at ledger place ≡ x.account
    account_is = get_at ledger.cells place stands.account no_units stands.account_there ∙ sym (ap (λ (v : SearchState). v.account) stands.is_seen)

    pub replaced : (ledger' : LedgerState) (k' : Kept) (a' : Account) (y : SearchState) (purse : ℕ) → ledger'.funded ≡ ledger.funded → ledger'.purse ≡ purse → ledger'.cells ≡ set ledger.cells place a' → y ≡ seen x.number k' a' →
        Replaces s place purse y (state_of ledger' (set ks place k') log)
    replaced ledger' k' a' y purse same_funded same_purse new_cells y_is = record {
      after_is =
          let searches : all_seen 1 (set ks place k') ledger'.cells ≡ set (all_seen 1 ks ledger.cells) place y = ap (λ bs. all_seen 1 (set ks place k') bs) new_cells ∙ set_seen 1 ks ledger.cells place x k' a' there_in ∙ ap (λ v. set (all_seen 1 ks ledger.cells) place v) (sym y_is) in
          let first : state_of ledger' (set ks place k') log ≡ record { funded = ledger.funded; purse = purse; searches = set (all_seen 1 ks ledger.cells) place y; log = log } =
          ap (λ f. state_with log f ledger'.purse (all_seen 1 (set ks place k') ledger'.cells)) same_funded ∙ ap (λ p. state_with log ledger.funded p (all_seen 1 (set ks place k') ledger'.cells)) same_purse ∙ ap (λ xs. state_with log ledger.funded purse xs) searches in
          first ∙ ap (λ (v : State). record v { purse = purse; searches = set v.searches place y }) is;
    }

    pub granted_at : (ledger' : LedgerState) (units : ℕ) (k : Kept) (end : End) → Step ledger (Grant place units) ledger' → units ≤ s.purse → k ≡ get_or ks place k → end ≡ end_granted k.end →
        Replaces s place (s.purse - units) (granted units x) (state_of ledger' (set ks place (record k { end = end })) log)
    granted_at ledger' units k end step few e end_is =
        let purse : ledger.purse ≡ s.purse = ap (λ (v : State). v.purse) is in
        let new = step.1 (omega arith) in
        let made : granted units x ≡ seen x.number (record k { end = end_granted k.end }) (granted_more units (account_at ledger place)) = ap (granted units) (is_kept k e) in
        replaced ledger' (record k { end = end }) (granted_more units (account_at ledger place)) (granted units x) (s.purse - units) (ap (λ (l : LedgerState). l.funded) new) (ap (λ (l : LedgerState). l.purse) new ∙ ap (λ p. p - units) purse) (ap (λ (l : LedgerState). l.cells) new)
        (made ∙ ap (λ n. seen x.number (record k { end = n }) (granted_more units (account_at ledger place))) (sym end_is))

    pub cancelled_at : (ledger' : LedgerState) (k : Kept) (end : End) → Step ledger (GiveBack place) ledger' → k ≡ get_or ks place k → end ≡ end_cancelled k.end →
        Replaces s place (s.purse + x.account.held) (cancelled x) (state_of ledger' (set ks place (record k { allowed = 0; end = end })) log)
    cancelled_at ledger' k end step e end_is =
        let new = step.1 in
        let made : cancelled x ≡ seen x.number (record k { allowed = 0; end = end_cancelled k.end }) (given_back (account_at ledger place)) = ap cancelled (is_kept k e) in
        replaced ledger' (record k { allowed = 0; end = end }) (given_back (account_at ledger place)) (cancelled x) (s.purse + x.account.held) (ap (λ (l : LedgerState). l.funded) new)
        (ap (λ (l : LedgerState). l.purse) new ∙ ap (λ (a : Account). ledger.purse + a.held) account_is ∙ ap (λ (v : State). v.purse + x.account.held) is) (ap (λ (l : LedgerState). l.cells) new)
        (made ∙ ap (λ n. seen x.number (record k { allowed = 0; end = n }) (given_back (account_at ledger place))) (sym end_is))

    pub allowed_at : (bound : Option ℕ) (k : Kept) (allowed : ℕ) → k ≡ get_or ks place k → allowed ≡ within_bound bound (account_at ledger place).held →
        Replaces s place s.purse (allow bound x) (state_of ledger (set ks place (record k { allowed = allowed })) log)
    allowed_at bound k allowed e allowed_is =
        let made : allow bound x ≡ seen x.number (record k { allowed = within_bound bound (account_at ledger place).held }) (account_at ledger place) = ap (allow bound) (is_kept k e) in
        replaced ledger (record k { allowed = allowed }) (account_at ledger place) (allow bound x) s.purse refl (ap (λ (v : State). v.purse) is) (sym (set_same ledger.cells place))
        (made ∙ ap (λ n. seen x.number (record k { allowed = n }) (account_at ledger place)) (sym allowed_is))
      where
        set_same : (cs : List Account) (i : ℕ) → set cs i (get_or cs i no_units) ≡ cs
        set_same [] i = refl
        set_same (a ∷ cs) zero = refl
        set_same (a ∷ cs) (suc i) = ap (λ bs. a ∷ bs) (set_same cs i)

    pub is_settled : (k : Kept) → k ≡ get_or ks place k → Settled key_of log (ask_of k.search) → IsSettled s x
    is_settled k e h = subst (λ (v : State). IsSettled v x) is (subst (λ (v : SearchState). Settled key_of log (ask_of v.search)) (sym (is_kept k e)) h)

    pub is_unsettled : (k : Kept) → k ≡ get_or ks place k → (Settled key_of log (ask_of k.search) → ⊥) → IsSettled s x → ⊥
    is_unsettled k e h settled =
        h (subst (λ (v : SearchState). Settled key_of log (ask_of v.search)) (is_kept k e) (subst (λ (v : State). IsSettled v x) (sym is) settled))

    pub takes : (k : Kept) (result settled : Bool) → k ≡ get_or ks place k → (IsTrue result ↔ MayRun (account_at ledger place).held settled k.end) →
        (IsTrue settled → IsSettled s x) → (settled ≡ false → IsSettled s x → ⊥) → IsTrue result ↔ TakesPart s x
    takes k result settled e may then_so else_not = (
      λ t. let m = may.0 t in
          record {
            holds = subst (λ (a : Account). 1 ≤ a.held) account_is m.holds;
            unsettled = else_not m.unsettled;
            can_go_on = subst (λ (v : SearchState). CanGoOn v.end) (sym (is_kept k e)) m.can_go_on;
          },
      λ t. may.1 (record {
        holds = subst (λ (a : Account). 1 ≤ a.held) (sym account_is) t.holds;
        unsettled = either settled then_so t.unsettled;
        can_go_on = subst (λ (v : SearchState). CanGoOn v.end) (is_kept k e) t.can_go_on;
      }),
    )
      where
        either : (b : Bool) → (IsTrue b → IsSettled s x) → (IsSettled s x → ⊥) → b ≡ false
        either true then_so none = absurd (none (then_so refl))
        either false then_so none = refl

    -- it idles where the log has a model that it hasn't read, if it may
    pub idles : (k : Kept) (result : Bool) → k ≡ get_or ks place k → MayIdle k → (IsSettled s x → ⊥) → HasUnread result log (ask_of k.search).group k.read → IsTrue result ↔ Idles s x
    idles k true e may unsettled unread = (
      λ _. record {
        reads = subst (λ (v : SearchState). Reads v.search) (sym (is_kept k e)) may.reads;
        idle = subst (λ (v : SearchState). v.end ≡ ends.Idle) (sym (is_kept k e)) may.idle;
        allowed = subst (λ (v : SearchState). 1 ≤ v.allowed) (sym (is_kept k e)) may.allowed;
        unsettled = unsettled;
        number = unread.0;
        model = unread.1;
        rest = unread.2;
        unread = subst (λ (v : State). ModelsAbove recording.model_of v.log (ask_of x.search).group x.read ((unread.0, unread.1) ∷ unread.2)) is
            (subst (λ (v : SearchState). ModelsAbove recording.model_of log (ask_of v.search).group v.read ((unread.0, unread.1) ∷ unread.2)) (sym (is_kept k e)) unread.3);
      },
      λ _. refl,
    )
    idles k false e may unsettled unread = (
      λ t. absurd (cc t),
      λ i. (let some = subst (λ (v : SearchState). ModelsAbove recording.model_of log (ask_of v.search).group v.read ((i.number, i.model) ∷ i.rest)) (is_kept k e)
          (subst (λ (v : State). ModelsAbove recording.model_of v.log (ask_of x.search).group x.read ((i.number, i.model) ∷ i.rest)) (sym is) i.unread) in
          let none = one_list recording.model_of (ask_of k.search).group k.read 1 (facts_of log) [] ((i.number, i.model) ∷ i.rest) unread some in absurd (cc none)),
    )

    pub may_if_idles : (k : Kept) → k ≡ get_or ks place k → Idles s x → MayIdle k
    may_if_idles k e i = record {
      reads = subst (λ (v : SearchState). Reads v.search) (is_kept k e) i.reads;
      idle = subst (λ (v : SearchState). v.end ≡ ends.Idle) (is_kept k e) i.idle;
      allowed = subst (λ (v : SearchState). 1 ≤ v.allowed) (is_kept k e) i.allowed;
    }

    pub settled_at : (ledger' : LedgerState) (k : Kept) (end : End) → Step ledger (GiveBack place) ledger' → k ≡ get_or ks place k → (k.end ≡ ends.Found → end ≡ ends.Found) → ((k.end ≡ ends.Found → ⊥) → end ≡ ends.Stopped) →
        IsSettled s x → EndsSo s.log x.search x.number x.end →
        (y : SearchState) × IsSettledTo s x y × Replaces s place (s.purse + (x.account.held - y.account.held)) y (state_of ledger' (set ks place (record k { allowed = 0; end = end })) log)
    settled_at ledger' k end step e found stopped settled so =
        let new = step.1 in
        let y = ended end (give_back x) in
        let made : y ≡ seen x.number (record k { allowed = 0; end = end }) (given_back (account_at ledger place)) = ap (λ (v : SearchState). ended end (give_back v)) (is_kept k e) in
        let same_end : x.end ≡ k.end = ap (λ (v : SearchState). v.end) (is_kept k e) in
        let purse : s.purse + x.account.held ≡ s.purse + (x.account.held - 0) = omega arith in (
          y,
          elim (end_settled k.end end found stopped) [
            | inl h ↦ is_found settled (so.found.0 (same_end ∙ h.1)) (ap (λ n. ended n (give_back x)) h.0)
            | inr h ↦ is_stopped settled (λ keeper. h.1 (sym same_end ∙ so.found.1 keeper)) (ap (λ n. ended n (give_back x)) h.0)
          ],
          replaced ledger' (record k { allowed = 0; end = end }) (given_back (account_at ledger place)) y (s.purse + (x.account.held - 0)) (ap (λ (l : LedgerState). l.funded) new)
              (ap (λ (l : LedgerState). l.purse) new ∙ ap (λ (a : Account). ledger.purse + a.held) account_is ∙ ap (λ (v : State). v.purse + x.account.held) is ∙ purse) (ap (λ (l : LedgerState). l.cells) new) made,
        )

  pub added : (ledger' : LedgerState) (question : ℕ) (search : Search) (now : List Kept) → now ≡ ks ++ fresh question search ∷ [] → Step ledger AddCell ledger' →
      state_of ledger' now log ≡ with_new question search s
  added ledger' question search now now_is step =
      let kept = fresh question search in
      let same : 1 + length ks ≡ length s.searches + 1 = let c = count_is in omega arith in
      let made : seen (1 + length ks) kept no_units ≡ new_search question (length s.searches + 1) search 0 = ap (λ n. new_search question n search 0) same in
      ap (λ v. state_of ledger' v log) now_is ∙ ap (λ (l : LedgerState). state_of l (ks ++ kept ∷ []) log) step
      ∙ ap (λ xs. record { funded = ledger.funded; purse = ledger.purse; searches = xs; log = log }) (push_seen 1 ks ledger.cells kept no_units cells.each ∙ ap (λ v. all_seen 1 ks ledger.cells ++ v ∷ []) made)
      ∙ ap (λ (v : State). record v { searches = v.searches ++ new_search question (length s.searches + 1) search 0 ∷ [] }) is

  pub still_cells : (ledger' : LedgerState) (kept : Kept) (now : List Kept) → now ≡ ks ++ kept ∷ [] → Step ledger AddCell ledger' → length s.searches < 2 ^ 32 - 1 → HaveCells now ledger'.cells
  still_cells ledger' kept now now_is step few =
      let same = count_is in
      let each = cells.each in
      let cells_now : length ledger'.cells ≡ length ledger.cells + 1 = ap (λ (l : LedgerState). length l.cells) step ∙ length_push ledger.cells no_units in
      let now_long : length now ≡ length ks + 1 = ap length now_is ∙ length_push ks kept in record { each = omega arith; few = omega arith }
    where
      length_push : {X : Type 0} (xs : List X) (x : X) → length (xs ++ x ∷ []) ≡ length xs + 1
      length_push [] x = refl
      length_push (y ∷ xs) x = let rest = length_push xs x in omega arith
