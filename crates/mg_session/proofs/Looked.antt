-- What is looked up in a session.
use Rattle.std.proofs.Common.{◌≡◌, ℕ, zero, suc, ◌+◌, ◌<◌, ◌==◌, Bool, true, false, cond, List, [], ◌∷◌, length, drop, refl, ap, sym, ◌∙◌, subst, arith, add-one}
use Rattle.std.specs.Prelude.{Some, slice_get, slice_index_or}
use Rattle.std.proofs.lemmas.Option.{slice_get_within, slice_get-get_or}
use Rattle.std.proofs.lemmas.Bool.Decides.{nat_tests}
use Rattle.mg_ledger.specs.declared.ledger.Account.{Account}
use Rattle.mg_ledger.specs.Accounts.{no_units}
use Rattle.mg_core.specs.declared.entries.Entry.{Entry}
use Rattle.mg_core.specs.Log.{VerdictIn}
use Rattle.mg_present.specs.Ask.{Inquiry}
use Rattle.mg_certs.specs.Claim.{Verdict, Fact, settled}
use Rattle.mg_certs.specs.Validity.{key_of}
use Rattle.mg_search.specs.Search.{ask_of}
use Rattle.mg_session.specs.declared.state.Kept.{Kept}
use Rattle.mg_session.specs.Kept.{seen, all_seen, HaveCells}
use Rattle.mg_session.specs.State.{State, SearchState, asks}
use Rattle.mg_session.specs.StateOk.{AreNumbered}
use Rattle.mg_session.specs.Lookups.{ReadsAt}

-- a list from a place on
pub drop_at : {X : Type 0} (xs : List X) (i : ℕ) (x : X) → slice_get xs i ≡ Some x → drop i xs ≡ x ∷ drop (i + 1) xs
drop_at [] i x e = absurd (cc e)
drop_at (y ∷ ys) zero x e = let same : y ≡ x = cc e in ap (λ z. z ∷ ys) same
drop_at (y ∷ ys) (suc i) x e = rw add-one (drop_at ys i x e ∙ rw add-one refl)

seen_from : (n m : ℕ) (searches : List Kept) (cells : List Account) (i : ℕ) (kept : Kept) (account : Account) → m ≡ n + i → slice_get searches i ≡ Some kept → slice_get cells i ≡ Some account → slice_get (all_seen n searches cells) i ≡ Some (seen m kept account)
seen_from n m [] cells i kept account number h g = absurd (cc h)
seen_from n m (k ∷ searches) [] i kept account number h g = absurd (cc g)
seen_from n m (k ∷ searches) (a ∷ cells) zero kept account number h g =
    let search : k ≡ kept = cc h in
    let cell : a ≡ account = cc g in
    let first : n ≡ m = omega arith in (λ j. Some (seen (first j) (search j) (cell j)))
seen_from n m (k ∷ searches) (a ∷ cells) (suc i) kept account number h g = seen_from (n + 1) m searches cells i kept account (omega arith) h g

pub seen_at : (searches : List Kept) (cells : List Account) (i : ℕ) (kept : Kept) → HaveCells searches cells → slice_get searches i ≡ Some kept → slice_get (all_seen 1 searches cells) i ≡ Some (seen (1 + i) kept (slice_index_or cells i no_units))
seen_at searches cells i kept have h =
    let within = slice_get_within searches i kept h in
    let each = have.each in seen_from 1 (1 + i) searches cells i kept (slice_index_or cells i no_units) refl h (slice_get-get_or cells i no_units (omega arith))

seen_length : (n : ℕ) (searches : List Kept) (cells : List Account) → length searches ≡ length cells → length (all_seen n searches cells) ≡ length searches
seen_length n [] cells e = refl
seen_length n (k ∷ searches) [] e = absurd (omega arith)
seen_length n (k ∷ searches) (a ∷ cells) e = ap suc (seen_length (n + 1) searches cells (omega arith))

pub seen_count : (searches : List Kept) (cells : List Account) → HaveCells searches cells → length (all_seen 1 searches cells) ≡ length searches
seen_count searches cells have = seen_length 1 searches cells have.each

-- the fact of a verdict settles the Ask itself
pub verdict_seen : (log : List (Entry Fact)) (ask asked : Inquiry) (n : ℕ) (fact : Fact) (verdict : Verdict) → VerdictIn key_of log ask n fact → settled asked verdict ≡ fact → VerdictIn key_of log ask n (settled ask verdict)
verdict_seen log ask asked n fact verdict v e =
    let here : VerdictIn key_of log ask n (settled asked verdict) = subst (VerdictIn key_of log ask n) (sym e) v in
    let keys : Some asked ≡ Some ask = here.verdict in
    let same : asked ≡ ask = cc keys in subst (λ (a : Inquiry). VerdictIn key_of log ask n (settled a verdict)) same here

-- the search of an entry, where the numbers count on from this one
pub record IsSearchOf (n : ℕ) (xs : List SearchState) (entry : Entry Fact) (ask : Inquiry) : Type 0 where
  pub place : ℕ
  pub number : entry.search ≡ n + place
  pub search : SearchState
  pub there : slice_get xs place ≡ Some search
  pub ask_is : ask ≡ ask_of search.search

search_first : (b : Bool) (n : ℕ) (x : SearchState) (xs : List SearchState) (entry : Entry Fact) (ask : Inquiry) → (x.number == entry.search) ≡ b → x.number ≡ n → cond b (Some (ask_of x.search)) (asks xs entry) ≡ Some ask → (asks xs entry ≡ Some ask → IsSearchOf (n + 1) xs entry ask) → IsSearchOf n (x ∷ xs) entry ask
search_first true n x xs entry ask is first asked later =
    let own : x.number ≡ entry.search = grind (arith, nat_tests, is) in
    record { place = 0; number = omega arith; search = x; there = refl; ask_is = (cc asked) }
search_first false n x xs entry ask is first asked later =
    let h = later asked in
    let number = h.number in
    record { place = suc h.place; number = omega arith; search = h.search; there = h.there; ask_is = h.ask_is }

pub search_of_entry : (n : ℕ) (xs : List SearchState) (entry : Entry Fact) (ask : Inquiry) → AreNumbered n xs → asks xs entry ≡ Some ask → IsSearchOf n xs entry ask
search_of_entry n [] entry ask h asked = absurd (cc asked)
search_of_entry n (x ∷ xs) entry ask h asked = search_first (x.number == entry.search) n x xs entry ask refl h.0 asked (search_of_entry (n + 1) xs entry ask h.1)

-- what is read of a search that is kept at a place is read of the state
pub kept_at : {X : Type 0} (read : SearchState → X) (searches : List Kept) (cells : List Account) (i : ℕ) (kept : Kept) (state : State) (value : X) → HaveCells searches cells → all_seen 1 searches cells ≡ state.searches → slice_get searches i ≡ Some kept →
    value ≡ read (seen (1 + i) kept (slice_index_or cells i no_units)) → ReadsAt read state i value
kept_at read searches cells i kept state value have is there value_is = record {
  search = seen (1 + i) kept (slice_index_or cells i no_units);
  there = subst (λ (xs : List SearchState). slice_get xs i ≡ Some (seen (1 + i) kept (slice_index_or cells i no_units))) is (seen_at searches cells i kept have there);
  value_is = value_is;
}

member_at : {X : Type 0} (xs : List X) (i : ℕ) → i < length xs → (x : X) × (slice_get xs i ≡ Some x)
member_at [] i h = absurd (omega arith)
member_at (x ∷ xs) zero h = (x, refl)
member_at (x ∷ xs) (suc i) h = member_at xs i (omega arith)

-- the number of the search at a place is the one above the place
pub number_at : (searches : List Kept) (cells : List Account) (i : ℕ) (state : State) → HaveCells searches cells → all_seen 1 searches cells ≡ state.searches → i < length state.searches → ReadsAt (λ search. search.number) state i (i + 1)
number_at searches cells i state have is within =
    let all = seen_count searches cells have in
    let same = ap length is in
    let kept = member_at searches i (omega arith) in
    let number : i + 1 ≡ 1 + i = omega arith in kept_at (λ search. search.number) searches cells i kept.0 state (i + 1) have is kept.1 number
