-- What the entries of a log ask, by the numbers of their searches.
use Rattle.std.proofs.Common.{◌≡◌, ◌≢◌, ℕ, suc, ◌+◌, ◌<◌, ◌≤◌, ◌==◌, Bool, true, false, cond, List, [], ◌∷◌, ◌++◌, length, refl, ap, sym, ◌∙◌, subst, arith}
use Rattle.std.specs.Prelude.{Option, Some}
use Rattle.std.specs.List.{AllByRecursion}
use Rattle.std.proofs.lemmas.Bool.Decides.{nat_tests}
use Rattle.mg_core.specs.declared.entries.Entry.{Entry}
use Rattle.mg_core.specs.Log.{LegalFrom, KeeperOf}
use Rattle.mg_workers.specs.Run.{Row}
use Rattle.mg_workers.specs.Rows.{EachPair, AreApart, AreAsked, units_of}
use Rattle.mg_workers.proofs.Pairs.{all_along, all_imply}
use Rattle.mg_present.specs.Ask.{Inquiry}
use Rattle.mg_certs.specs.Claim.{Fact}
use Rattle.mg_certs.specs.Validity.{IsValid, key_of}
use Rattle.mg_search.specs.Search.{Search, ask_of, searching}
use Rattle.mg_session.specs.Run.{IsRow}
use Rattle.mg_session.specs.State.{SearchState, asks}
use Rattle.mg_session.specs.StateOk.{AreNumbered}
use Rattle.mg_session.proofs.Lists.{all-back, all-both}

-- a log stays legal where what was asked stays so
pub legal_more : (one two : Entry Fact → Option Inquiry) → ((entry : Entry Fact) (ask : Inquiry) → one entry ≡ Some ask → two entry ≡ Some ask) → (before log : List (Entry Fact)) → LegalFrom IsValid key_of one before log → LegalFrom IsValid key_of two before log
legal_more one two more before [] h = tt
legal_more one two more before (entry ∷ log) h = (
  record {
    key = h.0.key;
    of_search = more entry h.0.key h.0.of_search;
    dropped = h.0.dropped;
    bare = h.0.bare;
    each_valid = h.0.each_valid;
    each_settles = h.0.each_settles;
  },
  legal_more one two more (before ++ entry ∷ []) log h.1,
)

-- a search with the same number that asks the same
pub record AsksSame (one other : SearchState) : Type 0 where
  pub number : other.number ≡ one.number
  pub ask : ask_of other.search ≡ ask_of one.search

pub asks_same : (xs ys : List SearchState) (entry : Entry Fact) → EachPair AsksSame xs ys → asks ys entry ≡ asks xs entry
asks_same [] [] entry h = refl
asks_same [] (y ∷ ys) entry h = absurd h
asks_same (x ∷ xs) [] entry h = absurd h
asks_same (x ∷ xs) (y ∷ ys) entry h =
    let number = h.0.number in
    let ask = h.0.ask in
    let rest = asks_same xs ys entry h.1 in
    (λ i. cond (number i == entry.search) (Some (ask i)) (rest i))

pub legal_same : (xs ys : List SearchState) (log : List (Entry Fact)) → EachPair AsksSame xs ys → LegalFrom IsValid key_of (asks xs) [] log → LegalFrom IsValid key_of (asks ys) [] log
legal_same xs ys log h legal = legal_more (asks xs) (asks ys) (λ entry ask asked. asks_same xs ys entry h ∙ asked) [] log legal

first_asks : (b : Bool) (ask key : Inquiry) (one two : Option Inquiry) → (one ≡ Some key → two ≡ Some key) → cond b (Some ask) one ≡ Some key → cond b (Some ask) two ≡ Some key
first_asks true ask key one two more h = h
first_asks false ask key one two more h = more h

pub asks_front : (xs ys : List SearchState) (entry : Entry Fact) (key : Inquiry) → asks xs entry ≡ Some key → asks (xs ++ ys) entry ≡ Some key
asks_front [] ys entry key h = absurd (cc h)
asks_front (x ∷ xs) ys entry key h = first_asks (x.number == entry.search) (ask_of x.search) key (asks xs entry) (asks (xs ++ ys) entry) (asks_front xs ys entry key) h

-- the numbers go up from the first
pub numbered_above : (n : ℕ) (xs : List SearchState) → AreNumbered n xs → AllByRecursion (λ x. n ≤ x.number) xs
numbered_above n [] h = tt
numbered_above n (x ∷ xs) h =
    let first = h.0 in
    (omega arith, all_imply (λ (y : SearchState). n + 1 ≤ y.number) (λ (y : SearchState). n ≤ y.number) (λ y low. omega arith) xs (numbered_above (n + 1) xs h.1))

-- an entry with the number of a search asks what that search does
pub asks_each : (n : ℕ) (xs : List SearchState) → AreNumbered n xs → AllByRecursion (λ x. (entry : Entry Fact) → entry.search ≡ x.number → asks xs entry ≡ Some (ask_of x.search)) xs
asks_each n [] h = tt
asks_each n (x ∷ xs) h =
    let first = h.0 in (
      λ entry same.
          let own : (x.number == entry.search) ≡ true = grind (arith, nat_tests, same) in
          ap (λ b. cond b (Some (ask_of x.search)) (asks xs entry)) own,
      all-both (λ (y : SearchState). n + 1 ≤ y.number) (λ (y : SearchState). (entry : Entry Fact) → entry.search ≡ y.number → asks xs entry ≡ Some (ask_of y.search))
          (λ (y : SearchState). (entry : Entry Fact) → entry.search ≡ y.number → asks (x ∷ xs) entry ≡ Some (ask_of y.search))
          (λ y low asked entry same.
          let other : x.number ≢ entry.search = (λ e. absurd (omega arith)) in
          let foreign : (x.number == entry.search) ≡ false = grind (arith, nat_tests, other) in
          ap (λ b. cond b (Some (ask_of x.search)) (asks xs entry)) foreign ∙ asked entry same)
          xs (numbered_above (n + 1) xs h.1) (asks_each (n + 1) xs h.1),
    )

first_within : (b : Bool) (n m number : ℕ) (x : SearchState) (rest : Option Inquiry) (entry : Entry Fact) (key : Inquiry) → (x.number == entry.search) ≡ b → x.number ≡ n → n < m → (rest ≡ Some key → entry.search < m) → cond b (Some (ask_of x.search)) rest ≡ Some key → entry.search < m
first_within true n m number x rest entry key is first low more h =
    let same : x.number ≡ entry.search = grind (arith, nat_tests, is) in omega arith
first_within false n m number x rest entry key is first low more h = more h

-- an entry that asks something is of one of the searches
pub asks_within : (n : ℕ) (xs : List SearchState) (entry : Entry Fact) (key : Inquiry) → AreNumbered n xs → asks xs entry ≡ Some key → entry.search < n + length xs
asks_within n [] entry key h asked = absurd (cc asked)
asks_within n (x ∷ xs) entry key h asked =
    first_within (x.number == entry.search) n (n + suc (length xs)) x.number x (asks xs entry) entry key refl h.0 (omega arith)
    (λ rest. let low = asks_within (n + 1) xs entry key h.1 rest in omega arith) asked

pub legal_within : (xs : List SearchState) (before log : List (Entry Fact)) → AreNumbered 1 xs → LegalFrom IsValid key_of (asks xs) before log → AllByRecursion (λ (entry : Entry Fact). entry.search < 1 + length xs) log
legal_within xs before [] h legal = tt
legal_within xs before (entry ∷ log) h legal = (asks_within 1 xs entry legal.0.key h legal.0.of_search, legal_within xs (before ++ entry ∷ []) log h legal.1)

-- a number that no entry has
pub no_units_above : (n : ℕ) (log : List (Entry Fact)) → AllByRecursion (λ (entry : Entry Fact). entry.search < n) log → units_of n log ≡ 0
no_units_above n [] h = refl
no_units_above n (entry ∷ log) h =
    let low = h.0 in
    let other : entry.search ≢ n = (λ e. absurd (omega arith)) in
    let foreign : (entry.search == n) ≡ false = grind (arith, nat_tests, other) in
    omega (arith, ap (λ b. cond b entry.units 0 + units_of n log) foreign, no_units_above n log h.1)

pub no_keeper_above : (n : ℕ) (log : List (Entry Fact)) (ask : Inquiry) (entry : Entry Fact) → AllByRecursion (λ (e : Entry Fact). e.search < n) log → KeeperOf key_of log ask entry → entry.search ≡ n → ⊥
no_keeper_above n log ask entry h k same =
    let there = subst (AllByRecursion (λ (e : Entry Fact). e.search < n)) k.place h in
    let low = (all-back (λ (e : Entry Fact). e.search < n) k.before (entry ∷ k.after) there).0 in absurd (omega arith)

-- the rows of searches are apart, and are asked for what the searches ask
rows_above : (Takes : SearchState → Type 0) (m : ℕ) (xs : List SearchState) (rows : List (Row Search)) → AllByRecursion (λ (x : SearchState). m ≤ x.number) xs → EachPair (IsRow Takes) xs rows → AllByRecursion (λ (r : Row Search). m ≤ r.number) rows
rows_above Takes m xs rows h is_rows =
    all_along (IsRow Takes) (λ (x : SearchState). m ≤ x.number) (λ (r : Row Search). m ≤ r.number)
    (λ x row is low. subst (λ (r : Row Search). m ≤ r.number) (sym is.row_is) low) xs rows is_rows h

pub rows_apart : (Takes : SearchState → Type 0) (n : ℕ) (xs : List SearchState) (rows : List (Row Search)) → AreNumbered n xs → EachPair (IsRow Takes) xs rows → AreApart rows
rows_apart Takes n [] [] h is_rows = tt
rows_apart Takes n [] (row ∷ rows) h is_rows = absurd is_rows
rows_apart Takes n (x ∷ xs) [] h is_rows = absurd is_rows
rows_apart Takes n (x ∷ xs) (row ∷ rows) h is_rows =
    let first = h.0 in
    let number : row.number ≡ x.number = ap (λ (r : Row Search). r.number) is_rows.0.row_is in (
      all_imply (λ (r : Row Search). n + 1 ≤ r.number) (λ (r : Row Search). row.number ≢ r.number) (λ r low e. absurd (omega arith)) rows
          (rows_above Takes (n + 1) xs rows (numbered_above (n + 1) xs h.1) is_rows.1),
      rows_apart Takes (n + 1) xs rows h.1 is_rows.1,
    )

pub rows_asked : (Takes : SearchState → Type 0) (xs : List SearchState) (rows : List (Row Search)) → AreNumbered 1 xs → EachPair (IsRow Takes) xs rows → AreAsked searching (asks xs) rows
rows_asked Takes xs rows h is_rows =
    all_along (IsRow Takes) (λ (x : SearchState). (entry : Entry Fact) → entry.search ≡ x.number → asks xs entry ≡ Some (ask_of x.search))
    (λ (r : Row Search). (entry : Entry Fact) → entry.search ≡ r.number → asks xs entry ≡ Some (ask_of r.search))
    (λ x row is asked. subst (λ (r : Row Search). (entry : Entry Fact) → entry.search ≡ r.number → asks xs entry ≡ Some (ask_of r.search)) (sym is.row_is) asked) xs rows is_rows (asks_each 1 xs h)
