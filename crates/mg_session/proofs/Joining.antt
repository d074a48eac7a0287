-- Searches are parted for a run, and joined again.
use Rattle.std.proofs.Common.{◌≡◌, ℕ, zero, suc, ◌+◌, ◌-◌, ◌<◌, ◌≤◌, Bool, true, false, List, [], ◌∷◌, ◌++◌, length, take, drop, set, get_or, reverse, refl, ap, sym, ◌∙◌, subst, arith, append-nil, append_assoc}
use Rattle.std.proofs.lemmas.List.{reverse-append, reverse-reverse, length-reverse, length-append}
use Rattle.mg_ledger.specs.declared.ledger.Account.{Account}
use Rattle.mg_ledger.specs.Accounts.{no_units}
use Rattle.mg_ledger.specs.Ledgers.{LedgerState, account_at}
use Rattle.mg_workers.specs.declared.held.Held.{Held}
use Rattle.mg_search.specs.Search.{Search}
use Rattle.mg_session.specs.Parting.{held_of, running, places_of, kept_of, joined, account_after, cells_after, HasSpent, HaveSpent, IsPutBack}
use Rattle.mg_session.specs.declared.state.Kept.{Kept}
use Rattle.mg_session.specs.declared.parts.Place.{Place}
use Rattle.mg_session.specs.declared.parts.Place.TheVariants.{Runs, Rests}
use Rattle.mg_session.proofs.Firsts.{drop_at, goes_on}

-- the last of a list is the first of it turned round
pub turned : {X : Type 0} (xs ys : List X) (x : X) → xs ≡ ys ++ x ∷ [] → reverse xs ≡ x ∷ reverse ys
turned xs ys x e = ap reverse e ∙ reverse-append ys (x ∷ [])

pub longer : {X : Type 0} (xs ys : List X) (x : X) → xs ≡ ys ++ x ∷ [] → length xs ≡ length ys + 1
longer xs ys x e = ap length e ∙ length-append ys (x ∷ [])

places_none : (runs : List Bool) → places_of runs [] ≡ []
places_none [] = refl
places_none (true ∷ runs) = refl
places_none (false ∷ runs) = refl

running_none : (cell : ℕ) (runs : List Bool) (cells : List Account) → running cell runs [] cells ≡ []
running_none cell [] cells = refl
running_none cell (true ∷ runs) cells = refl
running_none cell (false ∷ runs) cells = refl

-- of searches that are to be parted, some first ones are
pub record Parting (n : ℕ) (runs : List Bool) (searches : List Kept) (cells : List Account) (places : List Place) (held : List (Held Search)) (left : List Kept) : Type 0 where
  pub count : n + length left ≡ length searches
  pub places_are : places ++ places_of (drop n runs) (reverse left) ≡ places_of runs searches
  pub running_are : held ++ running n (drop n runs) (reverse left) (drop n cells) ≡ running 0 runs searches cells

pub part_begins : (runs : List Bool) (searches : List Kept) (cells : List Account) (left : List Kept) → left ≡ reverse searches → Parting 0 runs searches cells [] [] left
part_begins runs searches cells left e =
    let back : reverse left ≡ searches = ap reverse e ∙ reverse-reverse searches in
    record {
      count = let same = ap length e ∙ length-reverse searches in omega arith;
      places_are = ap (places_of runs) back;
      running_are = ap (λ ks. running 0 runs ks cells) back;
    }

pub part_starts : (runs : List Bool) (searches : List Kept) (cells : List Account) (places : List Place) (held : List (Held Search)) (left : List Kept) → places ≡ [] → held ≡ [] → left ≡ reverse searches → Parting (length places) runs searches cells places held left
part_starts runs searches cells places held left p q e =
    subst (λ (ps : List Place). Parting (length ps) runs searches cells ps held left) (sym p) (subst (λ hs. Parting 0 runs searches cells [] hs left) (sym q) (part_begins runs searches cells left e))

module _ (n next : ℕ) (runs : List Bool) (searches : List Kept) (cells : List Account) (places : List Place) (held : List (Held Search)) (left : List Kept) (h : Parting n runs searches cells places held left) where
  pub part_within : (left' : List Kept) (kept : Kept) → left ≡ left' ++ kept ∷ [] → n < length searches
  part_within left' kept e = let count = h.count in let more = longer left left' kept e in omega arith

  -- the next one runs
  pub part_runs : (places' : List Place) (held' : List (Held Search)) (left' : List Kept) (kept : Kept) (account : Account) → next ≡ n + 1 → left ≡ left' ++ kept ∷ [] → n < length runs → n < length cells → get_or runs n false ≡ true → account ≡ get_or cells n no_units →
      places' ≡ places ++ Runs kept.question ∷ [] → held' ≡ held ++ held_of n kept account ∷ [] → Parting next runs searches cells places' held' left'
  part_runs places' held' left' kept account next_is e runs_within cells_within is_true account_is new_places new_held =
      let turn : drop n runs ≡ true ∷ drop (n + 1) runs = drop_at runs n false runs_within ∙ ap (λ b. b ∷ drop (n + 1) runs) is_true in
      let cell : drop n cells ≡ account ∷ drop (n + 1) cells = drop_at cells n no_units cells_within ∙ ap (λ a. a ∷ drop (n + 1) cells) (sym account_is) in
      let back = turned left left' kept e in
      subst (λ m. Parting m runs searches cells places' held' left') (sym next_is) (record {
        count = let count = h.count in let more = longer left left' kept e in omega arith;
        places_are = ap (λ ps. ps ++ places_of (drop (n + 1) runs) (reverse left')) new_places ∙ append_assoc places (Runs kept.question ∷ []) (places_of (drop (n + 1) runs) (reverse left'))
            ∙ sym (ap (λ bs. places ++ places_of bs (reverse left)) turn ∙ ap (λ ks. places ++ places_of (true ∷ drop (n + 1) runs) ks) back) ∙ h.places_are;
        running_are = ap (λ hs. hs ++ running (n + 1) (drop (n + 1) runs) (reverse left') (drop (n + 1) cells)) new_held ∙ append_assoc held (held_of n kept account ∷ []) (running (n + 1) (drop (n + 1) runs) (reverse left') (drop (n + 1) cells))
            ∙ sym (ap (λ bs. held ++ running n bs (reverse left) (drop n cells)) turn ∙ ap (λ ks. held ++ running n (true ∷ drop (n + 1) runs) ks (drop n cells)) back ∙ ap (λ cs. held ++ running n (true ∷ drop (n + 1) runs) (kept ∷ reverse left') cs) cell) ∙ h.running_are;
      })

  -- the next one rests
  pub part_rests : (places' : List Place) (left' : List Kept) (kept : Kept) → next ≡ n + 1 → left ≡ left' ++ kept ∷ [] → n < length runs → n < length cells → get_or runs n false ≡ false →
      places' ≡ places ++ Rests kept ∷ [] → Parting next runs searches cells places' held left'
  part_rests places' left' kept next_is e runs_within cells_within is_false new_places =
      let account = get_or cells n no_units in
      let turn : drop n runs ≡ false ∷ drop (n + 1) runs = drop_at runs n false runs_within ∙ ap (λ b. b ∷ drop (n + 1) runs) is_false in
      let cell : drop n cells ≡ account ∷ drop (n + 1) cells = drop_at cells n no_units cells_within in
      let back = turned left left' kept e in
      subst (λ m. Parting m runs searches cells places' held left') (sym next_is) (record {
        count = let count = h.count in let more = longer left left' kept e in omega arith;
        places_are = ap (λ ps. ps ++ places_of (drop (n + 1) runs) (reverse left')) new_places ∙ append_assoc places (Rests kept ∷ []) (places_of (drop (n + 1) runs) (reverse left'))
            ∙ sym (ap (λ bs. places ++ places_of bs (reverse left)) turn ∙ ap (λ ks. places ++ places_of (false ∷ drop (n + 1) runs) ks) back) ∙ h.places_are;
        running_are = sym (ap (λ bs. held ++ running n bs (reverse left) (drop n cells)) turn ∙ ap (λ ks. held ++ running n (false ∷ drop (n + 1) runs) ks (drop n cells)) back ∙ ap (λ cs. held ++ running n (false ∷ drop (n + 1) runs) (kept ∷ reverse left') cs) cell) ∙ h.running_are;
      })

  pub parted_places : left ≡ [] → places ≡ places_of runs searches
  parted_places e = sym (append-nil places) ∙ ap (λ ps. places ++ ps) (sym (ap (λ ks. places_of (drop n runs) (reverse ks)) e ∙ places_none (drop n runs))) ∙ h.places_are

  pub parted_running : left ≡ [] → held ≡ running 0 runs searches cells
  parted_running e = sym (append-nil held) ∙ ap (λ hs. held ++ hs) (sym (ap (λ ks. running n (drop n runs) (reverse ks) (drop n cells)) e ∙ running_none n (drop n runs) (drop n cells))) ∙ h.running_are

-- the cells of places behind a search that rests
rest_cells : (kept : Kept) (places : List Place) (ran : List (Held Search)) (cells : List Account) → HaveSpent (Rests kept ∷ places) ran cells → (account : Account) × (rest : List Account) × (cells ≡ account ∷ rest) × HaveSpent places ran rest
rest_cells kept places ran [] h = absurd h
rest_cells kept places ran (account ∷ cells) h = (account, cells, refl, h)

run_cells : (question : ℕ) (places : List Place) (ran : List (Held Search)) (cells : List Account) → HaveSpent (Runs question ∷ places) ran cells →
    (held : Held Search) × (left : List (Held Search)) × (account : Account) × (rest : List Account) × (ran ≡ held ∷ left) × (cells ≡ account ∷ rest) × HasSpent account held × HaveSpent places left rest
run_cells question places [] cells h = absurd h
run_cells question places (held ∷ ran) [] h = absurd h
run_cells question places (held ∷ ran) (account ∷ cells) h = (held, ran, account, cells, refl, refl, h.0, h.1)

module _ (cell : ℕ) (ran : List (Held Search)) (old : LedgerState) where
  pub rests_back : (kept : Kept) (places : List Place) → HaveSpent (Rests kept ∷ places) (reverse ran) (drop cell old.cells) → IsPutBack cell (Rests kept) places ran old kept ran old
  rests_back kept places h =
      let there = rest_cells kept places (reverse ran) (drop cell old.cells) h in
      let on = goes_on old.cells cell there.0 there.1 there.2 in
      record {
        account = there.0;
        search = refl;
        cells = ap (λ cs. cells_after (Rests kept ∷ places) (reverse ran) cs) there.2 ∙ ap (λ cs. there.0 ∷ cells_after places (reverse ran) cs) (sym on.dropped);
        before = on.taken;
        others = subst (HaveSpent places (reverse ran)) (sym on.dropped) there.3;
        ledger = refl;
      }

  pub put_at : (p q : Place) (kept : Kept) (left : List (Held Search)) (new : LedgerState) → p ≡ q → ((rest : List Place) → HaveSpent (q ∷ rest) (reverse ran) (drop cell old.cells) → IsPutBack cell q rest ran old kept left new) →
      (rest : List Place) → HaveSpent (p ∷ rest) (reverse ran) (drop cell old.cells) → IsPutBack cell p rest ran old kept left new
  put_at p q kept left new e put = subst (λ (v : Place). (rest : List Place) → HaveSpent (v ∷ rest) (reverse ran) (drop cell old.cells) → IsPutBack cell v rest ran old kept left new) (sym e) put

  -- no search is left of those that ran, or one whose account can give what it spent
  pub none_ran : (question : ℕ) (places : List Place) → ran ≡ [] → HaveSpent (Runs question ∷ places) (reverse ran) (drop cell old.cells) → ⊥
  none_ran question places e h =
      let there = run_cells question places (reverse ran) (drop cell old.cells) h in absurd (cc (sym there.4 ∙ ap reverse e))

  pub record CanSpend (held : Held Search) : Type 0 where
    pub within : cell < length old.cells
    pub rises : (account_at old cell).spent ≤ held.spent
    pub balance : held.held + held.spent ≡ (account_at old cell).held + (account_at old cell).spent

  pub can_spend : (question : ℕ) (places : List Place) (left : List (Held Search)) (held : Held Search) → ran ≡ left ++ held ∷ [] → HaveSpent (Runs question ∷ places) (reverse ran) (drop cell old.cells) → CanSpend held
  can_spend question places left held e h =
      let there = run_cells question places (reverse ran) (drop cell old.cells) h in
      let on = goes_on old.cells cell there.2 there.3 there.5 in
      let same : there.0 ≡ held = cc (sym there.4 ∙ turned ran left held e) in
      let account : account_at old cell ≡ there.2 = on.here no_units in
      let spent : HasSpent (account_at old cell) held = subst (λ a. HasSpent a held) (sym account) (subst (HasSpent there.2) same there.6) in
      record { within = on.within; rises = spent.rises; balance = spent.balance }

  pub runs_back : (question : ℕ) (left : List (Held Search)) (held : Held Search) (kept : Kept) (new : LedgerState) → ran ≡ left ++ held ∷ [] → kept ≡ kept_of question held →
      new ≡ record old { cells = set old.cells cell (record (account_at old cell) { spent = held.spent; held = (account_at old cell).held + (account_at old cell).spent - held.spent }) } →
      (places : List Place) → HaveSpent (Runs question ∷ places) (reverse ran) (drop cell old.cells) → IsPutBack cell (Runs question) places ran old kept left new
  runs_back question left held kept new e kept_is new_is places h =
      let there = run_cells question places (reverse ran) (drop cell old.cells) h in
      let on = goes_on old.cells cell there.2 there.3 there.5 in
      let back : reverse ran ≡ held ∷ reverse left = turned ran left held e in
      let same : there.0 ≡ held = cc (sym there.4 ∙ back) in
      let same_left : there.1 ≡ reverse left = cc (sym there.4 ∙ back) in
      let account : account_at old cell ≡ there.2 = on.here no_units in
      let spent : HasSpent there.2 held = subst (HasSpent there.2) same there.6 in
      let balance = spent.balance in
      let held_now : there.2.held + there.2.spent - held.spent ≡ held.held = omega arith in
      let after : Account = account_after held there.2 in
      let made : record (account_at old cell) { spent = held.spent; held = (account_at old cell).held + (account_at old cell).spent - held.spent } ≡ after =
      ap (λ (a : Account). account_with a held.spent (a.held + a.spent - held.spent)) account ∙ ap (λ n. account_with there.2 held.spent n) held_now in
      let cells : new.cells ≡ set old.cells cell after = ap (λ (l : LedgerState). l.cells) new_is ∙ ap (set old.cells cell) made in
      let dropped : drop (cell + 1) new.cells ≡ there.3 = ap (drop (cell + 1)) cells ∙ on.set_dropped after in
      record {
        account = after;
        search = ap (joined (Runs question ∷ places)) back ∙ ap (λ k. k ∷ joined places (reverse left)) (sym kept_is);
        cells = ap (λ cs. cells_after (Runs question ∷ places) (reverse ran) cs) there.5 ∙ ap (λ hs. cells_after (Runs question ∷ places) hs (there.2 ∷ there.3)) back ∙ ap (λ cs. after ∷ cells_after places (reverse left) cs) (sym dropped);
        before = ap (take (cell + 1)) cells ∙ on.set_taken after;
        others = subst (HaveSpent places (reverse left)) (sym dropped) (subst (λ hs. HaveSpent places hs there.3) same_left there.7);
        ledger = new_is ∙ ap (λ cs. record old { cells = cs }) (sym (ap (λ (l : LedgerState). l.cells) new_is));
      }
    where
      account_with : Account → ℕ → ℕ → Account
      account_with a spent held = record a { spent = spent; held = held }

-- of searches that are to be joined, some first ones are
pub record Joining (n : ℕ) (places : List Place) (ran : List (Held Search)) (first : LedgerState) (searches : List Kept) (left : List Place) (ran_left : List (Held Search)) (now : LedgerState) : Type 0 where
  pub count : n + length left ≡ length places
  pub searches_are : searches ++ joined (reverse left) (reverse ran_left) ≡ joined places ran
  pub cells_are : take n now.cells ++ cells_after (reverse left) (reverse ran_left) (drop n now.cells) ≡ cells_after places ran first.cells
  pub spent : HaveSpent (reverse left) (reverse ran_left) (drop n now.cells)
  pub ledger : now ≡ record first { cells = now.cells }

pub join_begins : (places : List Place) (ran : List (Held Search)) (first : LedgerState) (left : List Place) (ran_left : List (Held Search)) → left ≡ reverse places → ran_left ≡ reverse ran → HaveSpent places ran first.cells →
    Joining 0 places ran first [] left ran_left first
join_begins places ran first left ran_left e f h =
    let back : reverse left ≡ places = ap reverse e ∙ reverse-reverse places in
    let ran_back : reverse ran_left ≡ ran = ap reverse f ∙ reverse-reverse ran in
    record {
      count = let same = ap length e ∙ length-reverse places in omega arith;
      searches_are = ap (λ ps. joined ps (reverse ran_left)) back ∙ ap (joined places) ran_back;
      cells_are = ap (λ ps. cells_after ps (reverse ran_left) first.cells) back ∙ ap (λ hs. cells_after places hs first.cells) ran_back;
      spent = subst (λ ps. HaveSpent ps (reverse ran_left) first.cells) (sym back) (subst (λ hs. HaveSpent places hs first.cells) (sym ran_back) h);
      ledger = refl;
    }

module _ (n next : ℕ) (places : List Place) (ran : List (Held Search)) (first : LedgerState) (searches : List Kept) (left : List Place) (ran_left : List (Held Search)) (now : LedgerState) (h : Joining n places ran first searches left ran_left now) where
  abbrev pub join_can : (cell : ℕ) (left' : List Place) (place : Place) → cell ≡ n → left ≡ left' ++ place ∷ [] → (rest : List Place) × HaveSpent (place ∷ rest) (reverse ran_left) (drop cell now.cells)
  join_can cell left' place same e = (reverse left', subst (λ m. HaveSpent (place ∷ reverse left') (reverse ran_left) (drop m now.cells)) (sym same) (subst (λ ps. HaveSpent ps (reverse ran_left) (drop n now.cells)) (turned left left' place e) h.spent))

  pub join_within : (left' : List Place) (place : Place) → left ≡ left' ++ place ∷ [] → n < length places
  join_within left' place e = let count = h.count in let more = longer left left' place e in omega arith

  pub join_next : (cell : ℕ) (left' : List Place) (place : Place) (kept : Kept) (ran_left' : List (Held Search)) (new : LedgerState) (searches' : List Kept) → cell ≡ n → next ≡ n + 1 → left ≡ left' ++ place ∷ [] →
      ((rest : List Place) → HaveSpent (place ∷ rest) (reverse ran_left) (drop cell now.cells) → IsPutBack cell place rest ran_left now kept ran_left' new) → searches' ≡ searches ++ kept ∷ [] →
      Joining next places ran first searches' left' ran_left' new
  join_next cell left' place kept ran_left' new searches' same next_is e put new_searches =
      let back = turned left left' place e in
      let can : HaveSpent (place ∷ reverse left') (reverse ran_left) (drop n now.cells) = subst (λ ps. HaveSpent ps (reverse ran_left) (drop n now.cells)) back h.spent in
      let put_here = subst (λ m. (rest : List Place) → HaveSpent (place ∷ rest) (reverse ran_left) (drop m now.cells) → IsPutBack m place rest ran_left now kept ran_left' new) same put in
      let is = put_here (reverse left') can in
      subst (λ m. Joining m places ran first searches' left' ran_left' new) (sym next_is) (record {
        count = let count = h.count in let more = longer left left' place e in omega arith;
        searches_are = ap (λ ks. ks ++ joined (reverse left') (reverse ran_left')) new_searches ∙ append_assoc searches (kept ∷ []) (joined (reverse left') (reverse ran_left'))
            ∙ ap (λ ks. searches ++ ks) (sym is.search) ∙ ap (λ ps. searches ++ joined ps (reverse ran_left)) (sym back) ∙ h.searches_are;
        cells_are = ap (λ cs. cs ++ cells_after (reverse left') (reverse ran_left') (drop (n + 1) new.cells)) is.before ∙ append_assoc (take n now.cells) (is.account ∷ []) (cells_after (reverse left') (reverse ran_left') (drop (n + 1) new.cells))
            ∙ ap (λ cs. take n now.cells ++ cs) (sym is.cells) ∙ ap (λ ps. take n now.cells ++ cells_after ps (reverse ran_left) (drop n now.cells)) (sym back) ∙ h.cells_are;
        spent = is.others;
        ledger = is.ledger ∙ ap (λ (l : LedgerState). record l { cells = new.cells }) h.ledger;
      })

  pub joined_searches : left ≡ [] → searches ≡ joined places ran
  joined_searches e = sym (append-nil searches) ∙ ap (λ ps. searches ++ joined (reverse ps) (reverse ran_left)) (sym e) ∙ h.searches_are

  none_behind : (hs : List (Held Search)) (cs : List Account) → HaveSpent [] hs cs → cs ≡ []
  none_behind [] [] spent = refl
  none_behind [] (c ∷ cs) spent = absurd spent
  none_behind (x ∷ hs) cs spent = absurd spent

  all_taken : (xs : List Account) (m : ℕ) → drop m xs ≡ [] → xs ≡ take m xs
  all_taken [] zero e = refl
  all_taken [] (suc m) e = refl
  all_taken (x ∷ xs) zero e = absurd (cc)
  all_taken (x ∷ xs) (suc m) e = ap (λ ys. x ∷ ys) (all_taken xs m e)

  pub joined_cells : left ≡ [] → now ≡ record first { cells = cells_after places ran first.cells }
  joined_cells e =
      let spent : HaveSpent [] (reverse ran_left) (drop n now.cells) = subst (λ ps. HaveSpent (reverse ps) (reverse ran_left) (drop n now.cells)) e h.spent in
      let cells : now.cells ≡ cells_after places ran first.cells = all_taken now.cells n (none_behind (reverse ran_left) (drop n now.cells) spent) ∙ sym (append-nil (take n now.cells))
      ∙ ap (λ ps. take n now.cells ++ cells_after (reverse ps) (reverse ran_left) (drop n now.cells)) (sym e) ∙ h.cells_are in
      h.ledger ∙ ap (λ cs. record first { cells = cs }) cells
