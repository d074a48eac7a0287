-- Every state of a session is in order.
use Rattle.std.proofs.Common.{◌≡◌, ℕ, ◌+◌, ◌-◌, ◌<◌, ◌≤◌, true, List, [], ◌∷◌, ◌++◌, length, map, refl, ap, sym, ◌∙◌, subst, arith, inl, inr}
use Rattle.std.specs.Prelude.{Option, Some, None}
use Rattle.std.specs.List.{AllByRecursion}
use Rattle.mg_core.specs.declared.entries.Entry.{Entry}
use Rattle.mg_core.specs.Log.{Settled, LegalFrom}
use Rattle.mg_ledger.specs.declared.ledger.TheConstants.{MOST_FUNDED}
use Rattle.mg_ledger.specs.Accounts.{Balanced, total_held, total_spent, HasBalance}
use Rattle.mg_ledger.specs.Ledgers.{IsLedger}
use Rattle.mg_words.specs.declared.procedure.Procedure.{Procedure}
use Rattle.mg_workers.specs.declared.held.End.{End}
use Rattle.mg_workers.specs.declared.held.End.TheVariants as ends
use Rattle.mg_workers.specs.Run.{Row}
use Rattle.mg_workers.specs.Rows.{EachPair}
use Rattle.mg_workers.proofs.Pairs.{all_along, all_imply, pairs_imply}
use Rattle.mg_present.specs.Ask.{Inquiry}
use Rattle.mg_present.specs.Applies.{Applies}
use Rattle.mg_names.specs.Plan.{Plan, AskOf, Step, fund, grant, run, cancel, report, report_facts, report_log}
use Rattle.mg_certs.specs.Claim.{Fact}
use Rattle.mg_certs.specs.Validity.{IsValid, key_of}
use Rattle.mg_search.specs.Search.{Search, ask_of, procedure_of, is_open, Opens}
use Rattle.mg_search.proofs.Starts.{opens_in_row, opens_applies, opens_procedure, opens_ask, opens_unspent, opens_open}
use Rattle.mg_session.specs.State.{State, SearchState, Params, IsOf, empty, accounts, ledger_of, asks, give_back, ended, row_taken, after_row}
use Rattle.mg_session.specs.Run.{KeepsVerdict, after_rows, Rounds, within_bound, allow, TakesPart, Core, Idles, FurtherBy, IsSettledTo, is_found, is_stopped, stays, Settle, RunStep}
use Rattle.mg_session.specs.Session.{IsAbsent, granted, new_search, cancelled, end_granted, end_cancelled, Grants, to_one_there, to_a_new_one, Cancels, gives_back, is_refused, After, Continues, Session}
use Rattle.mg_session.specs.StateOk.{IsOpenAt, EndsSo, StandsBeside, IsAsked, AreNumbered, AreOther, AreSingle, HasPass, StateOk}
use Rattle.mg_session.proofs.Reading.{reads_first}
use Rattle.mg_session.proofs.Lists.{all-append, all-front, all-back}
use Rattle.mg_session.proofs.Ledger.{held_there, spent_there, AreBalanced, as_accounts, as_searches, totals_same, spent_same}
use Rattle.mg_session.proofs.Asks.{AsksSame, legal_more, legal_same, asks_front, legal_within, no_units_above, no_keeper_above}
use Rattle.mg_session.proofs.Rounds.{RanTo, row_back, CanRun, rounds_run}

-- what a step keeps of a search: whose it is, and what it asks
pub record SameSearch (x y : SearchState) : Type 0 where
  pub question : y.question ≡ x.question
  pub number : y.number ≡ x.number
  pub ask : ask_of y.search ≡ ask_of x.search
  pub procedure : procedure_of y.search ≡ procedure_of x.search

numbered_same : (n : ℕ) (xs ys : List SearchState) → EachPair SameSearch xs ys → AreNumbered n xs → AreNumbered n ys
numbered_same n [] [] same h = tt
numbered_same n [] (y ∷ ys) same h = absurd same
numbered_same n (x ∷ xs) [] same h = absurd same
numbered_same n (x ∷ xs) (y ∷ ys) same h = (same.0.number ∙ h.0, numbered_same (n + 1) xs ys same.1 h.1)

single_same : (xs ys : List SearchState) → EachPair SameSearch xs ys → AreSingle xs → AreSingle ys
single_same [] [] same h = tt
single_same [] (y ∷ ys) same h = absurd same
single_same (x ∷ xs) [] same h = absurd same
single_same (x ∷ xs) (y ∷ ys) same h = (
  all_along SameSearch (AreOther x) (AreOther y)
      (λ v w s other q p. other (sym same.0.question ∙ (q ∙ s.question)) (sym same.0.procedure ∙ (p ∙ s.procedure))) xs ys same.1 h.0,
  single_same xs ys same.1 h.1,
)

same_asks : (xs ys : List SearchState) → EachPair SameSearch xs ys → EachPair AsksSame xs ys
same_asks xs ys same = pairs_imply SameSearch AsksSame (λ x y s. record { number = s.number; ask = s.ask }) xs ys same

module _ (plan : Plan) (workers : ℕ) where
  asked_same : (xs ys : List SearchState) → EachPair SameSearch xs ys → AllByRecursion (IsAsked plan) xs → AllByRecursion (IsAsked plan) ys
  asked_same xs ys same h =
      all_along SameSearch (IsAsked plan) (IsAsked plan)
      (λ x y s a. record {
        asked = subst (λ q. AskOf plan q (ask_of y.search)) (sym s.question) (subst (AskOf plan x.question) (sym s.ask) a.asked);
        applies = subst (λ (p : Procedure). Applies p (ask_of y.search)) (sym s.procedure) (subst (Applies (procedure_of x.search)) (sym s.ask) a.applies);
      }) xs ys same h

  -- other units and ends in the same searches, beside the same log
  pub same_ok : (old new : State) → StateOk plan workers old → new.log ≡ old.log → EachPair SameSearch old.searches new.searches → IsLedger (ledger_of new) →
      AllByRecursion (λ search. StandsBeside old.log (row_taken true search)) new.searches → StateOk plan workers new
  same_ok old new ok log same ledger stand = record {
    ledger = ledger;
    numbered = numbered_same 1 old.searches new.searches same ok.numbered;
    single = single_same old.searches new.searches same ok.single;
    asked = asked_same old.searches new.searches same ok.asked;
    stand = subst (λ (l : List (Entry Fact)). AllByRecursion (λ search. StandsBeside l (row_taken true search)) new.searches) (sym log) stand;
    legal = subst (λ (l : List (Entry Fact)). LegalFrom IsValid key_of (asks new.searches) [] l) (sym log) (legal_same old.searches new.searches old.log (same_asks old.searches new.searches same) ok.legal);
    passes = subst (AllByRecursion (HasPass workers)) (sym log) ok.passes;
  }

  can_run : (state : State) → StateOk plan workers state → CanRun workers state.log state.searches
  can_run state ok = record { numbered = ok.numbered; stand = ok.stand; legal = ok.legal; passes = ok.passes }

  -- the searches as a run leaves them
  after_same : (x : SearchState) (Takes : SearchState → Type 0) (last : Row Search) → RanTo Takes x last → SameSearch x (after_row x last)
  after_same x Takes last ran =
      let first : ran.first ≡ row_taken ran.first.left x = ran.is_row.row_is in
      record {
        question = refl;
        number = refl;
        ask = ran.keeps.key ∙ ap (λ (r : Row Search). ask_of r.search) first;
        procedure = ran.goes.procedure ∙ ap (λ (r : Row Search). procedure_of r.search) first;
      }

  after_all_same : (Takes : SearchState → Type 0) (xs : List SearchState) (lasts : List (Row Search)) → EachPair (RanTo Takes) xs lasts → EachPair SameSearch xs (after_rows xs lasts)
  after_all_same Takes [] [] h = tt
  after_all_same Takes [] (last ∷ lasts) h = absurd h
  after_all_same Takes (x ∷ xs) [] h = absurd h
  after_all_same Takes (x ∷ xs) (last ∷ lasts) h = (after_same x Takes last h.0, after_all_same Takes xs lasts h.1)

  after_total : (x : SearchState) (Takes : SearchState → Type 0) (last : Row Search) → RanTo Takes x last → last.held + last.spent ≡ x.account.held + x.account.spent
  after_total x Takes last ran =
      let held : ran.first.held ≡ x.account.held = ap (λ (r : Row Search). r.held) ran.is_row.row_is in
      let spent : ran.first.spent ≡ x.account.spent = ap (λ (r : Row Search). r.spent) ran.is_row.row_is in
      let balance = ran.keeps.balance in omega arith

  after_all_total : (Takes : SearchState → Type 0) (xs : List SearchState) (lasts : List (Row Search)) → EachPair (RanTo Takes) xs lasts → EachPair (λ (x y : SearchState). y.account.held + y.account.spent ≡ x.account.held + x.account.spent) xs (after_rows xs lasts)
  after_all_total Takes [] [] h = tt
  after_all_total Takes [] (last ∷ lasts) h = absurd h
  after_all_total Takes (x ∷ xs) [] h = absurd h
  after_all_total Takes (x ∷ xs) (last ∷ lasts) h = (after_total x Takes last h.0, after_all_total Takes xs lasts h.1)

  after_balanced : (Takes : SearchState → Type 0) (xs : List SearchState) (lasts : List (Row Search)) → EachPair (RanTo Takes) xs lasts → AreBalanced xs → AreBalanced (after_rows xs lasts)
  after_balanced Takes [] [] h b = tt
  after_balanced Takes [] (last ∷ lasts) h b = absurd h
  after_balanced Takes (x ∷ xs) [] h b = absurd h
  after_balanced Takes (x ∷ xs) (last ∷ lasts) h b =
      let total = after_total x Takes last h.0 in
      let balance = b.0 in (omega arith, after_balanced Takes xs lasts h.1 b.1)

  after_stand : (log : List (Entry Fact)) (Takes : SearchState → Type 0) (xs : List SearchState) (lasts : List (Row Search)) → EachPair (RanTo Takes) xs lasts → AllByRecursion (StandsBeside log) lasts → AllByRecursion (λ (x : SearchState). StandsBeside log (row_taken true x)) (after_rows xs lasts)
  after_stand log Takes [] [] h s = tt
  after_stand log Takes [] (last ∷ lasts) h s = absurd h
  after_stand log Takes (x ∷ xs) [] h s = absurd h
  after_stand log Takes (x ∷ xs) (last ∷ lasts) h s =
      (row_back log x last (h.0.keeps.number ∙ ap (λ (r : Row Search). r.number) h.0.is_row.row_is) s.0, after_stand log Takes xs lasts h.1 s.1)

  pub rounds_ok : (params : Params) (Takes : State → SearchState → Type 0) (old new : State) → params.workers ≡ workers → Rounds params Takes old new → StateOk plan workers old → StateOk plan workers new
  rounds_ok params Takes old new same rounds ok =
      let run = rounds_run params Takes old new rounds (subst (λ w. CanRun w old.log old.searches) (sym same) (can_run old ok)) in
      let lasts = rounds.last.rows in
      let searches = after_rows old.searches lasts in
      let kept = after_all_same (Takes old) old.searches lasts run.ran in
      let total = totals_same old.searches searches (after_all_total (Takes old) old.searches lasts run.ran) in
      let whole = ok.ledger.balance.whole in
      let after : StateOk plan workers (record old { searches = searches; log = rounds.last.log }) = record {
        ledger = record {
          bounded = ok.ledger.bounded;
          balance = record { each = as_accounts searches (after_balanced (Takes old) old.searches lasts run.ran (as_searches old.searches ok.ledger.balance.each)); whole = omega arith };
        };
        numbered = numbered_same 1 old.searches searches kept ok.numbered;
        single = single_same old.searches searches kept ok.single;
        asked = asked_same old.searches searches kept ok.asked;
        stand = after_stand rounds.last.log (Takes old) old.searches lasts run.ran run.stand;
        legal = legal_same old.searches searches rounds.last.log (same_asks old.searches searches kept) run.legal;
        passes = subst (λ w. AllByRecursion (HasPass w) rounds.last.log) same run.passes;
      } in
      subst (StateOk plan workers) (sym rounds.new_is) after

  -- the units that a run allows
  bound_within : (bound : Option ℕ) (held : ℕ) → within_bound bound held ≤ held
  bound_within None held = omega arith
  bound_within (Some n) held = omega arith

  allow_same : (bound : Option ℕ) (xs : List SearchState) → EachPair SameSearch xs (map (allow bound) xs)
  allow_same bound [] = tt
  allow_same bound (x ∷ xs) = (record { question = refl; number = refl; ask = refl; procedure = refl }, allow_same bound xs)

  allow_accounts : (bound : Option ℕ) (xs : List SearchState) → accounts (map (allow bound) xs) ≡ accounts xs
  allow_accounts bound [] = refl
  allow_accounts bound (x ∷ xs) = ap (λ cells. x.account ∷ cells) (allow_accounts bound xs)

  allow_stand : (log : List (Entry Fact)) (bound : Option ℕ) (xs : List SearchState) → AllByRecursion (λ (x : SearchState). StandsBeside log (row_taken true x)) xs → AllByRecursion (λ (x : SearchState). StandsBeside log (row_taken true x)) (map (allow bound) xs)
  allow_stand log bound [] h = tt
  allow_stand log bound (x ∷ xs) h = (
    record { in_row = h.0.in_row; units = h.0.units; counted = h.0.counted; allowed = bound_within bound x.account.held; end = h.0.end; published = h.0.published; read = h.0.read; in_order = h.0.in_order },
    allow_stand log bound xs h.1,
  )

  pub allow_ok : (bound : Option ℕ) (old : State) → StateOk plan workers old → StateOk plan workers (record old { searches = map (allow bound) old.searches })
  allow_ok bound old ok =
      same_ok old (record old { searches = map (allow bound) old.searches }) ok refl (allow_same bound old.searches)
      (record { bounded = ok.ledger.bounded; balance = subst (λ cells. HasBalance old.funded old.purse cells) (sym (allow_accounts bound old.searches)) ok.ledger.balance })
      (allow_stand old.log bound old.searches ok.stand)

  core_ok : (params : Params) (bound : Option ℕ) (old new : State) → params.workers ≡ workers → Core params bound old new → StateOk plan workers old → StateOk plan workers new
  core_ok params bound old new same core ok = rounds_ok params TakesPart (record old { searches = map (allow bound) old.searches }) new same core.rounds (allow_ok bound old ok)

  pub further_ok : (params : Params) (old : State) (states : List State) (new : State) → params.workers ≡ workers → FurtherBy plan params old states new → StateOk plan workers old → StateOk plan workers new
  further_ok params old [] new same h ok = subst (StateOk plan workers) (sym h.1) ok
  further_ok params old (next ∷ states) new same h ok =
      further_ok params next states new same h.4 (subst (StateOk plan workers) (sym h.3) (rounds_ok params Idles old h.1 same h.2 ok))

  -- settling
  settled_same : (state : State) (x x' : SearchState) → IsSettledTo state x x' → SameSearch x x'
  settled_same state x x' (is_found s k e) = subst (SameSearch x) (sym e) (record { question = refl; number = refl; ask = refl; procedure = refl })
  settled_same state x x' (is_stopped s k e) = subst (SameSearch x) (sym e) (record { question = refl; number = refl; ask = refl; procedure = refl })
  settled_same state x x' (stays s e) = subst (SameSearch x) (sym e) (record { question = refl; number = refl; ask = refl; procedure = refl })

  pub settled_spent : (state : State) (x x' : SearchState) → IsSettledTo state x x' → x'.account.spent ≡ x.account.spent
  settled_spent state x x' (is_found s k e) = ap (λ (y : SearchState). y.account.spent) e
  settled_spent state x x' (is_stopped s k e) = ap (λ (y : SearchState). y.account.spent) e
  settled_spent state x x' (stays s e) = ap (λ (y : SearchState). y.account.spent) e

  paid : (x : SearchState) (end : End) → Balanced x.account → Balanced (ended end (give_back x)).account
  paid x end balanced = let b = balanced in omega arith

  settled_balanced : (state : State) (x x' : SearchState) → IsSettledTo state x x' → Balanced x.account → Balanced x'.account
  settled_balanced state x x' (is_found s k e) b = subst (λ (y : SearchState). Balanced y.account) (sym e) (paid x ends.Found b)
  settled_balanced state x x' (is_stopped s k e) b = subst (λ (y : SearchState). Balanced y.account) (sym e) (paid x ends.Stopped b)
  settled_balanced state x x' (stays s e) b = subst (λ (y : SearchState). Balanced y.account) (sym e) b

  with_end : (log : List (Entry Fact)) (x : SearchState) (end : End) → StandsBeside log (row_taken true x) → EndsSo log x.search x.number end → StandsBeside log (row_taken true (ended end (give_back x)))
  with_end log x end h e = record { in_row = h.in_row; units = h.units; counted = h.counted; allowed = omega arith; end = e; published = h.published; read = h.read; in_order = h.in_order }

  found_now : (log : List (Entry Fact)) (x : SearchState) → StandsBeside log (row_taken true x) → Settled key_of log (ask_of x.search) → KeepsVerdict log (ask_of x.search) x.number → EndsSo log x.search x.number ends.Found
  found_now log x h settled keeper = record {
    found = (λ e. keeper, λ k. refl);
    verdict = λ v. settled;
    openness = subst (λ (end : End). IsOpenAt end x.search) (h.end.found.1 keeper) h.end.openness;
    can_end = tt;
  }

  stopped_now : (log : List (Entry Fact)) (x : SearchState) → Settled key_of log (ask_of x.search) → (KeepsVerdict log (ask_of x.search) x.number → ⊥) → EndsSo log x.search x.number ends.Stopped
  stopped_now log x settled none = record { found = (λ e. absurd (cc e), λ k. absurd (none k)); verdict = λ v. settled; openness = tt; can_end = tt }

  settled_stands : (state : State) (x x' : SearchState) → IsSettledTo state x x' → StandsBeside state.log (row_taken true x) → StandsBeside state.log (row_taken true x')
  settled_stands state x x' (is_found s k e) h = subst (λ (y : SearchState). StandsBeside state.log (row_taken true y)) (sym e) (with_end state.log x ends.Found h (found_now state.log x h s k))
  settled_stands state x x' (is_stopped s k e) h = subst (λ (y : SearchState). StandsBeside state.log (row_taken true y)) (sym e) (with_end state.log x ends.Stopped h (stopped_now state.log x s k))
  settled_stands state x x' (stays s e) h = subst (λ (y : SearchState). StandsBeside state.log (row_taken true y)) (sym e) h

  settle_ok : (old new : State) → Settle old new → StateOk plan workers old → StateOk plan workers new
  settle_ok old new settle ok =
      let spent = spent_same old.searches new.searches (pairs_imply (IsSettledTo old) (λ (x y : SearchState). y.account.spent ≡ x.account.spent) (settled_spent old) old.searches new.searches settle.searches) in
      let purse = settle.purse in
      let whole = ok.ledger.balance.whole in
      let balanced = all_along (IsSettledTo old) (λ (x : SearchState). Balanced x.account) (λ (x : SearchState). Balanced x.account) (settled_balanced old) old.searches new.searches settle.searches (as_searches old.searches ok.ledger.balance.each) in
      let after : StateOk plan workers (record old { purse = new.purse; searches = new.searches }) =
      same_ok old (record old { purse = new.purse; searches = new.searches }) ok refl
      (pairs_imply (IsSettledTo old) SameSearch (settled_same old) old.searches new.searches settle.searches)
      (record { bounded = ok.ledger.bounded; balance = record { each = as_accounts new.searches balanced; whole = omega arith } })
      (all_along (IsSettledTo old) (λ (x : SearchState). StandsBeside old.log (row_taken true x)) (λ (x : SearchState). StandsBeside old.log (row_taken true x)) (settled_stands old) old.searches new.searches settle.searches ok.stand) in
      subst (StateOk plan workers) (sym settle.new_is) after

  -- the states of a run step
  pub ran_ok : (params : Params) (bound : Option ℕ) (old new : State) → params.workers ≡ workers → (step : RunStep plan params bound old new) → StateOk plan workers old → StateOk plan workers step.ran
  ran_ok params bound old new same step ok = core_ok params bound step.inherited step.ran same step.core (subst (StateOk plan workers) (sym step.inherit) ok)

  pub ran_on_ok : (params : Params) (bound : Option ℕ) (old new : State) → params.workers ≡ workers → (step : RunStep plan params bound old new) → StateOk plan workers old → StateOk plan workers step.ran_on
  ran_on_ok params bound old new same step ok =
      let again = subst (StateOk plan workers) (sym step.inherit_again) (ran_ok params bound old new same step ok) in further_ok params step.inherited_again step.further.0 step.ran_on same step.further.1 again

  pub run_ok : (params : Params) (bound : Option ℕ) (old new : State) → params.workers ≡ workers → RunStep plan params bound old new → StateOk plan workers old → StateOk plan workers new
  run_ok params bound old new same step ok = subst (StateOk plan workers) (sym step.sides) (settle_ok step.ran_on step.settled step.settle (ran_on_ok params bound old new same step ok))

  each_same : (xs : List SearchState) → EachPair SameSearch xs xs
  each_same [] = tt
  each_same (x ∷ xs) = (record { question = refl; number = refl; ask = refl; procedure = refl }, each_same xs)

  -- a search in place of one that stands between others
  one_same : (before after : List SearchState) (x y : SearchState) → SameSearch x y → EachPair SameSearch (before ++ x ∷ after) (before ++ y ∷ after)
  one_same [] after x y same = (same, each_same after)
  one_same (z ∷ before) after x y same = (record { question = refl; number = refl; ask = refl; procedure = refl }, one_same before after x y same)

  replaced : (P : SearchState → Type 0) (before after : List SearchState) (x y : SearchState) → AllByRecursion P (before ++ x ∷ after) → (P x → P y) → AllByRecursion P (before ++ y ∷ after)
  replaced P before after x y h f =
      let back = all-back P before (x ∷ after) h in all-append P before (y ∷ after) (all-front P before (x ∷ after) h) (f back.0, back.1)

  -- a state with one search, and the purse, changed
  one_ok : (old : State) (before after : List SearchState) (x y : SearchState) (purse : ℕ) → old.searches ≡ before ++ x ∷ after → StateOk plan workers old → SameSearch x y →
      purse + y.account.held ≡ old.purse + x.account.held → y.account.spent ≡ x.account.spent → (Balanced x.account → Balanced y.account) → (StandsBeside old.log (row_taken true x) → StandsBeside old.log (row_taken true y)) →
      StateOk plan workers (record old { purse = purse; searches = before ++ y ∷ after })
  one_ok old before after x y purse place ok same units spent balanced stands =
      let searches = before ++ y ∷ after in
      let whole = ok.ledger.balance.whole in
      let held_were : total_held (accounts old.searches) ≡ total_held (accounts before) + (x.account.held + total_held (accounts after)) = ap (λ (xs : List SearchState). total_held (accounts xs)) place ∙ held_there before after x in
      let spent_were : total_spent (accounts old.searches) ≡ total_spent (accounts before) + (x.account.spent + total_spent (accounts after)) = ap (λ (xs : List SearchState). total_spent (accounts xs)) place ∙ spent_there before after x in
      same_ok old (record old { purse = purse; searches = searches }) ok refl (subst (λ (xs : List SearchState). EachPair SameSearch xs searches) (sym place) (one_same before after x y same))
      (record {
        bounded = ok.ledger.bounded;
        balance = record {
          each = as_accounts searches (replaced (λ (z : SearchState). Balanced z.account) before after x y (subst AreBalanced place (as_searches old.searches ok.ledger.balance.each)) balanced);
          whole = omega (arith, held_there before after y, spent_there before after y);
        };
      })
      (replaced (λ (z : SearchState). StandsBeside old.log (row_taken true z)) before after x y (subst (AllByRecursion (λ (z : SearchState). StandsBeside old.log (row_taken true z))) place ok.stand) stands)

  end_granted_so : (log : List (Entry Fact)) (search : Search) (number : ℕ) (end : End) → EndsSo log search number end → EndsSo log search number (end_granted end)
  end_granted_so log search number ends.Fresh h = h
  end_granted_so log search number ends.More h = h
  end_granted_so log search number ends.Found h = h
  end_granted_so log search number ends.Closed h = h
  end_granted_so log search number ends.Idle h = h
  end_granted_so log search number ends.Stopped h = h
  end_granted_so log search number (ends.Full what count) h = h
  end_granted_so log search number ends.Cancelled h =
      record { found = (λ e. absurd (cc e), λ k. let e = h.found.1 k in absurd (cc e)); verdict = λ v. absurd v; openness = h.openness; can_end = tt }

  -- an end that leaves a search open, and says nothing of a verdict, may give way to a cancelled one
  now_cancelled : (log : List (Entry Fact)) (search : Search) (number : ℕ) (end : End) → (end ≡ ends.Found → ⊥) → is_open search ≡ true → EndsSo log search number end → EndsSo log search number ends.Cancelled
  now_cancelled log search number end other opened h =
      record { found = (λ e. absurd (cc e), λ k. absurd (other (h.found.1 k))); verdict = λ v. absurd v; openness = opened; can_end = tt }

  end_cancelled_so : (log : List (Entry Fact)) (search : Search) (number : ℕ) (end : End) → EndsSo log search number end → EndsSo log search number (end_cancelled end)
  end_cancelled_so log search number ends.Fresh h = now_cancelled log search number ends.Fresh (λ e. cc e) h.openness h
  end_cancelled_so log search number ends.More h = now_cancelled log search number ends.More (λ e. cc e) h.openness h
  end_cancelled_so log search number ends.Idle h = now_cancelled log search number ends.Idle (λ e. cc e) h.openness h
  end_cancelled_so log search number ends.Cancelled h = h
  end_cancelled_so log search number ends.Found h = h
  end_cancelled_so log search number ends.Closed h = h
  end_cancelled_so log search number ends.Stopped h = h
  end_cancelled_so log search number (ends.Full what count) h = h

  granted_stands : (log : List (Entry Fact)) (units : ℕ) (x : SearchState) → StandsBeside log (row_taken true x) → StandsBeside log (row_taken true (granted units x))
  granted_stands log units x h =
      let within = h.allowed in
      record { in_row = h.in_row; units = h.units; counted = h.counted; allowed = omega arith; end = end_granted_so log x.search x.number x.end h.end; published = h.published; read = h.read; in_order = h.in_order }

  cancelled_stands : (log : List (Entry Fact)) (x : SearchState) → StandsBeside log (row_taken true x) → StandsBeside log (row_taken true (cancelled x))
  cancelled_stands log x h =
      record { in_row = h.in_row; units = h.units; counted = h.counted; allowed = omega arith; end = end_cancelled_so log x.search x.number x.end h.end; published = h.published; read = h.read; in_order = h.in_order }

  new_stands : (log : List (Entry Fact)) (question number units : ℕ) (procedure : Procedure) (ask : Inquiry) (x : Search) → AllByRecursion (λ (entry : Entry Fact). entry.search < number) log → Opens procedure ask x → StandsBeside log (row_taken true (new_search question number x units))
  new_stands log question number units procedure ask search below opens = record {
    in_row = opens_in_row procedure ask search opens;
    units = opens_unspent procedure ask search opens;
    counted = no_units_above number log below;
    allowed = omega arith;
    end = record {
      found = (λ e. absurd (cc e), λ k. absurd (no_keeper_above number log (ask_of search) k.0 below k.1 k.2));
      verdict = λ v. absurd v;
      openness = opens_open procedure ask search opens;
      can_end = tt;
    };
    published = λ entry k same. absurd (no_keeper_above number log (ask_of search) entry below k same);
    read = omega arith;
    in_order = reads_first log procedure ask search opens;
  }

  new_asked : (question number units : ℕ) (procedure : Procedure) (ask : Inquiry) (x : Search) → AskOf plan question ask → Opens procedure ask x → IsAsked plan (new_search question number x units)
  new_asked question number units procedure ask search asked opens =
      let same_ask = opens_ask procedure ask search opens in
      let same_procedure = opens_procedure procedure ask search opens in
      record {
        asked = subst (AskOf plan question) (sym same_ask) asked;
        applies = subst (λ (a : Inquiry). Applies (procedure_of search) a) (sym same_ask) (subst (λ (p : Procedure). Applies p ask) (sym same_procedure) (opens_applies procedure ask search opens));
      }

  numbered_push : (n : ℕ) (xs : List SearchState) (x : SearchState) → AreNumbered n xs → x.number ≡ n + length xs → AreNumbered n (xs ++ x ∷ [])
  numbered_push n [] x h e = (omega arith, tt)
  numbered_push n (y ∷ xs) x h e = (h.0, numbered_push (n + 1) xs x h.1 (omega arith))

  single_push : (xs : List SearchState) (x : SearchState) → AreSingle xs → AllByRecursion (λ (y : SearchState). AreOther y x) xs → AreSingle (xs ++ x ∷ [])
  single_push [] x h other = (tt, tt)
  single_push (y ∷ xs) x h other = (all-append (AreOther y) xs (x ∷ []) h.0 (other.0, tt), single_push xs x h.1 other.1)

  absent_other : (question number units : ℕ) (procedure : Procedure) (ask : Inquiry) (x : Search) → Opens procedure ask x → (xs : List SearchState) → AllByRecursion (λ (y : SearchState). IsOf question procedure y → ⊥) xs → AllByRecursion (λ (y : SearchState). AreOther y (new_search question number x units)) xs
  absent_other question number units procedure ask search opens xs absent =
      let same = opens_procedure procedure ask search opens in
      all_imply (λ (y : SearchState). IsOf question procedure y → ⊥) (λ (y : SearchState). AreOther y (new_search question number search units))
      (λ y none q p. none (record { of_question = q; of_procedure = p ∙ same })) xs absent

  grant_new_ok : (units : ℕ) (old : State) (question : ℕ) (procedure : Procedure) (ask : Inquiry) (x : Search) → IsAbsent old question procedure → AskOf plan question ask → Opens procedure ask x → units ≤ old.purse → StateOk plan workers old →
      StateOk plan workers (record old { purse = old.purse - units; searches = old.searches ++ new_search question (length old.searches + 1) x units ∷ [] })
  grant_new_ok units old question procedure ask x absent asked opens few ok =
      let number = length old.searches + 1 in
      let made = new_search question number x units in
      let searches = old.searches ++ made ∷ [] in
      let whole = ok.ledger.balance.whole in
      let below : AllByRecursion (λ (entry : Entry Fact). entry.search < number) old.log = all_imply (λ (entry : Entry Fact). entry.search < 1 + length old.searches) (λ (entry : Entry Fact). entry.search < number) (λ entry low. omega arith) old.log (legal_within old.searches [] old.log ok.numbered ok.legal) in
      record {
        ledger = record {
          bounded = ok.ledger.bounded;
          balance = record {
            each = as_accounts searches (all-append (λ (z : SearchState). Balanced z.account) old.searches (made ∷ []) (as_searches old.searches ok.ledger.balance.each) (omega arith, tt));
            whole = omega (arith, held_there old.searches [] made, spent_there old.searches [] made);
          };
        };
        numbered = numbered_push 1 old.searches made ok.numbered (omega arith);
        single = single_push old.searches made ok.single (absent_other question number units procedure ask x opens old.searches absent);
        asked = all-append (IsAsked plan) old.searches (made ∷ []) ok.asked (new_asked question number units procedure ask x asked opens, tt);
        stand = all-append (λ (z : SearchState). StandsBeside old.log (row_taken true z)) old.searches (made ∷ []) ok.stand (new_stands old.log question number units procedure ask x below opens, tt);
        legal = legal_more (asks old.searches) (asks searches) (λ entry key a. asks_front old.searches (made ∷ []) entry key a) [] old.log ok.legal;
        passes = ok.passes;
      }

  fund_ok : (units : ℕ) (old : State) → old.funded + units ≤ MOST_FUNDED → StateOk plan workers old → StateOk plan workers (record old { funded = old.funded + units; purse = old.purse + units })
  fund_ok units old few ok =
      let whole = ok.ledger.balance.whole in
      record {
        ledger = record { bounded = few; balance = record { each = ok.ledger.balance.each; whole = omega arith } };
        numbered = ok.numbered;
        single = ok.single;
        asked = ok.asked;
        stand = ok.stand;
        legal = ok.legal;
        passes = ok.passes;
      }

  grants_ok : (question : ℕ) (procedure : Procedure) (units : ℕ) (old new : State) → units ≤ old.purse → Grants plan question procedure units old new → StateOk plan workers old → StateOk plan workers new
  grants_ok question procedure units old new few (to_one_there before after x there e) ok =
      subst (StateOk plan workers) (sym e)
      (one_ok old before after x (granted units x) (old.purse - units) there.place ok (record { question = refl; number = refl; ask = refl; procedure = refl }) (omega arith) refl (λ b. let h = b in omega arith) (granted_stands old.log units x))
  grants_ok question procedure units old new few (to_a_new_one absent ask x asked opens e) ok = subst (StateOk plan workers) (sym e) (grant_new_ok units old question procedure ask x absent asked opens few ok)

  cancels_ok : (question : ℕ) (procedure : Procedure) (old new : State) → Cancels question procedure old new → StateOk plan workers old → StateOk plan workers new
  cancels_ok question procedure old new (gives_back before after x there e) ok =
      subst (StateOk plan workers) (sym e)
      (one_ok old before after x (cancelled x) (old.purse + x.account.held) there.place ok (record { question = refl; number = refl; ask = refl; procedure = refl }) (omega arith) refl (λ b. let h = b in omega arith) (cancelled_stands old.log x))
  cancels_ok question procedure old new (is_refused absent e) ok = subst (StateOk plan workers) (sym e) ok

  -- a step leads from a state in order to one in order
  pub after_ok : (params : Params) (step : Step) (old new : State) → params.workers ≡ workers → After plan params step old new → StateOk plan workers old → StateOk plan workers new
  after_ok params (fund units) old new same (inl h) ok = subst (StateOk plan workers) (sym h.1) (fund_ok units old h.0 ok)
  after_ok params (fund units) old new same (inr h) ok = subst (StateOk plan workers) (sym h.1) ok
  after_ok params (grant question procedure units) old new same (inl h) ok = grants_ok question procedure units old new h.0 h.1 ok
  after_ok params (grant question procedure units) old new same (inr h) ok = subst (StateOk plan workers) (sym h.1) ok
  after_ok params (run bound) old new same h ok = run_ok params bound old new same h ok
  after_ok params (cancel question procedure) old new same h ok = cancels_ok question procedure old new h ok
  after_ok params (report questions) old new same h ok = subst (StateOk plan workers) (sym h) ok
  after_ok params report_facts old new same h ok = subst (StateOk plan workers) (sym h) ok
  after_ok params report_log old new same h ok = subst (StateOk plan workers) (sym h) ok

  continues_ok : (params : Params) (state : State) (steps : List Step) (later : List State) → params.workers ≡ workers → Continues plan params state steps later → StateOk plan workers state → AllByRecursion (StateOk plan workers) later
  continues_ok params state [] [] same h ok = tt
  continues_ok params state [] (next ∷ later) same h ok = absurd (cc h)
  continues_ok params state (step ∷ steps) [] same h ok = absurd h
  continues_ok params state (step ∷ steps) (next ∷ later) same h ok =
      let next_ok = after_ok params step state next same h.0 ok in (next_ok, continues_ok params next steps later same h.1 next_ok)

  pub empty_ok : StateOk plan workers empty
  empty_ok = record {
    ledger = record { bounded = omega arith; balance = record { each = as_accounts [] tt; whole = refl } };
    numbered = tt;
    single = tt;
    asked = tt;
    stand = tt;
    legal = tt;
    passes = tt;
  }

  -- every state of a session is in order
  pub session_ok : (params : Params) (states : List State) → params.workers ≡ workers → Session plan params states → AllByRecursion (StateOk plan workers) states
  session_ok params [] same h = absurd h
  session_ok params (state ∷ later) same h =
      let ok = subst (StateOk plan workers) (sym h.0) empty_ok in (ok, continues_ok params state plan.steps later same h.1 ok)
