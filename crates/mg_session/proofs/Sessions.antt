-- A session goes on, step after step.
use Rattle.std.proofs.Common.{◌≡◌, ℕ, zero, suc, ◌+◌, ◌*◌, ◌<◌, ◌≤◌, ◌-◌, ◌^◌, List, [], ◌∷◌, ◌++◌, length, map, drop, get_or, refl, ap, sym, ◌∙◌, subst, arith, inl, inr, append-nil, append_assoc}
use Rattle.std.specs.Prelude.{Some, slice_get}
use Rattle.std.specs.List.{AllByRecursion, flat_map}
use Rattle.std.proofs.lemmas.List.{length-append}
use Rattle.mg_words.specs.declared.procedure.Procedure.{Procedure}
use Rattle.mg_ledger.specs.declared.ledger.TheConstants.{MOST_GRANTED}
use Rattle.mg_workers.specs.Rows.{EachPair}
use Rattle.mg_workers.proofs.Pairs.{all_at, all_imply, all_along}
use Rattle.mg_names.specs.Plan.{Plan, Step, fund, grant, run, cancel, report, report_facts, report_log}
use Rattle.mg_names.specs.IsPlan.{IsPlan, IsStep}
use Rattle.mg_names.specs.Values.{step_of}
use Rattle.mg_names.specs.declared.plan.PlanStep.{PlanStep}
use Rattle.mg_session.specs.State.{State, SearchState, empty}
use Rattle.mg_session.specs.Session.{granted, new_search, cancelled, Grants, to_one_there, to_a_new_one, Cancels, gives_back, is_refused, After, Continues}
use Rattle.mg_session.specs.Output.{TextOf, Texts, Prints}
use Rattle.mg_session.specs.StateOk.{StateOk}
use Rattle.mg_session.specs.RunOk.{IsRunTo}
use Rattle.mg_session.specs.Built.{one_worker}
use Rattle.mg_session.specs.At.{AreCounted}
use Rattle.mg_session.specs.Stepped.{IsStepped}
use Rattle.mg_session.proofs.Lists.{all-append, all-front, all-back}
use Rattle.mg_session.proofs.States.{empty_ok, after_ok}
use Rattle.mg_session.proofs.Runs.{run_is_ok}
use Rattle.mg_session.proofs.Firsts.{drop_at}

pub stepped : (plan : Plan) (IsSize : ℕ → ℕ → ℕ → ℕ → Type 0) (p q : PlanStep) (old new : State) (text : List ℕ) → p ≡ q → After plan (one_worker IsSize) (step_of q) old new → ((shown : List ℕ) → TextOf plan (one_worker IsSize) shown (step_of q) old text shown) → IsStepped plan IsSize (step_of p) old new text
stepped plan IsSize p q old new text e after text_is = subst (λ s. IsStepped plan IsSize (step_of s) old new text) (sym e) (record { after = after; text_is = text_is })

-- after so many steps there are no more searches, and none was granted more than 2^62 units at each
abbrev Granted : ℕ → SearchState → Type 0
Granted most x = x.account.granted ≤ most

pub record Few (steps : ℕ) (state : State) : Type 0 where
  pub granted : AllByRecursion (Granted (4611686018427387904 * steps)) state.searches
  pub searches : length state.searches ≤ steps

few_more : (steps : ℕ) (state : State) → Few steps state → Few (steps + 1) state
few_more steps state h = record {
  granted = all_imply (Granted (4611686018427387904 * steps)) (Granted (4611686018427387904 * (steps + 1))) (λ x g. omega arith) state.searches h.granted;
  searches = let most = h.searches in omega arith;
}

-- one search is another, of the same place
few_with : (steps purse : ℕ) (old : State) (before after : List SearchState) (x y : SearchState) → old.searches ≡ before ++ x ∷ after → Few (steps + 1) old → Granted (4611686018427387904 * (steps + 1)) y →
    Few (steps + 1) (record old { purse = purse; searches = before ++ y ∷ after })
few_with steps purse old before after x y place h one =
    let all = subst (AllByRecursion (Granted (4611686018427387904 * (steps + 1)))) place h.granted in
    let long : length (before ++ y ∷ after) ≡ length (before ++ x ∷ after) = length-append before (y ∷ after) ∙ sym (length-append before (x ∷ after)) in
    let was : length old.searches ≡ length (before ++ x ∷ after) = ap length place in
    let most = h.searches in
    record {
      granted = all-append (Granted (4611686018427387904 * (steps + 1))) before (y ∷ after) (all-front (Granted (4611686018427387904 * (steps + 1))) before (x ∷ after) all) (one, (all-back (Granted (4611686018427387904 * (steps + 1))) before (x ∷ after) all).1);
      searches = omega arith;
    }

at_place : (most : ℕ) (xs before after : List SearchState) (x : SearchState) → xs ≡ before ++ x ∷ after → AllByRecursion (Granted most) xs → Granted most x
at_place most xs before after x place h = (all-back (Granted most) before (x ∷ after) (subst (AllByRecursion (Granted most)) place h)).0

ran_granted : (most : ℕ) (bound : _) (log : _) (xs ys : List SearchState) → EachPair (IsRunTo bound log) xs ys → AllByRecursion (Granted most) xs → AllByRecursion (Granted most) ys
ran_granted most bound log xs ys pairs h = all_along (IsRunTo bound log) (Granted most) (Granted most) (λ x y ran g. let same = ran.granted in omega arith) xs ys pairs h

pairs_long : {X Y : Type 0} (R : X → Y → Type 0) (xs : List X) (ys : List Y) → EachPair R xs ys → length ys ≡ length xs
pairs_long R [] [] h = refl
pairs_long R [] (y ∷ ys) h = absurd h
pairs_long R (x ∷ xs) [] h = absurd h
pairs_long R (x ∷ xs) (y ∷ ys) h = ap suc (pairs_long R xs ys h.1)

module _ (plan : Plan) (steps : ℕ) (old new : State) (h : Few steps old) where
  granted_few : (question units : ℕ) (procedure : Procedure) → units ≤ 4611686018427387904 → Grants plan question procedure units old new → Few (steps + 1) new
  granted_few question units procedure upto (to_one_there before after x there e) =
      let was = at_place (4611686018427387904 * steps) old.searches before after x there.place h.granted in
      subst (Few (steps + 1)) (sym e) (few_with steps (old.purse - units) old before after x (granted units x) there.place (few_more steps old h) (omega arith))
  granted_few question units procedure upto (to_a_new_one absent ask search asked opens e) =
      let more = few_more steps old h in
      let made = new_search question (length old.searches + 1) search units in
      let most = h.searches in
      let long = length-append old.searches (made ∷ []) in
      subst (Few (steps + 1)) (sym e) (record { granted = all-append (Granted (4611686018427387904 * (steps + 1))) old.searches (made ∷ []) more.granted (omega arith, tt); searches = omega arith })

  cancelled_few : (question : ℕ) (procedure : Procedure) → Cancels question procedure old new → Few (steps + 1) new
  cancelled_few question procedure (gives_back before after x there e) =
      let was = at_place (4611686018427387904 * steps) old.searches before after x there.place h.granted in
      subst (Few (steps + 1)) (sym e) (few_with steps (old.purse + x.account.held) old before after x (cancelled x) there.place (few_more steps old h) (omega arith))
  cancelled_few question procedure (is_refused absent e) = subst (Few (steps + 1)) (sym e) (few_more steps old h)

  stays_few : new ≡ old → Few (steps + 1) new
  stays_few e = subst (Few (steps + 1)) (sym e) (few_more steps old h)

  -- a step grants 2^62 units at most, and makes one search
  few_next : (IsSize : ℕ → ℕ → ℕ → ℕ → Type 0) (step : Step) → IsStep plan step → StateOk plan 1 old → After plan (one_worker IsSize) step old new → Few (steps + 1) new
  few_next IsSize (fund units) is ok (inl e) = subst (Few (steps + 1)) (sym e.1) (let more = few_more steps old h in record { granted = more.granted; searches = more.searches })
  few_next IsSize (fund units) is ok (inr e) = stays_few e.1
  few_next IsSize (grant question procedure units) is ok (inl e) = granted_few question units procedure is.1 e.1
  few_next IsSize (grant question procedure units) is ok (inr e) = stays_few e.1
  few_next IsSize (run bound) is ok e =
      let ran = run_is_ok plan (one_worker IsSize) bound old new e ok in
      let more = few_more steps old h in
      let long = pairs_long (IsRunTo bound new.log) old.searches new.searches ran.searches in
      let most = more.searches in record { granted = ran_granted (4611686018427387904 * (steps + 1)) bound new.log old.searches new.searches ran.searches more.granted; searches = omega arith }
  few_next IsSize (cancel question procedure) is ok e = cancelled_few question procedure e
  few_next IsSize (report questions) is ok e = stays_few e
  few_next IsSize report_facts is ok e = stays_few e
  few_next IsSize report_log is ok e = stays_few e

-- A session that has come so far: it is in order, and with whatever the steps that are left do and print it is an
-- output of the plan.
pub record Going (plan : Plan) (IsSize : ℕ → ℕ → ℕ → ℕ → Type 0) (steps : List PlanStep) (i : ℕ) (state : State) (output : List ℕ) : Type 0 where
  pub are : map step_of steps ≡ plan.steps
  pub ok : StateOk plan 1 state
  pub few : Few i state
  pub prints : (later : List State) (texts : List (List ℕ)) → Continues plan (one_worker IsSize) state (map step_of (drop i steps)) later → Texts plan (one_worker IsSize) [] (map step_of (drop i steps)) (state ∷ later) texts →
      Prints plan (one_worker IsSize) (output ++ flat_map (λ text. text) texts)

pub going_begins : (plan : Plan) (IsSize : ℕ → ℕ → ℕ → ℕ → Type 0) (steps : List PlanStep) (state : State) (output : List ℕ) → map step_of steps ≡ plan.steps → state ≡ empty → output ≡ [] → Going plan IsSize steps 0 state output
going_begins plan IsSize steps state output are e o = record {
  are = are;
  ok = subst (StateOk plan 1) (sym e) (empty_ok plan 1);
  few = subst (Few 0) (sym e) (record { granted = tt; searches = omega arith });
  prints = λ later texts continues are_texts. record {
    states = state ∷ later;
    session = (e, subst (λ ss. Continues plan (one_worker IsSize) state ss later) are continues);
    texts = texts;
    texts_are = subst (λ ss. Texts plan (one_worker IsSize) [] ss (state ∷ later) texts) are are_texts;
    output_is = ap (λ out. out ++ flat_map (λ text. text) texts) o;
  };
}

module _ (plan : Plan) (IsSize : ℕ → ℕ → ℕ → ℕ → Type 0) (steps : List PlanStep) (i : ℕ) (state : State) (output : List ℕ) (h : Going plan IsSize steps i state output) where
  step_there : (d : PlanStep) → i < length steps → slice_get plan.steps i ≡ Some (step_of (get_or steps i d))
  step_there d within = ap (λ ss. slice_get ss i) (sym h.are) ∙ there steps i within
    where
      there : (ss : List PlanStep) (n : ℕ) → n < length ss → slice_get (map step_of ss) n ≡ Some (step_of (get_or ss n d))
      there [] n w = absurd (omega arith)
      there (s ∷ ss) zero w = refl
      there (s ∷ ss) (suc n) w = there ss n (omega arith)

  pub going_step : (d : PlanStep) → IsPlan plan → i < length steps → IsStep plan (step_of (get_or steps i d))
  going_step d is_plan within = all_at (IsStep plan) plan.steps i (step_of (get_or steps i d)) is_plan.steps (step_there d within)

  steps_within : IsPlan plan → i < length steps → i < 4294967294
  steps_within is_plan within =
      let long : length (map step_of steps) ≡ length steps = map_long steps in
      let same : length (map step_of steps) ≡ length plan.steps = ap length h.are in
      let most = is_plan.steps_count in omega arith
    where
      map_long : (ss : List PlanStep) → length (map step_of ss) ≡ length ss
      map_long [] = refl
      map_long (s ∷ ss) = ap suc (map_long ss)

  pub going_few : IsPlan plan → i < length steps → length state.searches < 2 ^ 32 - 1
  going_few is_plan within = let upto = steps_within is_plan within in let most = h.few.searches in omega arith

  pub going_counted : IsPlan plan → i < length steps → AreCounted state
  going_counted is_plan within =
      let upto = steps_within is_plan within in all_imply (Granted (4611686018427387904 * i)) (Granted MOST_GRANTED) (λ x g. omega arith) state.searches h.few.granted

  pub going_next : (d : PlanStep) (new : State) (text output' : List ℕ) → IsPlan plan → i < length steps → IsStepped plan IsSize (step_of (get_or steps i d)) state new text → output' ≡ output ++ text →
      Going plan IsSize steps (i + 1) new output'
  going_next d new text output' is_plan within is_stepped output_is =
      let here : drop i steps ≡ get_or steps i d ∷ drop (i + 1) steps = drop_at steps i d within in
      record {
        are = h.are;
        ok = after_ok plan 1 (one_worker IsSize) (step_of (get_or steps i d)) state new refl is_stepped.after h.ok;
        few = few_next plan i state new h.few IsSize (step_of (get_or steps i d)) (going_step d is_plan within) h.ok is_stepped.after;
        prints = λ later texts continues are_texts.
            let all = h.prints (new ∷ later) (text ∷ texts) (subst (λ ss. Continues plan (one_worker IsSize) state (map step_of ss) (new ∷ later)) (sym here) (is_stepped.after, continues))
            (subst (λ ss. Texts plan (one_worker IsSize) [] (map step_of ss) (state ∷ new ∷ later) (text ∷ texts)) (sym here) ([], is_stepped.text_is [], are_texts)) in
            subst (Prints plan (one_worker IsSize)) (sym (ap (λ out. out ++ flat_map (λ t. t) texts) output_is ∙ append_assoc output text (flat_map (λ t. t) texts))) all;
      }

  pub going_done : length steps ≤ i → Prints plan (one_worker IsSize) output
  going_done over =
      let none : drop i steps ≡ [] = nothing steps i over in
      subst (Prints plan (one_worker IsSize)) (append-nil output)
      (h.prints [] [] (subst (λ ss. Continues plan (one_worker IsSize) state (map step_of ss) []) (sym none) refl) (subst (λ ss. Texts plan (one_worker IsSize) [] (map step_of ss) (state ∷ []) []) (sym none) refl))
    where
      nothing : (ss : List PlanStep) (n : ℕ) → length ss ≤ n → drop n ss ≡ []
      nothing [] zero w = refl
      nothing [] (suc n) w = refl
      nothing (s ∷ ss) zero w = absurd (omega arith)
      nothing (s ∷ ss) (suc n) w = nothing ss n (omega arith)
