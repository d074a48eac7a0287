-- After a run a recall that has units left and no verdict has read all models of its group, and none refutes.
use Rattle.std.proofs.Common.{◌≡◌, ℕ, zero, suc, ◌+◌, ◌<◌, ◌≤◌, inl, inr, true, List, [], ◌∷◌, take, drop, refl, ap, sym, ◌∙◌, subst, arith}
use Rattle.std.specs.Prelude.{Option, Some, slice_get}
use Rattle.std.specs.List.{AllByRecursion}
use Rattle.mg_core.specs.declared.entries.Entry.{Entry}
use Rattle.mg_core.specs.Log.{facts_of, Settled, ModelsFrom, ModelsAbove}
use Rattle.mg_words.specs.declared.procedure.Procedure.{Procedure}
use Rattle.mg_words.specs.declared.procedure.Procedure.TheVariants.{Recall}
use Rattle.mg_workers.specs.declared.held.End.{End}
use Rattle.mg_workers.specs.declared.held.End.TheVariants as ends
use Rattle.mg_workers.proofs.Pairs.{all_at}
use Rattle.mg_names.specs.Plan.{Plan}
use Rattle.mg_present.specs.Ask.{Inquiry}
use Rattle.mg_certs.specs.Claim.{Fact}
use Rattle.mg_certs.specs.Validity.{recording, key_of}
use Rattle.mg_search.specs.Search.{Search, plain, completing, enumerating, reducing, recalling, ask_of, procedure_of, is_open, Reads}
use Rattle.mg_search.proofs.Readers.{readers_by_recall}
use Rattle.mg_session.specs.State.{State, SearchState, Params, row_taken}
use Rattle.mg_session.specs.Run.{Idles, FurtherBy, IsSettledTo, is_found, is_stopped, stays, RunStep}
use Rattle.mg_session.specs.Reading.{RefutesNoGoal, ReadsOf}
use Rattle.mg_session.specs.StateOk.{CanEnd, IsOpenAt, StandsBeside, StateOk}
use Rattle.mg_session.specs.RunOk.{reach, LeavesUnits}
use Rattle.mg_session.proofs.Reaching.{pair_at}
use Rattle.mg_session.proofs.States.{ran_on_ok}
use Rattle.mg_session.proofs.Runs.{CoreTo, run_comes}

-- where a recall has units left it is idle
is_idle : (end : End) (procedure : Procedure) → procedure ≡ Recall → CanEnd end procedure → LeavesUnits end → end ≡ ends.Idle
is_idle ends.Closed procedure e can leaves = absurd (subst (CanEnd ends.Closed) e can)
is_idle ends.Idle procedure e can leaves = refl
is_idle (ends.Full what count) procedure e can leaves = absurd (subst (CanEnd (ends.Full what count)) e can)
is_idle ends.Fresh procedure e can leaves = absurd leaves
is_idle ends.More procedure e can leaves = absurd leaves
is_idle ends.Found procedure e can leaves = absurd leaves
is_idle ends.Stopped procedure e can leaves = absurd leaves
is_idle ends.Cancelled procedure e can leaves = absurd leaves

-- where no model refutes, no fact does
none_of_facts : (ask : Inquiry) (n : ℕ) (facts : List Fact) (models : List (ℕ × Fact)) → 1 ≤ n → ModelsFrom recording.model_of ask.group 0 n facts models → AllByRecursion (λ (found : ℕ × Fact). RefutesNoGoal ask found.1) models → AllByRecursion (RefutesNoGoal ask) facts
none_of_facts ask n [] models from h none = tt
none_of_facts ask n (r ∷ facts) models from (inl h) none =
    let all = subst (AllByRecursion (λ (found : ℕ × Fact). RefutesNoGoal ask found.1)) h.3 none in (all.0, none_of_facts ask (n + 1) facts h.2 (omega arith) h.4 all.1)
none_of_facts ask n (r ∷ facts) models from (inr (inl low, h)) none = absurd (omega arith)
none_of_facts ask n (r ∷ facts) models from (inr (inr other, h)) none = (λ model is. absurd (other (ap recording.model_of is)), none_of_facts ask (n + 1) facts models (omega arith) h none)

all_taken : {X : Type 0} (n : ℕ) (xs : List X) → drop n xs ≡ [] → take n xs ≡ xs
all_taken zero xs e = sym e
all_taken (suc n) [] e = refl
all_taken (suc n) (x ∷ xs) e = ap (λ zs. x ∷ zs) (all_taken n xs e)

-- an idle search with allowed units that waits beside no model has read all, and none refutes
all_were_read : (state : State) (y : SearchState) (search : Search) → y.search ≡ search → Reads search → y.end ≡ ends.Idle → 1 ≤ y.allowed → is_open search ≡ true → (Settled key_of state.log (ask_of y.search) → ⊥) → (Idles state y → ⊥) → ReadsOf state.log search y.read → AllByRecursion (RefutesNoGoal (ask_of search)) (facts_of state.log)
all_were_read state y (plain search) is reads idle some opened unsettled rests h = absurd reads
all_were_read state y (completing search) is reads idle some opened unsettled rests h = absurd reads
all_were_read state y (enumerating search) is reads idle some opened unsettled rests h = absurd reads
all_were_read state y (reducing search) is reads idle some opened unsettled rests h = absurd reads
all_were_read state y (recalling search) is reads idle some opened unsettled rests h = by_rest (drop search.read h.models) refl
  where
    by_rest : (rest : List (ℕ × Fact)) → drop search.read h.models ≡ rest → AllByRecursion (RefutesNoGoal search.ask) (facts_of state.log)
    by_rest [] e =
        none_of_facts search.ask 1 (facts_of state.log) h.models (omega arith) h.are_models (subst (AllByRecursion (λ (found : ℕ × Fact). RefutesNoGoal search.ask found.1)) (all_taken search.read h.models e) (h.none_refutes opened))
    by_rest (found ∷ rest) e = absurd (rests (record {
      reads = subst Reads (sym is) tt;
      idle = idle;
      allowed = some;
      unsettled = unsettled;
      number = found.0;
      model = found.1;
      rest = rest;
      unread = subst (λ (s : Search). ModelsAbove recording.model_of state.log (ask_of s).group y.read ((found.0, found.1) ∷ rest)) (sym is)
          (subst (λ (models : List (ℕ × Fact)). ModelsAbove recording.model_of state.log search.ask.group y.read models) e (h.others_unread opened));
    }))

-- where a run leaves a recall with units left and no verdict
left_by_recall : (bound : Option ℕ) (state : State) (x y : SearchState) → CoreTo bound state.log x y → StandsBeside state.log (row_taken true y) → (Idles state y → ⊥) → Reads x.search → (Settled key_of state.log (ask_of x.search) → ⊥) → y.account.spent < reach bound x → AllByRecursion (RefutesNoGoal (ask_of x.search)) (facts_of state.log)
left_by_recall bound state x y core stands rests reads unsettled less =
    let by_recall = readers_by_recall y.search (core.reads reads) in
    let reached = core.reached in
    let some : 1 ≤ y.allowed = omega arith in
    elim (core.ends unsettled) [
      | inl all ↦ absurd (omega (arith, all))
      | inr leaves ↦
          (let idle = is_idle y.end (procedure_of y.search) by_recall stands.end.can_end leaves in
          subst (λ (a : Inquiry). AllByRecursion (RefutesNoGoal a) (facts_of state.log)) core.ask
          (all_were_read state y y.search refl (core.reads reads) idle some (subst (λ (end : End). IsOpenAt end y.search) idle stands.end.openness)
          (λ s. unsettled (subst (Settled key_of state.log) core.ask s)) rests stands.in_order))
    ]

none_waits : (plan : Plan) (params : Params) (old : State) (states : List State) (new : State) → FurtherBy plan params old states new → AllByRecursion (λ search. Idles new search → ⊥) new.searches
none_waits plan params old [] new h = subst (λ (s : State). AllByRecursion (λ search. Idles s search → ⊥) s.searches) (sym h.1) h.0
none_waits plan params old (next ∷ states) new h = none_waits plan params next states new h.4

-- settling leaves a search without a verdict as it is
settled_spent : (state : State) (y z : SearchState) → IsSettledTo state y z → (Settled key_of state.log (ask_of y.search) → ⊥) → z.account.spent ≡ y.account.spent
settled_spent state y z (is_found s k e) unsettled = absurd (unsettled s)
settled_spent state y z (is_stopped s k e) unsettled = absurd (unsettled s)
settled_spent state y z (stays s e) unsettled = ap (λ (v : SearchState). v.account.spent) e

pub nothing_unread_is_left : (plan : Plan) (params : Params) (bound : Option ℕ) (old new : State) → StateOk plan params.workers old → RunStep plan params bound old new → (place : ℕ) (search after : SearchState) → slice_get old.searches place ≡ Some search → slice_get new.searches place ≡ Some after →
    Reads search.search → (Settled key_of new.log (ask_of search.search) → ⊥) → after.account.spent < reach bound search → AllByRecursion (RefutesNoGoal (ask_of search.search)) (facts_of new.log)
nothing_unread_is_left plan params bound old new ok step place search after there here reads unsettled less =
    let core = run_comes plan params bound old new step ok in
    let stands = ran_on_ok plan params.workers params bound old new refl step ok in
    let y = pair_at (CoreTo bound step.ran_on.log) old.searches step.ran_on.searches place search core.searches there in
    let z = pair_at (IsSettledTo step.ran_on) step.ran_on.searches step.settled.searches place y.0 step.settle.searches y.1 in
    let new_is : new ≡ step.settled = step.sides in
    let log : new.log ≡ step.ran_on.log = ap (λ (s : State). s.log) new_is ∙ ap (λ (s : State). s.log) step.settle.new_is in
    let unsettled_there : Settled key_of step.ran_on.log (ask_of search.search) → ⊥ = (λ s. unsettled (subst (λ (l : List (Entry Fact)). Settled key_of l (ask_of search.search)) (sym log) s)) in
    let same_after : Some z.0 ≡ Some after = sym z.1 ∙ ap (λ (s : State). slice_get s.searches place) (sym new_is) ∙ here in
    let is_after : z.0 ≡ after = cc same_after in
    let spent : after.account.spent ≡ y.0.account.spent = ap (λ (v : SearchState). v.account.spent) (sym is_after) ∙ settled_spent step.ran_on y.0 z.0 z.2 (λ s. unsettled_there (subst (Settled key_of step.ran_on.log) y.2.ask s)) in
    subst (λ (l : List (Entry Fact)). AllByRecursion (RefutesNoGoal (ask_of search.search)) (facts_of l)) (sym log)
    (left_by_recall bound step.ran_on search y.0 y.2 (all_at (λ (x : SearchState). StandsBeside step.ran_on.log (row_taken true x)) step.ran_on.searches place y.0 stands.stand y.1)
    (all_at (λ (x : SearchState). Idles step.ran_on x → ⊥) step.ran_on.searches place y.0 (none_waits plan params step.inherited_again step.further.0 step.ran_on step.further.1) y.1) reads unsettled_there (omega arith))
