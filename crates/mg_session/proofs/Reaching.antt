-- What a search has a verdict for once it may spend as many units as its first accepted number, and what it shows.
use Rattle.std.proofs.Common.{◌≡◌, ℕ, zero, suc, ◌≤◌, ◌⊎◌, true, false, List, [], ◌∷◌, refl, sym, subst, arith, inl, inr}
use Rattle.std.specs.Prelude.{Option, Some, slice_get}
use Rattle.mg_core.specs.declared.entries.Entry.{Entry}
use Rattle.mg_core.specs.Log.{Settled, KeeperOf}
use Rattle.mg_words.specs.declared.procedure.Procedure.{Procedure}
use Rattle.mg_words.specs.declared.procedure.Procedure.TheVariants.{Derive, Act, Residue, Rewrite, Cosets, Nielsen, Recall}
use Rattle.mg_workers.specs.declared.held.End.{End}
use Rattle.mg_workers.specs.declared.held.End.TheVariants as ends
use Rattle.mg_workers.specs.Rows.{EachPair}
use Rattle.mg_workers.proofs.Pairs.{all_at}
use Rattle.mg_numbers.specs.Plain.{NoneAmong, First}
use Rattle.mg_present.specs.Ask.{Inquiry}
use Rattle.mg_names.specs.Plan.{Plan}
use Rattle.mg_certs.specs.Claim.{Fact}
use Rattle.mg_certs.specs.Validity.{key_of}
use Rattle.mg_plain.specs.Plain.{AcceptedBy, Publishes, IsPlain}
use Rattle.mg_search.specs.Search.{Search, ask_of, procedure_of, HasPublished, TestsNumbered, is_open as goes_on}
use Rattle.mg_search.proofs.Numbered.{none_passed, published_first}
use Rattle.mg_session.specs.State.{State, SearchState, Params, row_taken}
use Rattle.mg_session.specs.Run.{RunStep}
use Rattle.mg_session.specs.StateOk.{CanEnd, EndsSo, StandsBeside, StateOk}
use Rattle.mg_session.specs.RunOk.{reach, LeavesUnits, is_settled, is_open, IsRunTo}
use Rattle.mg_session.proofs.Events.{not_both}
use Rattle.mg_session.proofs.States.{run_ok}
use Rattle.mg_session.proofs.Runs.{run_is_ok}

-- the member of the second list at the same place
pub pair_at : {X Y : Type 0} (R : X → Y → Type 0) (xs : List X) (ys : List Y) (i : ℕ) (x : X) → EachPair R xs ys → slice_get xs i ≡ Some x → (y : Y) × (slice_get ys i ≡ Some y) × R x y
pair_at R [] ys i x h there = absurd (cc there)
pair_at R (z ∷ xs) [] i x h there = absurd h
pair_at R (z ∷ xs) (y ∷ ys) zero x h there = let same : z ≡ x = cc in (y, refl, subst (λ w. R w y) same h.0)
pair_at R (z ∷ xs) (y ∷ ys) (suc i) x h there = pair_at R xs ys i x h.1 there

-- a plain search is over only with a verdict
plain_goes_on : (procedure : Procedure) (end : End) → IsPlain procedure → CanEnd end procedure → LeavesUnits end → ⊥
plain_goes_on Derive ends.Closed built can over = can
plain_goes_on Derive ends.Idle built can over = can
plain_goes_on Derive (ends.Full what count) built can over = can
plain_goes_on Derive ends.Fresh built can over = over
plain_goes_on Derive ends.More built can over = over
plain_goes_on Derive ends.Found built can over = over
plain_goes_on Derive ends.Stopped built can over = over
plain_goes_on Derive ends.Cancelled built can over = over
plain_goes_on Act ends.Closed built can over = can
plain_goes_on Act ends.Idle built can over = can
plain_goes_on Act (ends.Full what count) built can over = can
plain_goes_on Act ends.Fresh built can over = over
plain_goes_on Act ends.More built can over = over
plain_goes_on Act ends.Found built can over = over
plain_goes_on Act ends.Stopped built can over = over
plain_goes_on Act ends.Cancelled built can over = over
plain_goes_on Residue ends.Closed built can over = can
plain_goes_on Residue ends.Idle built can over = can
plain_goes_on Residue (ends.Full what count) built can over = can
plain_goes_on Residue ends.Fresh built can over = over
plain_goes_on Residue ends.More built can over = over
plain_goes_on Residue ends.Found built can over = over
plain_goes_on Residue ends.Stopped built can over = over
plain_goes_on Residue ends.Cancelled built can over = over
plain_goes_on Rewrite end built can over = built
plain_goes_on Cosets end built can over = built
plain_goes_on Nielsen end built can over = built
plain_goes_on Recall end built can over = built

accepted_plain : (procedure : Procedure) (ask : Inquiry) (n : ℕ) → AcceptedBy procedure ask n → IsPlain procedure
accepted_plain Derive ask n h = tt
accepted_plain Act ask n h = tt
accepted_plain Residue ask n h = tt
accepted_plain Rewrite ask n h = h
accepted_plain Cosets ask n h = h
accepted_plain Nielsen ask n h = h
accepted_plain Recall ask n h = h

-- a plain search of an unsettled Ask goes on
open_at : (log : List (Entry Fact)) (search : Search) (number : ℕ) (end : End) → IsPlain (procedure_of search) → (Settled key_of log (ask_of search) → ⊥) → EndsSo log search number end → goes_on search ≡ true
open_at log search number ends.Fresh built unsettled h = h.openness
open_at log search number ends.More built unsettled h = h.openness
open_at log search number ends.Idle built unsettled h = h.openness
open_at log search number ends.Cancelled built unsettled h = h.openness
open_at log search number ends.Found built unsettled h = absurd (unsettled (h.verdict tt))
open_at log search number ends.Stopped built unsettled h = absurd (unsettled (h.verdict tt))
open_at log search number ends.Closed built unsettled h = absurd (plain_goes_on (procedure_of search) ends.Closed built h.can_end tt)
open_at log search number (ends.Full what count) built unsettled h = absurd (plain_goes_on (procedure_of search) (ends.Full what count) built h.can_end tt)

-- where a run leaves a plain search: its Ask is settled, or it has spent its whole reach
pub plain_ends : (bound : Option ℕ) (log : List (Entry Fact)) (x y : SearchState) → IsPlain (procedure_of x.search) → IsRunTo bound log x y → StandsBeside log (row_taken true y) → Settled key_of log (ask_of x.search) ⊎ ((Settled key_of log (ask_of x.search) → ⊥) × (y.account.spent ≡ reach bound x))
plain_ends bound log x y built ran stands =
    elim ran.ends [
      | is_settled s held ↦ inl s
      | is_open unsettled held spent ↦ elim spent [
        | inl all ↦ inr (unsettled, all)
        | inr over ↦ absurd (plain_goes_on (procedure_of y.search) y.end (subst IsPlain (sym ran.procedure) built) stands.end.can_end over)
      ]
    ]

first_settles : (bound : Option ℕ) (log : List (Entry Fact)) (x y : SearchState) (n : ℕ) → IsRunTo bound log x y → StandsBeside log (row_taken true y) → First (AcceptedBy (procedure_of x.search) (ask_of x.search)) n → n ≤ reach bound x → Settled key_of log (ask_of x.search)
first_settles bound log x y n ran stands first within =
    let built = accepted_plain (procedure_of x.search) (ask_of x.search) n first.holds in
    elim (plain_ends bound log x y built ran stands) [
      | inl s ↦ s
      | inr h ↦
          (let unsettled : Settled key_of log (ask_of y.search) → ⊥ = (λ s. h.0 (subst (Settled key_of log) ran.ask s)) in
          let on = open_at log y.search y.number y.end (subst IsPlain (sym ran.procedure) built) unsettled stands.end in
          let holds : AcceptedBy (procedure_of y.search) (ask_of y.search) n = subst (λ (p : Procedure). AcceptedBy p (ask_of y.search) n) (sym ran.procedure) (subst (λ (a : Inquiry). AcceptedBy (procedure_of x.search) a n) (sym ran.ask) first.holds) in
          let units = stands.units in
          let spent = h.1 in
          let from = first.from in
          absurd (none_passed y.search stands.in_row on n (omega arith) (omega arith) holds))
    ]

module _ (plan : Plan) (params : Params) (bound : Option ℕ) (old new : State) (step : RunStep plan params bound old new) (ok : StateOk plan params.workers old) (i : ℕ) (x : SearchState) (there : slice_get old.searches i ≡ Some x) where
  ran_to : (y : SearchState) × (slice_get new.searches i ≡ Some y) × IsRunTo bound new.log x y
  ran_to = pair_at (IsRunTo bound new.log) old.searches new.searches i x (run_is_ok plan params bound old new step ok).searches there

  stands_there : StandsBeside new.log (row_taken true ran_to.0)
  stands_there = all_at (λ (y : SearchState). StandsBeside new.log (row_taken true y)) new.searches i ran_to.0 (run_ok plan params.workers params bound old new refl step ok).stand ran_to.1

  -- where the reach is at least the first accepted number, the Ask is settled
  pub reaches : (n : ℕ) → First (AcceptedBy (procedure_of x.search) (ask_of x.search)) n → n ≤ reach bound x → Settled key_of new.log (ask_of x.search)
  reaches n first within = first_settles bound new.log x ran_to.0 n ran_to.2 stands_there first within

  -- where the Ask isn't settled, the search has spent its reach
  pub spends_reach : IsPlain (procedure_of x.search) → (Settled key_of new.log (ask_of x.search) → ⊥) → (y : SearchState) × (slice_get new.searches i ≡ Some y) × (y.account.spent ≡ reach bound x)
  spends_reach built unsettled =
      elim (plain_ends bound new.log x ran_to.0 built ran_to.2 stands_there) [ inl s ↦ absurd (unsettled s) | inr h ↦ (ran_to.0, ran_to.1, h.1) ]

-- a search that keeps the verdict for its Ask has published what searches of its kind publish
pub keeps_published : (plan : Plan) (workers : ℕ) (state : State) (i : ℕ) (x : SearchState) (entry : Entry Fact) → StateOk plan workers state → slice_get state.searches i ≡ Some x → KeeperOf key_of state.log (ask_of x.search) entry → entry.search ≡ x.number → HasPublished x.search entry.records
keeps_published plan workers state i x entry ok there keeper same =
    (all_at (λ (y : SearchState). StandsBeside state.log (row_taken true y)) state.searches i x ok.stand there).published entry keeper same

-- a search through numbered objects that keeps the verdict for its Ask has published the object with the least number
pub keeps_first : (plan : Plan) (workers : ℕ) (state : State) (i : ℕ) (x : SearchState) (entry : Entry Fact) → StateOk plan workers state → slice_get state.searches i ≡ Some x → TestsNumbered x.search → KeeperOf key_of state.log (ask_of x.search) entry → entry.search ≡ x.number →
    (n : ℕ) × First (AcceptedBy (procedure_of x.search) (ask_of x.search)) n × Publishes (procedure_of x.search) (ask_of x.search) n entry.records
keeps_first plan workers state i x entry ok there tests keeper same =
    published_first x.search entry.records tests (keeps_published plan workers state i x entry ok there keeper same)

-- a plain search that is over has a verdict
over_settled : (log : List (Entry Fact)) (search : Search) (number : ℕ) (end : End) → IsPlain (procedure_of search) → EndsSo log search number end → goes_on search ≡ false → Settled key_of log (ask_of search)
over_settled log search number ends.Fresh built h over = absurd (not_both (goes_on search) h.openness over)
over_settled log search number ends.More built h over = absurd (not_both (goes_on search) h.openness over)
over_settled log search number ends.Idle built h over = absurd (not_both (goes_on search) h.openness over)
over_settled log search number ends.Cancelled built h over = absurd (not_both (goes_on search) h.openness over)
over_settled log search number ends.Found built h over = h.verdict tt
over_settled log search number ends.Stopped built h over = h.verdict tt
over_settled log search number ends.Closed built h over = absurd (plain_goes_on (procedure_of search) ends.Closed built h.can_end tt)
over_settled log search number (ends.Full what count) built h over = absurd (plain_goes_on (procedure_of search) (ends.Full what count) built h.can_end tt)

module _ (plan : Plan) (workers : ℕ) (state : State) (i : ℕ) (x : SearchState) (ok : StateOk plan workers state) (there : slice_get state.searches i ≡ Some x) where
  stands_at : StandsBeside state.log (row_taken true x)
  stands_at = all_at (λ (y : SearchState). StandsBeside state.log (row_taken true y)) state.searches i x ok.stand there

  pub settled_over : IsPlain (procedure_of x.search) → goes_on x.search ≡ false → Settled key_of state.log (ask_of x.search)
  settled_over built over = over_settled state.log x.search x.number x.end built stands_at.end over

  pub tested_none : goes_on x.search ≡ true → NoneAmong (AcceptedBy (procedure_of x.search) (ask_of x.search)) 0 x.account.spent
  tested_none on = subst (NoneAmong (AcceptedBy (procedure_of x.search) (ask_of x.search)) 0) stands_at.units (none_passed x.search stands_at.in_row on)
