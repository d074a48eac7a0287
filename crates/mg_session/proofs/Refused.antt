-- Steps that are refused.
use Rattle.std.proofs.Common.{◌≡◌, ℕ, ◌+◌, ◌<◌, List, ◌∷◌, subst, arith, inl, inr}
use Rattle.std.specs.List.{AllByRecursion}
use Rattle.mg_ledger.specs.declared.ledger.TheConstants.{MOST_FUNDED}
use Rattle.mg_words.specs.declared.procedure.Procedure.{Procedure}
use Rattle.mg_names.specs.Plan.{Plan, fund, grant, cancel}
use Rattle.mg_report.specs.Refusals.{fund_refused, grant_refused, cancel_refused}
use Rattle.mg_session.specs.State.{State, SearchState, Params, IsOf}
use Rattle.mg_session.specs.Session.{IsAbsent, IsThere, After, gives_back, is_refused}
use Rattle.mg_session.specs.Output.{TextOf}
use Rattle.mg_session.proofs.Lists.{all-back}

pub refused_fund : (plan : Plan) (params : Params) (units : ℕ) (old new : State) (shown shown' text : List ℕ) → MOST_FUNDED < old.funded + units → After plan params (fund units) old new → TextOf plan params shown (fund units) old text shown' →
    (new ≡ old) × (text ≡ fund_refused old.funded)
refused_fund plan params units old new shown shown' text over (inl h) said = let low = h.0 in absurd (omega arith)
refused_fund plan params units old new shown shown' text over (inr h) (same, inl taken) = let low = taken.0 in absurd (omega arith)
refused_fund plan params units old new shown shown' text over (inr h) (same, inr refused) = (h.1, refused.1)

pub refused_grant : (plan : Plan) (params : Params) (question : ℕ) (procedure : Procedure) (units : ℕ) (old new : State) (shown shown' text : List ℕ) → old.purse < units → After plan params (grant question procedure units) old new →
    TextOf plan params shown (grant question procedure units) old text shown' → (new ≡ old) × (text ≡ grant_refused old.purse)
refused_grant plan params question procedure units old new shown shown' text few (inl h) said = let low = h.0 in absurd (omega arith)
refused_grant plan params question procedure units old new shown shown' text few (inr h) (same, inl taken) = let low = taken.0 in absurd (omega arith)
refused_grant plan params question procedure units old new shown shown' text few (inr h) (same, inr refused) = (h.1, refused.1)

not_there : (question : ℕ) (procedure : Procedure) (state : State) (before after : List SearchState) (x : SearchState) → IsAbsent state question procedure → IsThere state question procedure before x after → ⊥
not_there question procedure state before after x absent there =
    (all-back (λ (y : SearchState). IsOf question procedure y → ⊥) before (x ∷ after) (subst (AllByRecursion (λ (y : SearchState). IsOf question procedure y → ⊥)) there.place absent)).0 there.is_of

pub refused_cancel : (plan : Plan) (params : Params) (question : ℕ) (procedure : Procedure) (old new : State) (shown shown' text : List ℕ) → IsAbsent old question procedure → After plan params (cancel question procedure) old new →
    TextOf plan params shown (cancel question procedure) old text shown' → (new ≡ old) × (text ≡ cancel_refused)
refused_cancel plan params question procedure old new shown shown' text absent (gives_back before after x there e) said = absurd (not_there question procedure old before after x absent there)
refused_cancel plan params question procedure old new shown shown' text absent (is_refused none e) (same, inl taken) = absurd (taken.0 absent)
refused_cancel plan params question procedure old new shown shown' text absent (is_refused none e) (same, inr refused) = (e, refused.1)
