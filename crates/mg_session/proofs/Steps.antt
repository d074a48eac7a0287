-- Each state of a session leads to the next by the step between them.
use Rattle.std.proofs.Common.{◌≡◌, ℕ, zero, suc, ◌+◌, List, [], ◌∷◌, subst, arith}
use Rattle.std.specs.Prelude.{Some, slice_get}
use Rattle.mg_names.specs.Plan.{Plan, Step}
use Rattle.mg_session.specs.State.{State, Params}
use Rattle.mg_session.specs.Session.{After, Continues, Session}

continues_at : (plan : Plan) (params : Params) (state : State) (steps : List Step) (later : List State) → Continues plan params state steps later → (i : ℕ) (step : Step) (old new : State) → slice_get steps i ≡ Some step → slice_get (state ∷ later) i ≡ Some old → slice_get later i ≡ Some new → After plan params step old new
continues_at plan params state [] [] h i step old new stepped before after = absurd (cc stepped)
continues_at plan params state [] (next ∷ later) h i step old new stepped before after = absurd (cc h)
continues_at plan params state (first ∷ steps) [] h i step old new stepped before after = absurd h
continues_at plan params state (first ∷ steps) (next ∷ later) h zero step old new stepped before after =
    let same_step : first ≡ step = cc stepped in
    let same_old : state ≡ old = cc before in
    let same_new : next ≡ new = cc after in
    subst (λ (s : Step). After plan params s old new) same_step (subst (λ (s : State). After plan params first s new) same_old (subst (After plan params first state) same_new h.0))
continues_at plan params state (first ∷ steps) (next ∷ later) h (suc i) step old new stepped before after = continues_at plan params next steps later h.1 i step old new stepped before after

pub step_at : (plan : Plan) (params : Params) (states : List State) → Session plan params states → (i : ℕ) (step : Step) (old new : State) → slice_get plan.steps i ≡ Some step → slice_get states i ≡ Some old → slice_get states (i + 1) ≡ Some new → After plan params step old new
step_at plan params [] h i step old new stepped before after = absurd h
step_at plan params (state ∷ later) h i step old new stepped before after =
    let next : i + 1 ≡ suc i = omega arith in
    continues_at plan params state plan.steps later h.1 i step old new stepped before (subst (λ n. slice_get (state ∷ later) n ≡ Some new) next after)
