-- True questions have a first accepted number, and a verdict after each run in which a search reaches it.
use Rattle.std.proofs.Common.{◌≡◌, ℕ, List, [], ◌∷◌, ◌++◌, length, refl, sym, subst}
use Rattle.std.specs.Prelude.{Some, slice_get}
use Rattle.mg_core.specs.Log.{Settled}
use Rattle.mg_words.specs.declared.procedure.Procedure.{Procedure}
use Rattle.mg_words.specs.declared.procedure.Procedure.TheVariants.{Derive}
use Rattle.mg_workers.proofs.Pairs.{all_at}
use Rattle.mg_numbers.specs.Plain.{First}
use Rattle.mg_present.specs.Ask.{Inquiry}
use Rattle.mg_derive.specs.Acceptance.{AcceptedAt}
use Rattle.mg_derive.proofs.Decided.{first_of_true}
use Rattle.mg_questions.specs.declared.question.Question.{Question}
use Rattle.mg_questions.specs.Meaning.{Meaning}
use Rattle.mg_names.specs.Plan.{Plan, AskOf, run}
use Rattle.mg_names.proofs.Asks.{asks_once}
use Rattle.mg_names.proofs.Plans.{question_means, question_is_asked}
use Rattle.mg_certs.specs.Validity.{key_of}
use Rattle.mg_plain.specs.Plain.{AcceptedBy}
use Rattle.mg_search.specs.Search.{ask_of, procedure_of}
use Rattle.mg_session.specs.State.{State, SearchState}
use Rattle.mg_session.specs.StateOk.{IsAsked, StateOk}
use Rattle.mg_command.specs.declared.command.PolicyName.{PolicyName}
use Rattle.mg_top.specs.Command.{params_of}
use Rattle.mg_session.specs.Scripts.{IsOutput}
use Rattle.mg_session.proofs.Steps.{step_at}
use Rattle.mg_session.proofs.Reaching.{reaches}
use Rattle.mg_top.specs.Settling.{IsRunReaching}
use Rattle.mg_top.proofs.Answers.{ok_at}

between : {X : Type 0} (before : List X) (x : X) (after : List X) → slice_get (before ++ x ∷ after) (length before) ≡ Some x
between [] x after = refl
between (y ∷ before) x after = between before x after

-- the first accepted number of what a search asks by `derive`
abbrev FirstBy : Procedure → Inquiry → ℕ → Type 0
FirstBy procedure ask n = First (AcceptedBy procedure ask) n

module _ (workers : ℕ) (policy : PolicyName) (script output : List ℕ) (legal : IsOutput script (params_of workers policy) output) where
  pub first_number : (place : ℕ) (question : Question) (ask : Inquiry) → slice_get legal.scope.questions place ≡ Some question → AskOf legal.scope.plan place ask
      → Meaning question → (n : ℕ) × First (AcceptedAt ask) n
  first_number place question ask there asked meaning =
      let resolves = legal.resolves in
      first_of_true ask (question_is_asked script resolves.script legal.scope place question ask resolves.read resolves.means there asked)
      ((question_means script resolves.script legal.scope place question ask resolves.read resolves.means there asked).0 meaning)

  pub settled_from : (place : ℕ) (ask : Inquiry) (n step : ℕ) (new : State) → AskOf legal.scope.plan place ask → First (AcceptedAt ask) n
      → IsRunReaching legal.scope.plan legal.prints.states place n step new → Settled key_of new.log ask
  settled_from place ask n step new asked first r =
      let plan : Plan = legal.scope.plan in
      let states : List State = legal.prints.states in
      let ok : StateOk plan workers r.old = ok_at workers policy script output legal step r.old r.from in
      let at : slice_get r.old.searches (length r.before) ≡ Some r.search =
      subst (λ (xs : List SearchState). slice_get xs (length r.before) ≡ Some r.search) (sym r.there.place) (between r.before r.search r.after) in
      let own : AskOf plan r.search.question (ask_of r.search.search) = (all_at (IsAsked plan) r.old.searches (length r.before) r.search ok.asked at).asked in
      let own_here : AskOf plan place (ask_of r.search.search) = subst (λ (p : ℕ). AskOf plan p (ask_of r.search.search)) r.there.is_of.of_question own in
      let same : ask ≡ ask_of r.search.search = asks_once plan place ask (ask_of r.search.search) asked own_here in
      let by_derive : FirstBy Derive (ask_of r.search.search) n = subst (λ (a : Inquiry). First (AcceptedAt a) n) same first in
      let first_here : FirstBy (procedure_of r.search.search) (ask_of r.search.search) n =
      subst (λ (p : Procedure). FirstBy p (ask_of r.search.search) n) (sym r.there.is_of.of_procedure) by_derive in
      subst (λ (a : Inquiry). Settled key_of new.log a) (sym same)
      (reaches plan (params_of workers policy) r.bound r.old new (step_at plan (params_of workers policy) states legal.prints.session step (run r.bound) r.old new r.runs r.from r.to) ok
      (length r.before) r.search at n first_here r.within)
