-- What holds of the plans that scripts mean, and of what their questions ask.
use Rattle.std.proofs.Common.{◌≡◌, ℕ, zero, suc, ℤ, ◌+◌, ◌-◌, ◌^◌, ◌<◌, ◌≤◌, Some, List, [], ◌∷◌, map, length, refl, sym, ap, subst, ◌∙◌, arith}
use Rattle.std.specs.Prelude.{slice_get, ◌↔◌}
use Rattle.std.specs.List.{AllByRecursion, AllZip}
use Rattle.mg_words.specs.Reduction.{free_form, IsFormOf}
use Rattle.mg_words.proofs.Free.{IsReduced-free_form, IsOver-free_form, free_form-freely}
use Rattle.mg_present.specs.Presentation.{IsPresented}
use Rattle.mg_present.specs.Ask.{Inquiry, IsAsked}
use Rattle.mg_present.specs.Same.{Holds}
use Rattle.mg_questions.specs.declared.question.Question.{Question}
use Rattle.mg_questions.specs.Goals.{group_of, subgroup_of, goals_of}
use Rattle.mg_questions.specs.Asking.{IsAskOf, IsFit}
use Rattle.mg_questions.specs.Meaning.{Meaning}
use Rattle.mg_questions.proofs.Agreement.{agree}
use Rattle.mg_questions.proofs.Asked.{can_ask}
use Rattle.mg_script.specs.declared.script.ScriptLine.{ScriptLine}
use Rattle.mg_script.specs.Script.{IsScript}
use Rattle.mg_names.specs.declared.plan.TheConstants.{MOST_STEPS}
use Rattle.mg_names.specs.Plan.{Plan, PlanQuestion, AskOf}
use Rattle.mg_names.specs.IsPlan.{HasNames, IsPlan}
use Rattle.mg_names.specs.Named.{Statement}
use Rattle.mg_names.specs.Scope.{Scope, nothing}
use Rattle.mg_names.specs.Meaning.{ask_for, after}
use Rattle.mg_names.specs.Resolve.{Leads, Means, IsPlanOf}
use Rattle.mg_names.specs.Within.{IsPlanGroup, AsksFor, IsScope, IsSized, IsReadLine}
use Rattle.mg_names.proofs.Members.{all_get, zip_left}
use Rattle.mg_names.proofs.Scopes.{nothing_is, after_keeps}
use Rattle.mg_names.proofs.Lines.{all_read, script_few}
use Rattle.mg_names.proofs.Trees.{one_named}
use Rattle.mg_names.proofs.Asks.{asks_once}

leads_within : (n : ℕ) (start : Scope) (lines : List ScriptLine) (end : Scope) → AllByRecursion IsReadLine lines → IsScope n start → Leads start lines end → IsScope (n + length lines) end
leads_within n start [] end read is leads = subst (λ (k : ℕ). IsScope k end) (sym (omega arith)) (subst (λ (s : Scope). IsScope n s) (sym leads) is)
leads_within n start (line ∷ lines) end read is leads =
    let same : read.0.statement ≡ leads.0 = one_named line read.0.statement leads.0 read.0.is_named leads.1 in
    let next : IsScope (suc n) (after start leads.0) = after_keeps n start line leads.0 is (subst (λ (s : Statement). IsSized s) same read.0.sized) leads.2 in
    subst (λ (k : ℕ). IsScope k end) (sym (omega arith)) (leads_within (suc n) (after start leads.0) lines end read.1 next leads.3)

pub means_within : (script : List ScriptLine) (scope : Scope) → AllByRecursion IsReadLine script → Means script scope → IsScope (length script) scope
means_within script scope read means = subst (λ (k : ℕ). IsScope k scope) (omega arith) (leads_within 0 nothing script scope read nothing_is means)

has_names : (n : ℕ) (scope : Scope) → IsScope n scope → (q : PlanQuestion) (question : Question) → AsksFor scope.plan q question → HasNames scope.plan q
has_names n scope is q question asks = record {
  group = asks.group;
  there = asks.there;
  ask = ask_for question;
  asked = asks.asked;
  named = (all_get IsPlanGroup scope.plan.groups q.group asks.group is.groups asks.there).named ∙ ap (λ g. g.generators) asks.same;
}

pub plan_within : (n : ℕ) (scope : Scope) → IsScope n scope → n ≤ MOST_STEPS → IsPlan scope.plan
plan_within n scope is few = record {
  questions = zip_left (AsksFor scope.plan) (HasNames scope.plan) (has_names n scope is) scope.plan.questions scope.questions is.questions;
  steps = is.steps;
  steps_count = omega (arith, is.few_steps, few);
  pairs = scope.searches;
  pairs_count = is.searches;
  pairs_of = is.granted;
}

pub script_within : (bytes : List ℕ) (script : List ScriptLine) (plan : Plan) → length bytes < 2 ^ 32 - 1 → IsScript bytes script → IsPlanOf script plan → IsPlan plan
script_within bytes script plan short is means =
    let few = script_few bytes script is in
    subst IsPlan (sym means.2) (plan_within (length script) means.0 (means_within script means.0 (all_read bytes script is) means.1) (omega (arith, few, short)))

-- the Ask of a question
form_of : (w : List ℤ) → IsFormOf w (free_form w)
form_of w = record { reduced = IsReduced-free_form w; over = λ m h. IsOver-free_form m w h; equal = λ m h. free_form-freely m w h }

forms_of : (ws : List (List ℤ)) → AllZip IsFormOf ws (map free_form ws)
forms_of [] = tt
forms_of (w ∷ ws) = (form_of w, forms_of ws)

pub ask_is : (question : Question) → IsAskOf question (ask_for question)
ask_is question = record { group = refl; subgroup = refl; goals = forms_of (goals_of question) }

zip_back : {X Y : Type 0} (R : X → Y → Type 0) (xs : List X) (ys : List Y) (i : ℕ) (y : Y) → AllZip R xs ys → slice_get ys i ≡ Some y → (x : X) × (slice_get xs i ≡ Some x) × R x y
zip_back R xs [] i y h e = absurd cc
zip_back R [] (b ∷ ys) i y h e = absurd h
zip_back R (a ∷ xs) (b ∷ ys) zero y h e = let same : b ≡ y = cc in (a, refl, subst (λ z. R a z) same h.0)
zip_back R (a ∷ xs) (b ∷ ys) (suc i) y h e = zip_back R xs ys i y h.1 e

pub question_asks : (bytes : List ℕ) (script : List ScriptLine) (scope : Scope) (place : ℕ) (question : Question) → IsScript bytes script → Means script scope → slice_get scope.questions place ≡ Some question
    → (ask : Inquiry) × AskOf scope.plan place ask × IsAskOf question ask × IsFit question
question_asks bytes script scope place question is means there =
    let within = means_within script scope (all_read bytes script is) means in
    let z = zip_back (AsksFor scope.plan) scope.plan.questions scope.questions place question within.questions there in
    let asks : AsksFor scope.plan z.0 question = z.2 in
    (ask_for question, (z.0, z.1, asks.asked), ask_is question, asks.fit)

pub question_means : (bytes : List ℕ) (script : List ScriptLine) (scope : Scope) (place : ℕ) (question : Question) (ask : Inquiry) → IsScript bytes script → Means script scope → slice_get scope.questions place ≡ Some question → AskOf scope.plan place ask
    → Meaning question ↔ Holds ask
question_means bytes script scope place question ask is means there asked =
    let h = question_asks bytes script scope place question is means there in
    let same : h.0 ≡ ask = asks_once scope.plan place h.0 ask h.1 asked in
    subst (λ (a : Inquiry). Meaning question ↔ Holds a) same (agree question h.0 h.3 h.2)

-- the Ask of a question of a plan is an Ask
pub question_is_asked : (bytes : List ℕ) (script : List ScriptLine) (scope : Scope) (place : ℕ) (question : Question) (ask : Inquiry) → IsScript bytes script → Means script scope
    → slice_get scope.questions place ≡ Some question → AskOf scope.plan place ask → IsAsked ask
question_is_asked bytes script scope place question ask is means there asked =
    let within = means_within script scope (all_read bytes script is) means in
    let z = zip_back (AsksFor scope.plan) scope.plan.questions scope.questions place question within.questions there in
    let asks : AsksFor scope.plan z.0 question = z.2 in
    let presented : IsPresented asks.group.group = (all_get IsPlanGroup scope.plan.groups z.0.group asks.group within.groups asks.there).presented in
    let made : IsAsked (ask_for question) = record {
      group = subst IsPresented asks.same presented;
      words = can_ask question (group_of question) (subgroup_of question) (map free_form (goals_of question)) asks.fit asks.allowed refl refl (forms_of (goals_of question));
    } in
    subst IsAsked (asks_once scope.plan place (ask_for question) ask (z.0, z.1, asks.asked) asked) made
