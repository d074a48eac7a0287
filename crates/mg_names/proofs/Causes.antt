-- Causes that are found, by the tests that find them.
use Rattle.std.proofs.Common.{◌≡◌, ◌≢◌, ℕ, Bool, true, false, Option, Some, None, List, [], ◌++◌, refl, sym, ap, subst, ◌∙◌}
use Rattle.std.specs.Prelude.{if◌then◌else◌}
use Rattle.mg_lex.specs.declared.refusal.Cause.TheVariants as cause
use Rattle.mg_words.specs.declared.procedure.Procedure.{Procedure}
use Rattle.mg_present.specs.Ask.{Inquiry}
use Rattle.mg_script.specs.declared.script.ScriptLine.{ScriptLine}
use Rattle.mg_names.specs.declared.least.Fault.{Fault}
use Rattle.mg_names.specs.declared.resolver.Resolver.{Resolver}
use Rattle.mg_names.specs.Plan.{PlanQuestion, Asked, plain}
use Rattle.mg_names.specs.Meaning.{after}
use Rattle.mg_names.specs.Keeping.{Keeps, Resolved}
use Rattle.mg_names.specs.Cause.{Shown, at, applies, of_asked, not_applying, not_a_question, shown}
use Rattle.mg_names.specs.Least.{IsLeastOf, Gets, least_of}
use Rattle.mg_names.specs.Named.{Named, Statement}
use Rattle.mg_names.specs.Scope.{Scope, Object, a_group, a_word, a_subgroup, a_map, a_question}
use Rattle.mg_names.proofs.Leasts.{gets_none}

pub gets_of : (a b : List Shown) (o p : Option Shown) → a ≡ b → Gets b o p → Gets a o p
gets_of a b o p e h = subst (λ (xs : List Shown). Gets xs o p) (sym e) h

pub room_gets : (b c : Bool) (shown : List Shown) (o p : Option Shown) → b ≡ false → c ≡ true → Gets shown o p → Gets (if b then [] else if c then shown else []) o p
room_gets b c shown o p e f h =
    gets_of (if b then [] else if c then shown else []) shown o p (ap (λ (x : Bool). if x then [] else if c then shown else []) e ∙ ap (λ (x : Bool). if x then shown else []) f) h

pub unless_gets : (b : Bool) (shown : List Shown) (o p : Option Shown) → b ≡ false → Gets shown o p → Gets (if b then [] else shown) o p
unless_gets b shown o p e h = gets_of (if b then [] else shown) shown o p (ap (λ (x : Bool). if x then [] else shown) e) h

pub named_gets : (b : Bool) (shown : List Shown) (o : Option Shown) → b ≡ true → Gets (if b then [] else shown) o o
named_gets b shown o e = gets_of (if b then [] else shown) [] o o (ap (λ (x : Bool). if x then [] else shown) e) (gets_none o)

-- what is found from nothing on is the least
pub found_all : (shown : List Shown) (o : Option Shown) → Gets shown None o → IsLeastOf shown o
found_all shown o h = h [] refl

pub found_none : (shown : List Shown) (o : Option Shown) → Gets shown None o → o ≡ None → shown ≡ []
found_none shown o h e = subst (λ (p : Option Shown). IsLeastOf shown p) e (found_all shown o h)

-- a name that shows no cause stands for a question
pub question_there : (n : Named) (found : Option Object) (others : List Shown) → not_a_question n found ++ others ≡ [] → ((q : ℕ) → found ≢ Some (a_question q)) → ⊥
question_there n None others e other = cc
question_there n (Some (a_group k)) others e other = cc
question_there n (Some (a_word k w)) others e other = cc
question_there n (Some (a_subgroup k ws)) others e other = cc
question_there n (Some (a_map j k ws)) others e other = cc
question_there n (Some (a_question q)) others e other = other q refl

not_applying_head : (p : Procedure) (place : ℕ) (a : Asked) (b : Bool) → ((ask : Inquiry) → a ≡ plain ask → b ≡ applies p ask) → b ≡ false → of_asked p place a ≡ at cause.ProcedureDoesNotApply place
not_applying_head p place (plain ask) b says e = ap (λ (x : Bool). if x then [] else at cause.ProcedureDoesNotApply place) (sym (says ask refl) ∙ e)

pub not_applying_gets : (p : Procedure) (place : ℕ) (o : Option PlanQuestion) (q : PlanQuestion) (b : Bool) → o ≡ Some q → ((ask : Inquiry) → q.asked ≡ plain ask → b ≡ applies p ask) → b ≡ false
    → (before after : Option Shown) → Gets (at cause.ProcedureDoesNotApply place) before after → Gets (not_applying p place o) before after
not_applying_gets p place o q b there says e before after h =
    gets_of (not_applying p place o) (at cause.ProcedureDoesNotApply place) before after (ap (not_applying p place) there ∙ not_applying_head p place q.asked b says e) h

-- a statement that shows a cause, and one that shows none
pub refused : (scope : Scope) (line : ScriptLine) (s : Statement) (o : Option Shown) (result : Option Fault) (f : Fault) (new : Resolver) → IsLeastOf (shown scope line s) o → least_of result ≡ o → result ≡ Some f → Resolved scope line s (least_of (Some f)) new
refused scope line s o result f new least e is = record {
  shows = subst (λ (p : Option Shown). IsLeastOf (shown scope line s) p) (sym e ∙ ap least_of is) least;
  keeps = λ none. absurd cc;
}

pub accepted : (scope : Scope) (line : ScriptLine) (s : Statement) (o : Option Shown) (result : Option Fault) (new : Resolver) → IsLeastOf (shown scope line s) o → least_of result ≡ o → result ≡ None → Keeps (after scope s) new → Resolved scope line s (least_of None) new
accepted scope line s o result new least e is keeps = record {
  shows = subst (λ (p : Option Shown). IsLeastOf (shown scope line s) p) (sym e ∙ ap least_of is) least;
  keeps = λ none. keeps;
}

-- nothing is found where nothing is answered
pub none_is : (o : Option Shown) (result : Option Fault) → least_of result ≡ o → ((f : Fault) → result ≡ Some f → ⊥) → (o ≡ None) × (result ≡ None)
none_is o None e other = (sym e, refl)
none_is o (Some f) e other = absurd (other f refl)
