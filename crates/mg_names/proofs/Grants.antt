-- What grants and cancels bring.
use Rattle.std.proofs.Common.{◌≡◌, ◌≢◌, ℕ, ◌<◌, Option, Some, None, List, [], ◌∷◌, ◌++◌, length, refl, sym, ap, subst, ◌∙◌}
use Rattle.std.specs.Prelude.{slice_get}
use Rattle.std.proofs.lemmas.Option.{slice_get_within}
use Rattle.mg_words.specs.declared.procedure.Procedure.{Procedure}
use Rattle.mg_script.specs.declared.script.ScriptLine.{ScriptLine}
use Rattle.mg_script.specs.Statement.{procedure_keyword}
use Rattle.mg_names.specs.declared.resolver.Resolver.{Resolver}
use Rattle.mg_names.specs.Plan.{Plan, PlanQuestion}
use Rattle.mg_names.specs.Plan as steps
use Rattle.mg_names.specs.Named.{Named, grant, cancel}
use Rattle.mg_names.specs.Scope.{Scope, Object, a_group, a_word, a_subgroup, a_map, a_question, Declared, lookup}
use Rattle.mg_names.specs.Sign.{Sign, a_name, the_keyword}
use Rattle.mg_names.specs.Meaning.{stepping, grants, cancels, after}
use Rattle.mg_names.specs.Cause.{Shown, not_a_question, too_many_searches, not_applying_to, third_place, shown}
use Rattle.mg_names.specs.Keeping.{Keeps, IsSound}
use Rattle.mg_names.specs.Least.{IsLeastOf, Gets}
use Rattle.mg_names.proofs.Leasts.{gets_none, gets_both}
use Rattle.mg_names.proofs.Members.{none_left, none_right}
use Rattle.mg_names.proofs.Scopes.{name_object}
use Rattle.mg_names.proofs.Causes.{gets_of, found_all, found_none, question_there}

-- a question that a name stands for is there
pub question_sound : (r : Resolver) → IsSound r → (text : List ℕ) (k : ℕ) → lookup r.names text ≡ Some (a_question k) → (q : PlanQuestion) × (slice_get r.plan.questions k ≡ Some q)
question_sound r sound text k e =
    let h = name_object sound.lines sound.scope sound.within text (a_question k) (subst (λ (ds : List Declared). lookup ds text ≡ Some (a_question k)) sound.keeps.names e) in
    (h.0, subst (λ (p : Plan). slice_get p.questions k ≡ Some h.0) (sym sound.keeps.plan) h.1)

pub question_within : (r : Resolver) → IsSound r → (text : List ℕ) (k : ℕ) → lookup r.names text ≡ Some (a_question k) → k < length r.plan.questions
question_within r sound text k e = let q = question_sound r sound text k e in slice_get_within r.plan.questions k q.0 q.1

abbrev pub cancel_causes : Scope → Named → Procedure → ℕ → List Shown
cancel_causes scope n p place = not_a_question n (lookup scope.names n.text) ++ not_applying_to scope p place (lookup scope.names n.text)

abbrev pub grant_causes : Scope → Named → Procedure → ℕ → List Shown
grant_causes scope n p place =
    not_a_question n (lookup scope.names n.text) ++ (too_many_searches scope p place (lookup scope.names n.text) ++ not_applying_to scope p place (lookup scope.names n.text))

no_applying : (scope : Scope) (p : Procedure) (place : ℕ) (found : Option Object) → ((q : ℕ) → found ≢ Some (a_question q)) → not_applying_to scope p place found ≡ []
no_applying scope p place None other = refl
no_applying scope p place (Some (a_group k)) other = refl
no_applying scope p place (Some (a_word k w)) other = refl
no_applying scope p place (Some (a_subgroup k ws)) other = refl
no_applying scope p place (Some (a_map j k ws)) other = refl
no_applying scope p place (Some (a_question q)) other = absurd (other q refl)

no_searches : (scope : Scope) (p : Procedure) (place : ℕ) (found : Option Object) → ((q : ℕ) → found ≢ Some (a_question q)) → too_many_searches scope p place found ≡ []
no_searches scope p place None other = refl
no_searches scope p place (Some (a_group k)) other = refl
no_searches scope p place (Some (a_word k w)) other = refl
no_searches scope p place (Some (a_subgroup k ws)) other = refl
no_searches scope p place (Some (a_map j k ws)) other = refl
no_searches scope p place (Some (a_question q)) other = absurd (other q refl)

-- of no question nothing more is asked
pub cancel_refused : (scope : Scope) (ds : List Declared) (n : Named) (p : Procedure) (place : ℕ) (o o' : Option Shown) → ds ≡ scope.names → Gets (not_a_question n (lookup ds n.text)) o o' → ((q : ℕ) → lookup ds n.text ≢ Some (a_question q))
    → Gets (cancel_causes scope n p place) o o'
cancel_refused scope ds n p place o o' e h other =
    let same : lookup ds n.text ≡ lookup scope.names n.text = ap (λ (xs : List Declared). lookup xs n.text) e in
    let first : Gets (not_a_question n (lookup scope.names n.text)) o o' = subst (λ (f : Option Object). Gets (not_a_question n f) o o') same h in
    let none : not_applying_to scope p place (lookup scope.names n.text) ≡ [] =
    no_applying scope p place (lookup scope.names n.text) (λ q f. other q (same ∙ f)) in
    gets_both (not_a_question n (lookup scope.names n.text)) (not_applying_to scope p place (lookup scope.names n.text)) o o' o' first (gets_of _ [] o' o' none (gets_none o'))

pub grant_refused : (scope : Scope) (ds : List Declared) (n : Named) (p : Procedure) (place : ℕ) (o o' : Option Shown) → ds ≡ scope.names → Gets (not_a_question n (lookup ds n.text)) o o' → ((q : ℕ) → lookup ds n.text ≢ Some (a_question q))
    → Gets (grant_causes scope n p place) o o'
grant_refused scope ds n p place o o' e h other =
    let found : Option Object = lookup scope.names n.text in
    let same : lookup ds n.text ≡ found = ap (λ (xs : List Declared). lookup xs n.text) e in
    let first : Gets (not_a_question n found) o o' = subst (λ (f : Option Object). Gets (not_a_question n f) o o') same h in
    let none : too_many_searches scope p place found ++ not_applying_to scope p place found ≡ [] =
    ap (λ (xs : List Shown). xs ++ not_applying_to scope p place found) (no_searches scope p place found (λ q f. other q (same ∙ f))) ∙ no_applying scope p place found (λ q f. other q (same ∙ f)) in
    gets_both (not_a_question n found) (too_many_searches scope p place found ++ not_applying_to scope p place found) o o' o' first (gets_of _ [] o' o' none (gets_none o'))

-- of a question it is
pub cancel_gets : (scope : Scope) (ds : List Declared) (n : Named) (p : Procedure) (place k : ℕ) (o o1 o2 : Option Shown) → ds ≡ scope.names → lookup ds n.text ≡ Some (a_question k) → Gets (not_a_question n (lookup ds n.text)) o o1
    → Gets (not_applying_to scope p place (Some (a_question k))) o1 o2 → Gets (cancel_causes scope n p place) o o2
cancel_gets scope ds n p place k o o1 o2 e there h g =
    let same : lookup ds n.text ≡ lookup scope.names n.text = ap (λ (xs : List Declared). lookup xs n.text) e in
    let here : Some (a_question k) ≡ lookup scope.names n.text = sym there ∙ same in
    gets_both (not_a_question n (lookup scope.names n.text)) (not_applying_to scope p place (lookup scope.names n.text)) o o1 o2
    (subst (λ (f : Option Object). Gets (not_a_question n f) o o1) same h) (subst (λ (f : Option Object). Gets (not_applying_to scope p place f) o1 o2) here g)

pub grant_gets : (scope : Scope) (ds : List Declared) (n : Named) (p : Procedure) (place k : ℕ) (o o1 o2 o3 : Option Shown) → ds ≡ scope.names → lookup ds n.text ≡ Some (a_question k) → Gets (not_a_question n (lookup ds n.text)) o o1
    → Gets (too_many_searches scope p place (Some (a_question k))) o1 o2 → Gets (not_applying_to scope p place (Some (a_question k))) o2 o3 → Gets (grant_causes scope n p place) o o3
grant_gets scope ds n p place k o o1 o2 o3 e there h f g =
    let found : Option Object = lookup scope.names n.text in
    let same : lookup ds n.text ≡ found = ap (λ (xs : List Declared). lookup xs n.text) e in
    let here : Some (a_question k) ≡ found = sym there ∙ same in
    gets_both (not_a_question n found) (too_many_searches scope p place found ++ not_applying_to scope p place found) o o1 o3
    (subst (λ (x : Option Object). Gets (not_a_question n x) o o1) same h)
    (gets_both (too_many_searches scope p place found) (not_applying_to scope p place found) o1 o2 o3
    (subst (λ (x : Option Object). Gets (too_many_searches scope p place x) o1 o2) here f) (subst (λ (x : Option Object). Gets (not_applying_to scope p place x) o2 o3) here g))

-- what is read of the line

pub head : (old c1 c2 : List Sign) (n m : Named) (p r : Procedure) (rest : List Sign) → old ≡ a_name m ∷ c1 → old ≡ a_name n ∷ the_keyword (procedure_keyword p) ∷ rest
    → ((q : Procedure) (tail : List Sign) → c1 ≡ the_keyword (procedure_keyword q) ∷ tail → (r ≡ q) × (c2 ≡ tail)) → (m ≡ n) × (r ≡ p) × (c2 ≡ rest)
head old c1 c2 n m p r rest e f reads =
    let names : m ≡ n = cc in
    let tails : c1 ≡ the_keyword (procedure_keyword p) ∷ rest = cc in
    let h = reads p rest tails in
    (names, h.0, h.1)

pub cancel_least : (scope : Scope) (line : ScriptLine) (n m : Named) (p r : Procedure) (place : ℕ) (o : Option Shown) → m ≡ n → r ≡ p → place ≡ third_place line.tokens → Gets (cancel_causes scope m r place) None o → IsLeastOf (shown scope line (cancel n p)) o
cancel_least scope line n m p r place o names procedures at g =
    found_all (shown scope line (cancel n p)) o
    (subst (λ (xs : List Shown). Gets xs None o)
    (ap (λ (x : Named). cancel_causes scope x r place) names ∙ ap (λ (x : Procedure). cancel_causes scope n x place) procedures ∙ ap (cancel_causes scope n p) at) g)

pub grant_least : (scope : Scope) (line : ScriptLine) (n m : Named) (p r : Procedure) (units place : ℕ) (o : Option Shown) → m ≡ n → r ≡ p → place ≡ third_place line.tokens → Gets (grant_causes scope m r place) None o
    → IsLeastOf (shown scope line (grant n p units)) o
grant_least scope line n m p r units place o names procedures at g =
    found_all (shown scope line (grant n p units)) o
    (subst (λ (xs : List Shown). Gets xs None o)
    (ap (λ (x : Named). grant_causes scope x r place) names ∙ ap (λ (x : Procedure). grant_causes scope n x place) procedures ∙ ap (grant_causes scope n p) at) g)

-- what they add
pub cancel_after : (scope : Scope) (ds : List Declared) (n m : Named) (p r : Procedure) (k : ℕ) (new : Resolver) → ds ≡ scope.names → m ≡ n → r ≡ p → lookup ds m.text ≡ Some (a_question k) → Keeps (stepping scope (steps.cancel k r)) new
    → Keeps (after scope (cancel n p)) new
cancel_after scope ds n m p r k new e names procedures there keeps =
    let found : Some (a_question k) ≡ lookup scope.names n.text =
    sym there ∙ ap (λ (xs : List Declared). lookup xs m.text) e ∙ ap (λ (x : Named). lookup scope.names x.text) names in
    subst (λ (f : Option Object). Keeps (cancels scope p f) new) found (subst (λ (x : Procedure). Keeps (stepping scope (steps.cancel k x)) new) procedures keeps)

pub grant_after : (scope : Scope) (ds : List Declared) (n m : Named) (p r : Procedure) (units count k : ℕ) (new : Resolver) → ds ≡ scope.names → m ≡ n → r ≡ p → count ≡ units → lookup ds m.text ≡ Some (a_question k)
    → Keeps (grants scope r count (Some (a_question k))) new → Keeps (after scope (grant n p units)) new
grant_after scope ds n m p r units count k new e names procedures counts there keeps =
    let found : Some (a_question k) ≡ lookup scope.names n.text =
    sym there ∙ ap (λ (xs : List Declared). lookup xs m.text) e ∙ ap (λ (x : Named). lookup scope.names x.text) names in
    subst (λ (f : Option Object). Keeps (grants scope p units f) new) found
    (subst (λ (x : ℕ). Keeps (grants scope p x (Some (a_question k))) new) counts (subst (λ (x : Procedure). Keeps (grants scope x count (Some (a_question k))) new) procedures keeps))

-- a cancel or a grant of no question shows a cause
pub cancel_some : (scope : Scope) (ds : List Declared) (m : Named) (r : Procedure) (place : ℕ) (o : Option Shown) → ds ≡ scope.names → Gets (cancel_causes scope m r place) None o → o ≡ None → ((q : ℕ) → lookup ds m.text ≢ Some (a_question q)) → ⊥
cancel_some scope ds m r place o e g none other =
    question_there m (lookup scope.names m.text) (not_applying_to scope r place (lookup scope.names m.text)) (found_none (cancel_causes scope m r place) o g none)
    (λ q f. other q (ap (λ (xs : List Declared). lookup xs m.text) e ∙ f))

pub grant_some : (scope : Scope) (ds : List Declared) (m : Named) (r : Procedure) (place : ℕ) (o : Option Shown) → ds ≡ scope.names → Gets (grant_causes scope m r place) None o → o ≡ None → ((q : ℕ) → lookup ds m.text ≢ Some (a_question q)) → ⊥
grant_some scope ds m r place o e g none other =
    question_there m (lookup scope.names m.text) (too_many_searches scope r place (lookup scope.names m.text) ++ not_applying_to scope r place (lookup scope.names m.text)) (found_none (grant_causes scope m r place) o g none)
    (λ q f. other q (ap (λ (xs : List Declared). lookup xs m.text) e ∙ f))

-- no search is one too many where a grant shows no cause
pub grant_room : (scope : Scope) (ds : List Declared) (m : Named) (r : Procedure) (place k : ℕ) (o : Option Shown) → ds ≡ scope.names → lookup ds m.text ≡ Some (a_question k) → Gets (grant_causes scope m r place) None o → o ≡ None
    → too_many_searches scope r place (Some (a_question k)) ≡ []
grant_room scope ds m r place k o e there g none =
    let found : Option Object = lookup scope.names m.text in
    let same : found ≡ Some (a_question k) = sym (ap (λ (xs : List Declared). lookup xs m.text) e) ∙ there in
    let all : grant_causes scope m r place ≡ [] = found_none (grant_causes scope m r place) o g none in
    let others : too_many_searches scope r place found ++ not_applying_to scope r place found ≡ [] = none_right (not_a_question m found) (too_many_searches scope r place found ++ not_applying_to scope r place found) all in
    subst (λ (f : Option Object). too_many_searches scope r place f ≡ []) same (none_left (too_many_searches scope r place found) (not_applying_to scope r place found) others)
