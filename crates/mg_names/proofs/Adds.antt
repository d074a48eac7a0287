-- The statement that asks a question, and what it adds.
use Rattle.std.proofs.Common.{◌≡◌, ℕ, ◌+◌, ◌≤◌, Option, Some, None, List, [], ◌∷◌, ◌++◌, drop, length, refl, sym, ap, subst, ◌∙◌}
use Rattle.mg_lex.specs.declared.mark.Mark.TheVariants as mark
use Rattle.mg_present.specs.Ask.{Inquiry}
use Rattle.mg_questions.specs.declared.question.Question as questions
use Rattle.mg_questions.specs.declared.question.Question.TheVariants.{Trivial}
use Rattle.mg_script.specs.declared.script.ScriptLine.{ScriptLine}
use Rattle.mg_names.specs.declared.limits.TheConstants.{ASK_LETTER_LIMIT}
use Rattle.mg_names.specs.declared.questions.Addition.{Addition}
use Rattle.mg_names.specs.declared.resolver.Resolver.{Resolver}
use Rattle.mg_names.specs.Cause.{Shown, taken, taken_if, in_question, too_large_unless, shown}
use Rattle.mg_names.specs.Keeping.{Keeps}
use Rattle.mg_names.specs.Least.{IsLeastOf, Gets}
use Rattle.mg_names.specs.Meaning.{Asking, question_named, ask_for, ask_letters, declaring, with_question, declares_question, after}
use Rattle.mg_names.specs.Named.{Named, Question, ask}
use Rattle.mg_names.specs.Plan.{PlanQuestion, plain}
use Rattle.mg_names.specs.Scope.{Object, a_question, Declared, Scope, lookup}
use Rattle.mg_names.specs.Sign.{Sign, a_name, the_mark, question_signs, statement_signs, tail_of}
use Rattle.mg_names.specs.Sized.{IsToAdd, IsAskRead}
use Rattle.mg_names.proofs.Causes.{found_all, found_none}
use Rattle.mg_names.proofs.Leasts.{gets_both}
use Rattle.mg_names.proofs.Members.{none_left}

pub some_question : questions.Question
some_question = Trivial (record { generators = 0; relators = [] })

-- a question that is added leaves the names as they are, whatever it asks
pub names_kept : (scope : Scope) (old new : Resolver) (question : PlanQuestion) (asked : questions.Question) (letters : ℕ) (text : List ℕ) → Keeps scope old → Keeps (with_question scope question asked letters) new → lookup old.names text ≡ None → lookup new.names text ≡ None
names_kept scope old new question asked letters text before after e =
    ap (λ (ds : List Declared). lookup ds text) (after.names ∙ sym before.names) ∙ e

abbrev adding : Scope → Named → Asking → List ℕ → ℕ → Inquiry → ℕ → ℕ → Scope
adding scope n a text group inquiry letters place =
    declaring (with_question scope (record { name = text; group = group; asked = plain inquiry }) a.question letters) n (a_question place)

pub adds : (scope : Scope) (n : Named) (a : Asking) (addition : Addition) (text : List ℕ) (place : ℕ) → IsToAdd scope (Some a) (Some addition) → text ≡ n.text → place ≡ length scope.plan.questions
    → declaring (with_question scope (record { name = text; group = addition.group; asked = plain addition.counted.ask }) a.question addition.counted.letters) n (a_question place) ≡ declares_question scope n (Some a)
adds scope n a addition text place to_add texts places =
    ap (λ (t : List ℕ). adding scope n a t addition.group addition.counted.ask addition.counted.letters place) texts
    ∙ ap (λ (g : ℕ). adding scope n a n.text g addition.counted.ask addition.counted.letters place) to_add.0
    ∙ ap (λ (i : Inquiry). adding scope n a n.text a.group i addition.counted.letters place) to_add.1.ask
    ∙ ap (λ (k : ℕ). adding scope n a n.text a.group (ask_for a.question) k place) to_add.1.count
    ∙ ap (λ (p : ℕ). adding scope n a n.text a.group (ask_for a.question) (ask_letters (ask_for a.question)) p) places

-- what stands in front of the question
pub ask_head : (old c1 c2 : List Sign) (n m : Named) (q : Question) → old ≡ a_name m ∷ c1 → c2 ≡ drop 1 c1 → old ≡ tail_of (statement_signs (ask n q)) → (m ≡ n) × (c2 ≡ question_signs q)
ask_head old c1 c2 n m q first second written =
    let names : m ≡ n = cc in
    let tail : c1 ≡ the_mark mark.Colon ∷ question_signs q = cc in
    (names, second ∙ ap (drop 1) tail)

-- a name whose declaration shows no cause isn't there
not_taken : (n : Named) (o : Option Object) → taken_if n o ≡ [] → o ≡ None
not_taken n None e = refl
not_taken n (Some object) e = absurd cc

-- the causes of the statement
abbrev ask_causes : Scope → Named → Question → List Shown
ask_causes scope n q = taken scope n ++ (in_question scope q ++ too_large_unless (in_question scope q) scope n (question_named scope q))

ask_gets : (scope : Scope) (ds : List Declared) (m : Named) (q : Question) (before mid last : Option Shown) (addition : Option Addition) → before ≡ None → ds ≡ scope.names → Gets (taken_if m (lookup ds m.text)) before mid → IsAskRead scope m q mid last addition
    → Gets (ask_causes scope m q) None last
ask_gets scope ds m q before mid last addition start e first read =
    let second = subst (λ (b : Option Shown). Gets (taken_if m (lookup ds m.text)) b mid) start first in
    gets_both (taken scope m) (in_question scope q ++ too_large_unless (in_question scope q) scope m (question_named scope q)) None mid last
    (subst (λ (xs : List Declared). Gets (taken_if m (lookup xs m.text)) None mid) e second) read.causes

pub ask_least : (scope : Scope) (line : ScriptLine) (ds : List Declared) (n m : Named) (q : Question) (before mid last : Option Shown) (addition : Option Addition) → m ≡ n → before ≡ None → ds ≡ scope.names → Gets (taken_if m (lookup ds m.text)) before mid
    → IsAskRead scope m q mid last addition → IsLeastOf (shown scope line (ask n q)) last
ask_least scope line ds n m q before mid last addition names start e first read =
    found_all (shown scope line (ask n q)) last
    (subst (λ (x : Named). Gets (ask_causes scope x q) None last) names (ask_gets scope ds m q before mid last addition start e first read))

pub ask_new : (scope : Scope) (ds : List Declared) (m : Named) (q : Question) (before mid last : Option Shown) (addition : Option Addition) → before ≡ None → ds ≡ scope.names → Gets (taken_if m (lookup ds m.text)) before mid → IsAskRead scope m q mid last addition
    → last ≡ None → lookup ds m.text ≡ None
ask_new scope ds m q before mid last addition start e first read none =
    ap (λ (xs : List Declared). lookup xs m.text) e
    ∙ not_taken m (lookup scope.names m.text)
    (none_left (taken scope m) (in_question scope q ++ too_large_unless (in_question scope q) scope m (question_named scope q))
    (found_none (ask_causes scope m q) last (ask_gets scope ds m q before mid last addition start e first read) none))

-- what it adds
some_to_add : (scope : Scope) (o : Option Asking) (addition : Option Addition) (a : Addition) → addition ≡ Some a → IsToAdd scope o addition → IsToAdd scope o (Some a)
some_to_add scope o addition a is h = subst (λ (x : Option Addition). IsToAdd scope o x) is h

few_added : (scope : Scope) (o : Option Asking) (a : Addition) → IsToAdd scope o (Some a) → scope.letters + a.counted.letters ≤ ASK_LETTER_LIMIT
few_added scope None a h = absurd h
few_added scope (Some asking) a h = h.1.few

pub ask_few : (scope : Scope) (r : Resolver) (m : Named) (q : Question) (mid last : Option Shown) (addition : Option Addition) (a : Addition) → Keeps scope r → addition ≡ Some a → IsAskRead scope m q mid last addition → last ≡ None
    → r.letters + a.counted.letters ≤ ASK_LETTER_LIMIT
ask_few scope r m q mid last addition a keeps is read none =
    subst (λ (k : ℕ). k + a.counted.letters ≤ ASK_LETTER_LIMIT) (sym keeps.letters)
    (few_added scope (question_named scope q) a (some_to_add scope (question_named scope q) addition a is (read.to_add none)))

added : (scope : Scope) (n : Named) (o : Option Asking) (addition : Addition) (new : Resolver) → IsToAdd scope o (Some addition) → ((a : Asking) → IsToAdd scope (Some a) (Some addition) → Keeps (declares_question scope n (Some a)) new)
    → Keeps (declares_question scope n o) new
added scope n None addition new to_add keeps = absurd to_add
added scope n (Some a) addition new to_add keeps = keeps a to_add

unchanged : (scope : Scope) (n : Named) (o : Option Asking) (r : Resolver) → IsToAdd scope o None → Keeps scope r → Keeps (declares_question scope n o) r
unchanged scope n None r to_add keeps = keeps
unchanged scope n (Some a) r to_add keeps = absurd to_add

pub ask_adds : (scope : Scope) (n m : Named) (q : Question) (mid last : Option Shown) (addition : Option Addition) (a : Addition) (new : Resolver) → m ≡ n → addition ≡ Some a → IsAskRead scope m q mid last addition → last ≡ None
    → ((asking : Asking) → IsToAdd scope (Some asking) (Some a) → Keeps (declares_question scope m (Some asking)) new) → Keeps (after scope (ask n q)) new
ask_adds scope n m q mid last addition a new names is read none keeps =
    subst (λ (x : Named). Keeps (declares_question scope x (question_named scope q)) new) names
    (added scope m (question_named scope q) a new (some_to_add scope (question_named scope q) addition a is (read.to_add none)) keeps)

pub ask_adds_none : (scope : Scope) (n m : Named) (q : Question) (mid last : Option Shown) (addition : Option Addition) (r : Resolver) → addition ≡ None → IsAskRead scope m q mid last addition → last ≡ None → Keeps scope r → Keeps (after scope (ask n q)) r
ask_adds_none scope n m q mid last addition r is read none keeps =
    unchanged scope n (question_named scope q) r (subst (λ (x : Option Addition). IsToAdd scope (question_named scope q) x) is (read.to_add none)) keeps
