-- Declarations of words and subgroups.
use Rattle.std.proofs.Common.{◌≡◌, ◌≢◌, ◌<◌, ℕ, ℤ, Option, Some, None, List, [], ◌∷◌, ◌++◌, drop, map, length, refl, sym, ap, subst, ◌∙◌}
use Rattle.std.specs.List.{flat_map}
use Rattle.mg_lex.specs.declared.keyword.Keyword.TheVariants as keyword
use Rattle.mg_lex.specs.declared.mark.Mark.TheVariants as mark
use Rattle.mg_words.specs.Word.{Held}
use Rattle.mg_script.specs.declared.script.ScriptLine.{ScriptLine}
use Rattle.mg_names.specs.declared.resolver.Resolver.{Resolver}
use Rattle.mg_names.specs.declared.scope.Object.{Object as Declarable}
use Rattle.mg_names.specs.declared.scope.Object.TheVariants as declared
use Rattle.mg_names.specs.Named.{Named, Word, word, subgroup}
use Rattle.mg_names.specs.Scope.{Scope, Object, a_group, a_word, a_subgroup, a_map, a_question, Declared, lookup}
use Rattle.mg_names.specs.Meaning.{group_at, value, declaring, declares_word, declares_subgroup, after}
use Rattle.mg_names.specs.Cause.{Shown, taken, taken_if, not_a_group, of_group, in_word, shown}
use Rattle.mg_names.specs.Declaring.{word_causes, subgroup_causes, words_signs, Declares, IsDeclared}
use Rattle.mg_names.specs.Asked.{IsHome}
use Rattle.mg_names.specs.declared.home.Home.{Home}
use Rattle.mg_names.specs.Keeping.{Keeps, IsSound}
use Rattle.mg_names.specs.Least.{IsLeastOf, Gets}
use Rattle.mg_names.specs.Objects.{object_of}
use Rattle.mg_names.specs.Sign.{Sign, a_name, the_keyword, the_mark, word_signs, statement_signs, tail_of}
use Rattle.mg_names.proofs.Leasts.{gets_none, gets_both}
use Rattle.mg_names.proofs.Members.{none_left, none_right}
use Rattle.mg_names.proofs.Causes.{gets_of, found_all, found_none}
use Rattle.mg_names.proofs.Scopes.{name_object}
use Rattle.mg_names.specs.Plan.{Plan}
use Rattle.std.proofs.lemmas.Option.{slice_get_within}

no_group_shows : (g : Named) (found : Option Object) → ((k : ℕ) → found ≢ Some (a_group k)) → not_a_group g found ≡ [] → ⊥
no_group_shows g None other e = cc
no_group_shows g (Some (a_group k)) other e = other k refl
no_group_shows g (Some (a_word k w)) other e = cc
no_group_shows g (Some (a_subgroup k ws)) other e = cc
no_group_shows g (Some (a_map j k ws)) other e = cc
no_group_shows g (Some (a_question k)) other e = cc

nothing_in : (scope : Scope) (f : ℕ → List (List ℕ) → List Shown) (found : Option Object) → ((k : ℕ) → found ≢ Some (a_group k)) → of_group scope f found ≡ []
nothing_in scope f None other = refl
nothing_in scope f (Some (a_group k)) other = absurd (other k refl)
nothing_in scope f (Some (a_word k w)) other = refl
nothing_in scope f (Some (a_subgroup k ws)) other = refl
nothing_in scope f (Some (a_map j k ws)) other = refl
nothing_in scope f (Some (a_question k)) other = refl

-- the causes of a declaration in a group, by those of its words
abbrev pub in_group_causes : Scope → (n g : Named) → (ℕ → List (List ℕ) → List Shown) → List Shown
in_group_causes scope n g f = taken scope n ++ (not_a_group g (lookup scope.names g.text) ++ of_group scope f (lookup scope.names g.text))

pub unread_gets : (scope : Scope) (ds : List Declared) (n g : Named) (f : ℕ → List (List ℕ) → List Shown) (before mid last : Option Shown) → ds ≡ scope.names → Gets (taken_if n (lookup ds n.text)) before mid → Gets (not_a_group g (lookup ds g.text)) mid last
    → ((k : ℕ) → lookup ds g.text ≢ Some (a_group k)) → Gets (in_group_causes scope n g f) before last
unread_gets scope ds n g f before mid last e first second other =
    let found : Option Object = lookup scope.names g.text in
    let same : lookup ds g.text ≡ found = ap (λ (xs : List Declared). lookup xs g.text) e in
    let none : of_group scope f found ≡ [] = nothing_in scope f found (λ k h. other k (same ∙ h)) in
    gets_both (taken scope n) (not_a_group g found ++ of_group scope f found) before mid last (subst (λ (xs : List Declared). Gets (taken_if n (lookup xs n.text)) before mid) e first)
    (gets_both (not_a_group g found) (of_group scope f found) mid last last (subst (λ (xs : List Declared). Gets (not_a_group g (lookup xs g.text)) mid last) e second)
    (gets_of (of_group scope f found) [] last last none (gets_none last)))

pub unread_some : (scope : Scope) (ds : List Declared) (n g : Named) (f : ℕ → List (List ℕ) → List Shown) → ds ≡ scope.names → ((k : ℕ) → lookup ds g.text ≢ Some (a_group k)) → in_group_causes scope n g f ≢ []
unread_some scope ds n g f e other none =
    let found : Option Object = lookup scope.names g.text in
    let same : lookup ds g.text ≡ found = ap (λ (xs : List Declared). lookup xs g.text) e in
    no_group_shows g found (λ k h. other k (same ∙ h))
    (none_left (not_a_group g found) (of_group scope f found) (none_right (taken scope n) (not_a_group g found ++ of_group scope f found) none))

pub read_gets : (scope : Scope) (ds : List Declared) (n g : Named) (f : ℕ → List (List ℕ) → List Shown) (place : ℕ) (before mid next last : Option Shown) → ds ≡ scope.names → lookup ds g.text ≡ Some (a_group place) → Gets (taken_if n (lookup ds n.text)) before mid
    → Gets (not_a_group g (lookup ds g.text)) mid next → Gets (f place (group_at scope place).generators) next last → Gets (in_group_causes scope n g f) before last
read_gets scope ds n g f place before mid next last e there first second third =
    let found : Option Object = lookup scope.names g.text in
    let here : Some (a_group place) ≡ found = sym there ∙ ap (λ (xs : List Declared). lookup xs g.text) e in
    gets_both (taken scope n) (not_a_group g found ++ of_group scope f found) before mid last (subst (λ (xs : List Declared). Gets (taken_if n (lookup xs n.text)) before mid) e first)
    (gets_both (not_a_group g found) (of_group scope f found) mid next last (subst (λ (xs : List Declared). Gets (not_a_group g (lookup xs g.text)) mid next) e second)
    (subst (λ (o : Option Object). Gets (of_group scope f o) next last) here third))

-- words
pub word_unread : (scope : Scope) (ds : List Declared) (n g : Named) (w : Word) (before mid last : Option Shown) → ds ≡ scope.names → Gets (taken_if n (lookup ds n.text)) before mid → Gets (not_a_group g (lookup ds g.text)) mid last
    → ((k : ℕ) → lookup ds g.text ≢ Some (a_group k)) → IsDeclared scope n (word_causes scope n g w) (after scope (word n g w)) before last None
word_unread scope ds n g w before mid last e first second other = record {
  gets = unread_gets scope ds n g (λ place generators. in_word scope.names place generators w) before mid last e first second other;
  declares = tt;
  some = λ none. unread_some scope ds n g (λ place generators. in_word scope.names place generators w) e other;
}

pub word_declared : (scope : Scope) (ds : List Declared) (n g : Named) (w : Word) (place : ℕ) (v : Held) (before mid next last : Option Shown) → ds ≡ scope.names → lookup ds g.text ≡ Some (a_group place) → Gets (taken_if n (lookup ds n.text)) before mid
    → Gets (not_a_group g (lookup ds g.text)) mid next → Gets (in_word scope.names place (group_at scope place).generators w) next last → v.letters ≡ value scope.names place (group_at scope place).generators w
    → IsDeclared scope n (word_causes scope n g w) (after scope (word n g w)) before last (Some (declared.Word place v))
word_declared scope ds n g w place v before mid next last e there first second third letters = record {
  gets = read_gets scope ds n g (λ k generators. in_word scope.names k generators w) place before mid next last e there first second third;
  declares =
      ap (declares_word scope n w) (sym (ap (λ (xs : List Declared). lookup xs g.text) e) ∙ there) ∙ ap (λ (u : List ℤ). declaring scope n (a_word place u)) (sym letters);
  some = λ none. absurd cc;
}

-- what stands in front of the word
pub word_head : (old c1 c2 c3 c4 : List Sign) (n m g k : Named) (w : Word) → old ≡ a_name m ∷ c1 → c2 ≡ drop 1 c1 → c2 ≡ a_name k ∷ c3 → c4 ≡ drop 1 c3 → old ≡ tail_of (statement_signs (word n g w)) → (m ≡ n) × (k ≡ g) × (c4 ≡ word_signs w)
word_head old c1 c2 c3 c4 n m g k w first second third fourth written =
    let names : m ≡ n = cc in
    let tail : c1 ≡ the_keyword keyword.In ∷ a_name g ∷ the_mark mark.Equals ∷ word_signs w = cc in
    let rest : c2 ≡ a_name g ∷ the_mark mark.Equals ∷ word_signs w = second ∙ ap (drop 1) tail in
    let groups : k ≡ g = cc in
    let last : c3 ≡ the_mark mark.Equals ∷ word_signs w = cc in
    (names, groups, fourth ∙ ap (drop 1) last)

pub word_second : (old c1 c2 : List Sign) (n m g : Named) (w : Word) → old ≡ a_name m ∷ c1 → c2 ≡ drop 1 c1 → old ≡ tail_of (statement_signs (word n g w)) → c2 ≡ a_name g ∷ the_mark mark.Equals ∷ word_signs w
word_second old c1 c2 n m g w first second written =
    let tail : c1 ≡ the_keyword keyword.In ∷ a_name g ∷ the_mark mark.Equals ∷ word_signs w = cc in
    second ∙ ap (drop 1) tail

-- a name whose declaration shows no cause isn't there
not_taken : (n : Named) (found : Option Object) → taken_if n found ≡ [] → found ≡ None
not_taken n None e = refl
not_taken n (Some o) e = absurd cc

pub new_name : (scope : Scope) (ds : List Declared) (n : Named) (others : List Shown) (o : Option Shown) → ds ≡ scope.names → Gets (taken scope n ++ others) None o → o ≡ None → lookup ds n.text ≡ None
new_name scope ds n others o e gets none =
    ap (λ (xs : List Declared). lookup xs n.text) e ∙ not_taken n (lookup scope.names n.text) (none_left (taken scope n) others (found_none (taken scope n ++ others) o gets none))

pub declared_keeps : (scope : Scope) (n : Named) (end : Scope) (o : Declarable) (new : Resolver) → Declares scope n end (Some o) → Keeps (declaring scope n (object_of o)) new → Keeps end new
declared_keeps scope n end o new e keeps = subst (λ (s : Scope). Keeps s new) (sym e) keeps

-- a group that a name stands for is there
pub group_within : (r : Resolver) → IsSound r → (text : List ℕ) (k : ℕ) → lookup r.names text ≡ Some (a_group k) → k < length r.plan.groups
group_within r sound text k e =
    let h = name_object sound.lines sound.scope sound.within text (a_group k) (subst (λ (ds : List Declared). lookup ds text ≡ Some (a_group k)) sound.keeps.names e) in
    subst (λ (p : Plan). k < length p.groups) (sym sound.keeps.plan) (slice_get_within sound.scope.plan.groups k h.0 h.1)

-- the statement that declares a word
pub word_least : (scope : Scope) (line : ScriptLine) (n m g k : Named) (w : Word) (before o : Option Shown) → before ≡ None → m ≡ n → k ≡ g → Gets (word_causes scope m k w) before o → IsLeastOf (shown scope line (word n g w)) o
word_least scope line n m g k w before o start names groups gets =
    found_all (shown scope line (word n g w)) o
    (subst (λ (xs : List Shown). Gets xs None o) (ap (λ (x : Named). word_causes scope x k w) names ∙ ap (λ (x : Named). word_causes scope n x w) groups)
    (subst (λ (b : Option Shown). Gets (word_causes scope m k w) b o) start gets))

pub word_new : (scope : Scope) (ds : List Declared) (m k : Named) (w : Word) (before o : Option Shown) → before ≡ None → ds ≡ scope.names → Gets (word_causes scope m k w) before o → o ≡ None → lookup ds m.text ≡ None
word_new scope ds m k w before o start e gets none =
    new_name scope ds m (not_a_group k (lookup scope.names k.text) ++ of_group scope (λ place generators. in_word scope.names place generators w) (lookup scope.names k.text)) o e
    (subst (λ (b : Option Shown). Gets (word_causes scope m k w) b o) start gets) none

pub word_keeps : (scope : Scope) (n m g k : Named) (w : Word) (object : Option Declarable) (o : Declarable) (new : Resolver) → m ≡ n → k ≡ g → object ≡ Some o → Declares scope m (after scope (word m k w)) object → Keeps (declaring scope m (object_of o)) new
    → Keeps (after scope (word n g w)) new
word_keeps scope n m g k w object o new names groups is declares keeps =
    subst (λ (x : Named). Keeps (after scope (word x g w)) new) names
    (subst (λ (x : Named). Keeps (after scope (word m x w)) new) groups
    (declared_keeps scope m (after scope (word m k w)) o new (subst (λ (x : Option Declarable). Declares scope m (after scope (word m k w)) x) is declares) keeps))

pub word_some : (scope : Scope) (m k : Named) (w : Word) (before o : Option Shown) → before ≡ None → Gets (word_causes scope m k w) before o → o ≡ None → word_causes scope m k w ≢ [] → ⊥
word_some scope m k w before o start gets none some = some (found_none (word_causes scope m k w) o (subst (λ (b : Option Shown). Gets (word_causes scope m k w) b o) start gets) none)

-- subgroups
pub subgroup_unread : (scope : Scope) (ds : List Declared) (n g : Named) (ws : List Word) (before mid last : Option Shown) → ds ≡ scope.names → Gets (taken_if n (lookup ds n.text)) before mid → Gets (not_a_group g (lookup ds g.text)) mid last
    → ((k : ℕ) → lookup ds g.text ≢ Some (a_group k)) → IsDeclared scope n (subgroup_causes scope n g ws) (after scope (subgroup n g ws)) before last None
subgroup_unread scope ds n g ws before mid last e first second other = record {
  gets = unread_gets scope ds n g (λ place generators. flat_map (in_word scope.names place generators) ws) before mid last e first second other;
  declares = tt;
  some = λ none. unread_some scope ds n g (λ place generators. flat_map (in_word scope.names place generators) ws) e other;
}

pub subgroup_declared : (scope : Scope) (ds : List Declared) (n g : Named) (ws : List Word) (place : ℕ) (us : List (List ℤ)) (before mid next last : Option Shown) → ds ≡ scope.names → lookup ds g.text ≡ Some (a_group place) → Gets (taken_if n (lookup ds n.text)) before mid
    → Gets (not_a_group g (lookup ds g.text)) mid next → Gets (flat_map (in_word scope.names place (group_at scope place).generators) ws) next last → us ≡ map (value scope.names place (group_at scope place).generators) ws
    → IsDeclared scope n (subgroup_causes scope n g ws) (after scope (subgroup n g ws)) before last (Some (declared.Subgroup place us))
subgroup_declared scope ds n g ws place us before mid next last e there first second third letters = record {
  gets = read_gets scope ds n g (λ k generators. flat_map (in_word scope.names k generators) ws) place before mid next last e there first second third;
  declares =
      ap (declares_subgroup scope n ws) (sym (ap (λ (xs : List Declared). lookup xs g.text) e) ∙ there) ∙ ap (λ (vs : List (List ℤ)). declaring scope n (a_subgroup place vs)) (sym letters);
  some = λ none. absurd cc;
}

pub carried : (F : List Declared → ℕ → List (List ℕ) → Type 0) (scope : Scope) (place : ℕ) (home : Home) → IsHome scope place home → F home.names.now home.place home.generators.now → F scope.names place (group_at scope place).generators
carried F scope place home h f =
    subst (λ (gs : List (List ℕ)). F scope.names place gs) h.generators
    (subst (λ (k : ℕ). F scope.names k home.generators.now) h.place_is (subst (λ (ds : List Declared). F ds home.place home.generators.now) h.names f))

pub subgroup_head : (old c1 c2 c3 c4 c5 : List Sign) (n m g k : Named) (ws : List Word) → old ≡ a_name m ∷ c1 → c2 ≡ drop 1 c1 → c2 ≡ a_name k ∷ c3 → c4 ≡ drop 1 c3 → c5 ≡ drop 1 c4 → old ≡ tail_of (statement_signs (subgroup n g ws)) → (m ≡ n) × (k ≡ g) × (c5 ≡ words_signs ws)
subgroup_head old c1 c2 c3 c4 c5 n m g k ws first second third fourth fifth written =
    let names : m ≡ n = cc in
    let tail : c1 ≡ the_keyword keyword.Of ∷ a_name g ∷ the_mark mark.Equals ∷ the_mark mark.Less ∷ words_signs ws = cc in
    let rest : c2 ≡ a_name g ∷ the_mark mark.Equals ∷ the_mark mark.Less ∷ words_signs ws = second ∙ ap (drop 1) tail in
    let groups : k ≡ g = cc in
    let last : c3 ≡ the_mark mark.Equals ∷ the_mark mark.Less ∷ words_signs ws = cc in
    (names, groups, fifth ∙ ap (drop 1) (fourth ∙ ap (drop 1) last))

-- the statement that declares a subgroup
pub subgroup_least : (scope : Scope) (line : ScriptLine) (n m g k : Named) (ws : List Word) (before o : Option Shown) → before ≡ None → m ≡ n → k ≡ g → Gets (subgroup_causes scope m k ws) before o → IsLeastOf (shown scope line (subgroup n g ws)) o
subgroup_least scope line n m g k ws before o start names groups gets =
    found_all (shown scope line (subgroup n g ws)) o
    (subst (λ (xs : List Shown). Gets xs None o) (ap (λ (x : Named). subgroup_causes scope x k ws) names ∙ ap (λ (x : Named). subgroup_causes scope n x ws) groups)
    (subst (λ (b : Option Shown). Gets (subgroup_causes scope m k ws) b o) start gets))

pub subgroup_new : (scope : Scope) (ds : List Declared) (m k : Named) (ws : List Word) (before o : Option Shown) → before ≡ None → ds ≡ scope.names → Gets (subgroup_causes scope m k ws) before o → o ≡ None → lookup ds m.text ≡ None
subgroup_new scope ds m k ws before o start e gets none =
    new_name scope ds m (not_a_group k (lookup scope.names k.text) ++ of_group scope (λ place generators. flat_map (in_word scope.names place generators) ws) (lookup scope.names k.text)) o e
    (subst (λ (b : Option Shown). Gets (subgroup_causes scope m k ws) b o) start gets) none

pub subgroup_keeps : (scope : Scope) (n m g k : Named) (ws : List Word) (object : Option Declarable) (o : Declarable) (new : Resolver) → m ≡ n → k ≡ g → object ≡ Some o → Declares scope m (after scope (subgroup m k ws)) object → Keeps (declaring scope m (object_of o)) new
    → Keeps (after scope (subgroup n g ws)) new
subgroup_keeps scope n m g k ws object o new names groups is declares keeps =
    subst (λ (x : Named). Keeps (after scope (subgroup x g ws)) new) names
    (subst (λ (x : Named). Keeps (after scope (subgroup m x ws)) new) groups
    (declared_keeps scope m (after scope (subgroup m k ws)) o new (subst (λ (x : Option Declarable). Declares scope m (after scope (subgroup m k ws)) x) is declares) keeps))

pub subgroup_some : (scope : Scope) (m k : Named) (ws : List Word) (before o : Option Shown) → before ≡ None → Gets (subgroup_causes scope m k ws) before o → o ≡ None → subgroup_causes scope m k ws ≢ [] → ⊥
subgroup_some scope m k ws before o start gets none some = some (found_none (subgroup_causes scope m k ws) o (subst (λ (b : Option Shown). Gets (subgroup_causes scope m k ws) b o) start gets) none)
