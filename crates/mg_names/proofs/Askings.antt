-- Reading a question.
use Rattle.std.proofs.Common.{◌≡◌, ◌≢◌, ℕ, zero, suc, ℤ, ◌<◌, ◌≤◌, true, false, Option, Some, None, List, [], ◌∷◌, ◌++◌, length, refl, sym, ap, subst, ◌∙◌, arith}
use Rattle.std.specs.Prelude.{slice_get}
use Rattle.mg_words.specs.Word.{Held}
use Rattle.mg_present.specs.Presentation.{Group}
use Rattle.mg_questions.specs.declared.question.Question.TheVariants as asked
use Rattle.mg_questions.specs.Content.{bare as without_room}
use Rattle.mg_script.specs.declared.form.Property.TheVariants as property
use Rattle.mg_names.specs.declared.asking.Asking as declared
use Rattle.mg_names.specs.declared.home.Home.{Home}
use Rattle.mg_names.specs.declared.known.Known.{Known}
use Rattle.mg_names.specs.Plan.{PlanGroup}
use Rattle.mg_names.specs.Named.{Named, named, one, round, commutator, bare, power, Word, single, times, Question, equal, member, vanishes, central, has}
use Rattle.mg_names.specs.Scope.{Object, a_group, a_word, a_subgroup, a_map, a_question, Declared, Scope, lookup}
use Rattle.mg_names.specs.Meaning.{group_at, held, value, value_in, Asking, property_asked, equality_asked, membership_asked, kernel_asked, centrality_asked, question_named}
use Rattle.mg_names.specs.Cause.{Shown, not_a_group, not_a_subgroup, not_a_map, of_group, of_subgroup, of_source, in_word, not_the_subject, in_question}
use Rattle.mg_names.specs.Least.{Gets}
use Rattle.mg_names.specs.Turn.{is_one}
use Rattle.mg_names.specs.Asked.{IsKnown, AreWithin, IsHome, IsSameAsking, IsAnswer, IsQuestionRead}
use Rattle.mg_names.specs.Within.{IsPlanGroup, IsGroupAt, HasWords, HasImages}
use Rattle.mg_names.proofs.Leasts.{gets_both, gets_nil}
use Rattle.mg_names.proofs.Members.{all_get}
use Rattle.mg_names.proofs.Scopes.{group_is, name_object}

-- groups that are there
get_within : {X : Type 0} (xs : List X) (i : ℕ) (x : X) → slice_get xs i ≡ Some x → i < length xs
get_within [] i x e = absurd cc
get_within (a ∷ xs) zero x e = omega arith
get_within (a ∷ xs) (suc i) x e = let h = get_within xs i x e in omega (arith, h)

get_there : {X : Type 0} (xs : List X) (i : ℕ) → i < length xs → (x : X) × (slice_get xs i ≡ Some x)
get_there [] i h = absurd (omega (arith, h))
get_there (a ∷ xs) zero h = (a, refl)
get_there (a ∷ xs) (suc i) h = get_there xs i (omega (arith, h))

pub few_generators : (known : Known) (place : ℕ) → AreWithin known → place < length known.groups.now → (generators : List (List ℕ)) → ((scope : Scope) → IsKnown scope known → generators ≡ (group_at scope place).generators) → length generators ≤ 64
few_generators known place h less generators same =
    let found = get_there known.groups.now place less in
    let there : slice_get h.scope.plan.groups place ≡ Some found.0 = ap (λ (gs : List PlanGroup). slice_get gs place) (sym h.is.groups) ∙ found.1 in
    let given = all_get IsPlanGroup h.scope.plan.groups place found.0 h.within.groups there in
    let e : length generators ≡ length found.0.generators = ap length (same h.scope h.is) ∙ ap (λ (g : PlanGroup). length g.generators) (group_is h.scope place found.0 there) in
    omega (arith, e, given.named, given.presented.generators)

place_within : (known : Known) (h : AreWithin known) (place : ℕ) (group : PlanGroup) → IsGroupAt h.scope.plan place group → place < length known.groups.now
place_within known h place group there = get_within known.groups.now place group (ap (λ (gs : List PlanGroup). slice_get gs place) h.is.groups ∙ there)

in_scope : (scope : Scope) (known : Known) (text : List ℕ) (o : Object) → IsKnown scope known → lookup known.names.now text ≡ Some o → lookup scope.names text ≡ Some o
in_scope scope known text o is e = ap (λ (ds : List Declared). lookup ds text) (sym is.names) ∙ e

module _ (known : Known) (h : AreWithin known) (text : List ℕ) where
  pub group_there : (place : ℕ) → lookup known.names.now text ≡ Some (a_group place) → place < length known.groups.now
  group_there place e =
      let g = name_object h.lines h.scope h.within text (a_group place) (in_scope h.scope known text (a_group place) h.is e) in
      place_within known h place g.0 g.1

  pub subgroup_there : (place : ℕ) (words : List (List ℤ)) → lookup known.names.now text ≡ Some (a_subgroup place words) → place < length known.groups.now
  subgroup_there place words e =
      let g : HasWords h.scope.plan place words = name_object h.lines h.scope h.within text (a_subgroup place words) (in_scope h.scope known text (a_subgroup place words) h.is e) in
      place_within known h place g.group g.there

  pub source_there : (source target : ℕ) (images : List (List ℤ)) → lookup known.names.now text ≡ Some (a_map source target images) → source < length known.groups.now
  source_there source target images e =
      let g : HasImages h.scope.plan source target images = name_object h.lines h.scope h.within text (a_map source target images) (in_scope h.scope known text (a_map source target images) h.is e) in
      place_within known h source g.from g.from_there

  pub target_there : (source target : ℕ) (images : List (List ℤ)) → lookup known.names.now text ≡ Some (a_map source target images) → target < length known.groups.now
  target_there source target images e =
      let g : HasImages h.scope.plan source target images = name_object h.lines h.scope h.within text (a_map source target images) (in_scope h.scope known text (a_map source target images) h.is e) in
      place_within known h target g.to g.to_there

-- names that stand for something else ask nothing
outside_group : (scope : Scope) (f : ℕ → List (List ℕ) → List Shown) (found : Option Object) → ((k : ℕ) → found ≢ Some (a_group k)) → of_group scope f found ≡ []
outside_group scope f None no_such = refl
outside_group scope f (Some (a_group k)) no_such = absurd (no_such k refl)
outside_group scope f (Some (a_word k w)) no_such = refl
outside_group scope f (Some (a_subgroup k ws)) no_such = refl
outside_group scope f (Some (a_map j k ws)) no_such = refl
outside_group scope f (Some (a_question k)) no_such = refl

outside_subgroup : (scope : Scope) (f : ℕ → List (List ℕ) → List Shown) (found : Option Object) → ((k : ℕ) (ws : List (List ℤ)) → found ≢ Some (a_subgroup k ws)) → of_subgroup scope f found ≡ []
outside_subgroup scope f None no_such = refl
outside_subgroup scope f (Some (a_group k)) no_such = refl
outside_subgroup scope f (Some (a_word k w)) no_such = refl
outside_subgroup scope f (Some (a_subgroup k ws)) no_such = absurd (no_such k ws refl)
outside_subgroup scope f (Some (a_map j k ws)) no_such = refl
outside_subgroup scope f (Some (a_question k)) no_such = refl

outside_source : (scope : Scope) (f : ℕ → List (List ℕ) → List Shown) (found : Option Object) → ((j k : ℕ) (ws : List (List ℤ)) → found ≢ Some (a_map j k ws)) → of_source scope f found ≡ []
outside_source scope f None no_such = refl
outside_source scope f (Some (a_group k)) no_such = refl
outside_source scope f (Some (a_word k w)) no_such = refl
outside_source scope f (Some (a_subgroup k ws)) no_such = refl
outside_source scope f (Some (a_map j k ws)) no_such = absurd (no_such j k ws refl)
outside_source scope f (Some (a_question k)) no_such = refl

no_trivial : (scope : Scope) (found : Option Object) → ((k : ℕ) → found ≢ Some (a_group k)) → property_asked scope property.Trivial found ≡ None
no_trivial scope None no_such = refl
no_trivial scope (Some (a_group k)) no_such = absurd (no_such k refl)
no_trivial scope (Some (a_word k w)) no_such = refl
no_trivial scope (Some (a_subgroup k ws)) no_such = refl
no_trivial scope (Some (a_map j k ws)) no_such = refl
no_trivial scope (Some (a_question k)) no_such = refl

no_abelian : (scope : Scope) (found : Option Object) → ((k : ℕ) → found ≢ Some (a_group k)) → property_asked scope property.Abelian found ≡ None
no_abelian scope None no_such = refl
no_abelian scope (Some (a_group k)) no_such = absurd (no_such k refl)
no_abelian scope (Some (a_word k w)) no_such = refl
no_abelian scope (Some (a_subgroup k ws)) no_such = refl
no_abelian scope (Some (a_map j k ws)) no_such = refl
no_abelian scope (Some (a_question k)) no_such = refl

no_normal : (scope : Scope) (found : Option Object) → ((k : ℕ) (ws : List (List ℤ)) → found ≢ Some (a_subgroup k ws)) → property_asked scope property.Normal found ≡ None
no_normal scope None no_such = refl
no_normal scope (Some (a_group k)) no_such = refl
no_normal scope (Some (a_word k w)) no_such = refl
no_normal scope (Some (a_subgroup k ws)) no_such = absurd (no_such k ws refl)
no_normal scope (Some (a_map j k ws)) no_such = refl
no_normal scope (Some (a_question k)) no_such = refl

no_extends : (scope : Scope) (found : Option Object) → ((j k : ℕ) (ws : List (List ℤ)) → found ≢ Some (a_map j k ws)) → property_asked scope property.Extends found ≡ None
no_extends scope None no_such = refl
no_extends scope (Some (a_group k)) no_such = refl
no_extends scope (Some (a_word k w)) no_such = refl
no_extends scope (Some (a_subgroup k ws)) no_such = refl
no_extends scope (Some (a_map j k ws)) no_such = absurd (no_such j k ws refl)
no_extends scope (Some (a_question k)) no_such = refl

no_onto : (scope : Scope) (found : Option Object) → ((j k : ℕ) (ws : List (List ℤ)) → found ≢ Some (a_map j k ws)) → property_asked scope property.Onto found ≡ None
no_onto scope None no_such = refl
no_onto scope (Some (a_group k)) no_such = refl
no_onto scope (Some (a_word k w)) no_such = refl
no_onto scope (Some (a_subgroup k ws)) no_such = refl
no_onto scope (Some (a_map j k ws)) no_such = absurd (no_such j k ws refl)
no_onto scope (Some (a_question k)) no_such = refl

no_membership : (scope : Scope) (w : Word) (found : Option Object) → ((k : ℕ) (ws : List (List ℤ)) → found ≢ Some (a_subgroup k ws)) → membership_asked scope w found ≡ None
no_membership scope v None no_such = refl
no_membership scope v (Some (a_group k)) no_such = refl
no_membership scope v (Some (a_word k w)) no_such = refl
no_membership scope v (Some (a_subgroup k ws)) no_such = absurd (no_such k ws refl)
no_membership scope v (Some (a_map j k ws)) no_such = refl
no_membership scope v (Some (a_question k)) no_such = refl

no_kernel : (scope : Scope) (w : Word) (found : Option Object) → ((j k : ℕ) (ws : List (List ℤ)) → found ≢ Some (a_map j k ws)) → kernel_asked scope w found ≡ None
no_kernel scope v None no_such = refl
no_kernel scope v (Some (a_group k)) no_such = refl
no_kernel scope v (Some (a_word k w)) no_such = refl
no_kernel scope v (Some (a_subgroup k ws)) no_such = refl
no_kernel scope v (Some (a_map j k ws)) no_such = absurd (no_such j k ws refl)
no_kernel scope v (Some (a_question k)) no_such = refl

no_centrality : (scope : Scope) (w : Word) (found : Option Object) → ((k : ℕ) → found ≢ Some (a_group k)) → centrality_asked scope w found ≡ None
no_centrality scope v None no_such = refl
no_centrality scope v (Some (a_group k)) no_such = absurd (no_such k refl)
no_centrality scope v (Some (a_word k w)) no_such = refl
no_centrality scope v (Some (a_subgroup k ws)) no_such = refl
no_centrality scope v (Some (a_map j k ws)) no_such = refl
no_centrality scope v (Some (a_question k)) no_such = refl

no_equality : (scope : Scope) (u v : Word) (found : Option Object) → ((k : ℕ) → found ≢ Some (a_group k)) → equality_asked scope u v found ≡ None
no_equality scope u (single (bare (named n))) None no_such = refl
no_equality scope u (single (bare (named n))) (Some (a_group k)) no_such = absurd (no_such k refl)
no_equality scope u (single (bare (named n))) (Some (a_word k w)) no_such = refl
no_equality scope u (single (bare (named n))) (Some (a_subgroup k ws)) no_such = refl
no_equality scope u (single (bare (named n))) (Some (a_map j k ws)) no_such = refl
no_equality scope u (single (bare (named n))) (Some (a_question k)) no_such = refl
no_equality scope u (single (bare one)) None no_such = refl
no_equality scope u (single (bare one)) (Some (a_group k)) no_such = absurd (no_such k refl)
no_equality scope u (single (bare one)) (Some (a_word k w)) no_such = refl
no_equality scope u (single (bare one)) (Some (a_subgroup k ws)) no_such = refl
no_equality scope u (single (bare one)) (Some (a_map j k ws)) no_such = refl
no_equality scope u (single (bare one)) (Some (a_question k)) no_such = refl
no_equality scope u (single (bare (round x))) None no_such = refl
no_equality scope u (single (bare (round x))) (Some (a_group k)) no_such = absurd (no_such k refl)
no_equality scope u (single (bare (round x))) (Some (a_word k w)) no_such = refl
no_equality scope u (single (bare (round x))) (Some (a_subgroup k ws)) no_such = refl
no_equality scope u (single (bare (round x))) (Some (a_map j k ws)) no_such = refl
no_equality scope u (single (bare (round x))) (Some (a_question k)) no_such = refl
no_equality scope u (single (bare (commutator x y))) None no_such = refl
no_equality scope u (single (bare (commutator x y))) (Some (a_group k)) no_such = absurd (no_such k refl)
no_equality scope u (single (bare (commutator x y))) (Some (a_word k w)) no_such = refl
no_equality scope u (single (bare (commutator x y))) (Some (a_subgroup k ws)) no_such = refl
no_equality scope u (single (bare (commutator x y))) (Some (a_map j k ws)) no_such = refl
no_equality scope u (single (bare (commutator x y))) (Some (a_question k)) no_such = refl
no_equality scope u (single (power b negative m)) None no_such = refl
no_equality scope u (single (power b negative m)) (Some (a_group k)) no_such = absurd (no_such k refl)
no_equality scope u (single (power b negative m)) (Some (a_word k w)) no_such = refl
no_equality scope u (single (power b negative m)) (Some (a_subgroup k ws)) no_such = refl
no_equality scope u (single (power b negative m)) (Some (a_map j k ws)) no_such = refl
no_equality scope u (single (power b negative m)) (Some (a_question k)) no_such = refl
no_equality scope u (times x star f) None no_such = refl
no_equality scope u (times x star f) (Some (a_group k)) no_such = absurd (no_such k refl)
no_equality scope u (times x star f) (Some (a_word k w)) no_such = refl
no_equality scope u (times x star f) (Some (a_subgroup k ws)) no_such = refl
no_equality scope u (times x star f) (Some (a_map j k ws)) no_such = refl
no_equality scope u (times x star f) (Some (a_question k)) no_such = refl

equality_of_one : (scope : Scope) (u v : Word) (place : ℕ) → is_one v ≡ true →
    equality_asked scope u v (Some (a_group place)) ≡ Some (record { group = place; question = asked.WordIsOne (group_at scope place).group (value_in scope place u) })
equality_of_one scope u (single (bare (named n))) place e = absurd cc
equality_of_one scope u (single (bare one)) place e = refl
equality_of_one scope u (single (bare (round x))) place e = absurd cc
equality_of_one scope u (single (bare (commutator x y))) place e = absurd cc
equality_of_one scope u (single (power b negative m)) place e = absurd cc
equality_of_one scope u (times x star f) place e = absurd cc

equality_of_two : (scope : Scope) (u v : Word) (place : ℕ) → is_one v ≡ false →
    equality_asked scope u v (Some (a_group place)) ≡ Some (record { group = place; question = asked.WordsEqual (group_at scope place).group (value_in scope place u) (value_in scope place v) })
equality_of_two scope u (single (bare (named n))) place e = refl
equality_of_two scope u (single (bare one)) place e = absurd cc
equality_of_two scope u (single (bare (round x))) place e = refl
equality_of_two scope u (single (bare (commutator x y))) place e = refl
equality_of_two scope u (single (power b negative m)) place e = refl
equality_of_two scope u (times x star f) place e = refl

-- a word that has been read
pub record IsWordRead (scope : Scope) (place : ℕ) (w : Word) (before after : Option Shown) (word : Held) : Type 0 where
  pub letters : word.letters ≡ value scope.names place (group_at scope place).generators w
  pub causes : Gets (in_word scope.names place (group_at scope place).generators w) before after

carried : (F : List Declared → ℕ → List (List ℕ) → Type 0) (scope : Scope) (place : ℕ) (home : Home) → IsHome scope place home → F home.names.now home.place home.generators.now → F scope.names place (group_at scope place).generators
carried F scope place home h f =
    subst (λ (gs : List (List ℕ)). F scope.names place gs) h.generators
    (subst (λ (k : ℕ). F scope.names k home.generators.now) h.place_is
    (subst (λ (ds : List Declared). F ds home.place home.generators.now) h.names f))

pub word_read : (scope : Scope) (place : ℕ) (home : Home) (w : Word) (before after : Option Shown) (word : Held) → IsHome scope place home →
    word.letters ≡ value home.names.now home.place home.generators.now w → Gets (in_word home.names.now home.place home.generators.now w) before after →
    IsWordRead scope place w before after word
word_read scope place home w before after word h letters causes = record {
  letters = carried (λ ds k gs. word.letters ≡ value ds k gs w) scope place home h letters;
  causes = carried (λ ds k gs. Gets (in_word ds k gs w) before after) scope place home h causes;
}

-- questions
module _ (scope : Scope) (known : Known) (is : IsKnown scope known) (n : Named) (before : Option Shown) where
  there : (o : Option Object) → lookup known.names.now n.text ≡ o → lookup scope.names n.text ≡ o
  there o e = ap (λ (ds : List Declared). lookup ds n.text) (sym is.names) ∙ e

  checked : (f : Option Object → List Shown) (after : Option Shown) → Gets (f (lookup known.names.now n.text)) before after → Gets (f (lookup scope.names n.text)) before after
  checked f after g = subst (λ (ds : List Declared). Gets (f (lookup ds n.text)) before after) is.names g

  -- the words are read in what the name stands for
  both_shown : (check words : Option Object → List Shown) (o : Object) (mid after : Option Shown) → lookup known.names.now n.text ≡ Some o →
      Gets (check (lookup known.names.now n.text)) before mid → Gets (words (Some o)) mid after → Gets (check (lookup scope.names n.text) ++ words (lookup scope.names n.text)) before after
  both_shown check words o mid after e g h =
      subst (λ (x : Option Object). Gets (check x ++ words x) before after) (sym (there (Some o) e))
      (gets_both (check (Some o)) (words (Some o)) before mid after (subst (λ (x : Option Object). Gets (check x) before mid) e g) h)

  one_shown : (check words : Option Object → List Shown) (after : Option Shown) → Gets (check (lookup known.names.now n.text)) before after → words (lookup scope.names n.text) ≡ [] →
      Gets (check (lookup scope.names n.text) ++ words (lookup scope.names n.text)) before after
  one_shown check words after g none = gets_both (check (lookup scope.names n.text)) (words (lookup scope.names n.text)) before after after (checked check after g) (gets_nil _ after none)

  no_group_here : ((k : ℕ) → lookup known.names.now n.text ≢ Some (a_group k)) → (k : ℕ) → lookup scope.names n.text ≢ Some (a_group k)
  no_group_here no_such k e = no_such k (ap (λ (ds : List Declared). lookup ds n.text) is.names ∙ e)

  no_subgroup_here : ((k : ℕ) (ws : List (List ℤ)) → lookup known.names.now n.text ≢ Some (a_subgroup k ws)) → (k : ℕ) (ws : List (List ℤ)) → lookup scope.names n.text ≢ Some (a_subgroup k ws)
  no_subgroup_here no_such k ws e = no_such k ws (ap (λ (ds : List Declared). lookup ds n.text) is.names ∙ e)

  no_map_here : ((j k : ℕ) (ws : List (List ℤ)) → lookup known.names.now n.text ≢ Some (a_map j k ws)) → (j k : ℕ) (ws : List (List ℤ)) → lookup scope.names n.text ≢ Some (a_map j k ws)
  no_map_here no_such j k ws e = no_such j k ws (ap (λ (ds : List Declared). lookup ds n.text) is.names ∙ e)

  answered : (q : Question) (ask : Option Object → Option Asking) (o : Object) (meant : Asking) (asking : declared.Asking) → question_named scope q ≡ ask (lookup scope.names n.text) →
      lookup known.names.now n.text ≡ Some o → ask (Some o) ≡ Some meant → IsSameAsking meant asking → IsAnswer (question_named scope q) (Some asking)
  answered q ask o meant asking e f k same = subst (λ (a : Option Asking). IsAnswer a (Some asking)) (sym (e ∙ (ap ask (there (Some o) f) ∙ k))) same

  unanswered : (q : Question) → question_named scope q ≡ None → IsAnswer (question_named scope q) None
  unanswered q e = subst (λ (a : Option Asking). IsAnswer a None) (sym e) tt

  pub trivial_read : (after : Option Shown) (place : ℕ) (group : Group) → lookup known.names.now n.text ≡ Some (a_group place) → Gets (not_a_group n (lookup known.names.now n.text)) before after → group ≡ (group_at scope place).group →
      IsQuestionRead scope (has n property.Trivial) before after (Some (record { group = place; question = asked.Trivial group }))
  trivial_read after place group e g is_group = record {
    causes = checked (not_the_subject property.Trivial n) after g;
    same = answered (has n property.Trivial) (property_asked scope property.Trivial) (a_group place) (record { group = place; question = asked.Trivial (group_at scope place).group }) (record { group = place; question = asked.Trivial group }) refl e refl
        (record { group = refl; content = ap (λ (x : Group). asked.Trivial x) is_group });
  }

  pub trivial_unread : (after : Option Shown) → ((k : ℕ) → lookup known.names.now n.text ≢ Some (a_group k)) → Gets (not_a_group n (lookup known.names.now n.text)) before after → IsQuestionRead scope (has n property.Trivial) before after None
  trivial_unread after no_such g = record {
    causes = checked (not_the_subject property.Trivial n) after g;
    same = unanswered (has n property.Trivial) (no_trivial scope (lookup scope.names n.text) (no_group_here no_such));
  }

  pub abelian_read : (after : Option Shown) (place : ℕ) (group : Group) → lookup known.names.now n.text ≡ Some (a_group place) → Gets (not_a_group n (lookup known.names.now n.text)) before after → group ≡ (group_at scope place).group →
      IsQuestionRead scope (has n property.Abelian) before after (Some (record { group = place; question = asked.Abelian group }))
  abelian_read after place group e g is_group = record {
    causes = checked (not_the_subject property.Abelian n) after g;
    same = answered (has n property.Abelian) (property_asked scope property.Abelian) (a_group place) (record { group = place; question = asked.Abelian (group_at scope place).group }) (record { group = place; question = asked.Abelian group }) refl e refl
        (record { group = refl; content = ap (λ (x : Group). asked.Abelian x) is_group });
  }

  pub abelian_unread : (after : Option Shown) → ((k : ℕ) → lookup known.names.now n.text ≢ Some (a_group k)) → Gets (not_a_group n (lookup known.names.now n.text)) before after → IsQuestionRead scope (has n property.Abelian) before after None
  abelian_unread after no_such g = record {
    causes = checked (not_the_subject property.Abelian n) after g;
    same = unanswered (has n property.Abelian) (no_abelian scope (lookup scope.names n.text) (no_group_here no_such));
  }

  pub normal_read : (after : Option Shown) (place : ℕ) (words : List (List ℤ)) (group : Group) → lookup known.names.now n.text ≡ Some (a_subgroup place words) → Gets (not_a_subgroup n (lookup known.names.now n.text)) before after → group ≡ (group_at scope place).group →
      IsQuestionRead scope (has n property.Normal) before after (Some (record { group = place; question = asked.Normal group words }))
  normal_read after place words group e g is_group = record {
    causes = checked (not_the_subject property.Normal n) after g;
    same = answered (has n property.Normal) (property_asked scope property.Normal) (a_subgroup place words) (record { group = place; question = asked.Normal (group_at scope place).group words }) (record { group = place; question = asked.Normal group words }) refl e refl
        (record { group = refl; content = ap (λ (x : Group). asked.Normal x words) is_group });
  }

  pub normal_unread : (after : Option Shown) → ((k : ℕ) (ws : List (List ℤ)) → lookup known.names.now n.text ≢ Some (a_subgroup k ws)) → Gets (not_a_subgroup n (lookup known.names.now n.text)) before after → IsQuestionRead scope (has n property.Normal) before after None
  normal_unread after no_such g = record {
    causes = checked (not_the_subject property.Normal n) after g;
    same = unanswered (has n property.Normal) (no_normal scope (lookup scope.names n.text) (no_subgroup_here no_such));
  }

  pub extends_read : (after : Option Shown) (source : ℕ) (target : ℕ) (images : List (List ℤ)) (origin : Group) (goal : Group) → lookup known.names.now n.text ≡ Some (a_map source target images) → Gets (not_a_map n (lookup known.names.now n.text)) before after → origin ≡ (group_at scope source).group → goal ≡ (group_at scope target).group →
      IsQuestionRead scope (has n property.Extends) before after (Some (record { group = target; question = asked.Extends origin goal images }))
  extends_read after source target images origin goal e g is_origin is_goal = record {
    causes = checked (not_the_subject property.Extends n) after g;
    same = answered (has n property.Extends) (property_asked scope property.Extends) (a_map source target images) (record { group = target; question = asked.Extends (group_at scope source).group (group_at scope target).group images }) (record { group = target; question = asked.Extends origin goal images }) refl e refl
        (record { group = refl; content = ap (λ (x : Group). asked.Extends x goal images) is_origin ∙ ap (λ (x : Group). asked.Extends (group_at scope source).group x images) is_goal });
  }

  pub extends_unread : (after : Option Shown) → ((j k : ℕ) (ws : List (List ℤ)) → lookup known.names.now n.text ≢ Some (a_map j k ws)) → Gets (not_a_map n (lookup known.names.now n.text)) before after → IsQuestionRead scope (has n property.Extends) before after None
  extends_unread after no_such g = record {
    causes = checked (not_the_subject property.Extends n) after g;
    same = unanswered (has n property.Extends) (no_extends scope (lookup scope.names n.text) (no_map_here no_such));
  }

  pub onto_read : (after : Option Shown) (source : ℕ) (target : ℕ) (images : List (List ℤ)) (goal : Group) → lookup known.names.now n.text ≡ Some (a_map source target images) → Gets (not_a_map n (lookup known.names.now n.text)) before after → goal ≡ (group_at scope target).group →
      IsQuestionRead scope (has n property.Onto) before after (Some (record { group = target; question = asked.Onto goal images }))
  onto_read after source target images goal e g is_goal = record {
    causes = checked (not_the_subject property.Onto n) after g;
    same = answered (has n property.Onto) (property_asked scope property.Onto) (a_map source target images) (record { group = target; question = asked.Onto (group_at scope target).group images }) (record { group = target; question = asked.Onto goal images }) refl e refl
        (record { group = refl; content = ap (λ (x : Group). asked.Onto x images) is_goal });
  }

  pub onto_unread : (after : Option Shown) → ((j k : ℕ) (ws : List (List ℤ)) → lookup known.names.now n.text ≢ Some (a_map j k ws)) → Gets (not_a_map n (lookup known.names.now n.text)) before after → IsQuestionRead scope (has n property.Onto) before after None
  onto_unread after no_such g = record {
    causes = checked (not_the_subject property.Onto n) after g;
    same = unanswered (has n property.Onto) (no_onto scope (lookup scope.names n.text) (no_map_here no_such));
  }

  pub membership_read : (w : Word) (mid after : Option Shown) (place : ℕ) (words : List (List ℤ)) (word : Held) (group : Group) → lookup known.names.now n.text ≡ Some (a_subgroup place words) →
      Gets (not_a_subgroup n (lookup known.names.now n.text)) before mid → IsWordRead scope place w mid after word → group ≡ (group_at scope place).group →
      IsQuestionRead scope (member w n) before after (Some (record { group = place; question = asked.InSubgroup group words word }))
  membership_read w mid after place words word group e g read is_group = record {
    causes = both_shown (not_a_subgroup n) (of_subgroup scope (λ k gs. in_word scope.names k gs w)) (a_subgroup place words) mid after e g read.causes;
    same = answered (member w n) (membership_asked scope w) (a_subgroup place words) (record { group = place; question = asked.InSubgroup (group_at scope place).group words (value_in scope place w) })
        (record { group = place; question = asked.InSubgroup group words word }) refl e refl
        (record {
          group = refl;
          content = ap (λ (x : Group). asked.InSubgroup x words (without_room word)) is_group ∙ ap (λ (xs : List ℤ). asked.InSubgroup (group_at scope place).group words (held xs)) read.letters;
        });
  }

  pub membership_unread : (w : Word) (after : Option Shown) → ((k : ℕ) (ws : List (List ℤ)) → lookup known.names.now n.text ≢ Some (a_subgroup k ws)) → Gets (not_a_subgroup n (lookup known.names.now n.text)) before after →
      IsQuestionRead scope (member w n) before after None
  membership_unread w after no_such g =
      let other = no_subgroup_here no_such in
      record {
        causes = one_shown (not_a_subgroup n) (of_subgroup scope (λ k gs. in_word scope.names k gs w)) after g (outside_subgroup scope (λ k gs. in_word scope.names k gs w) (lookup scope.names n.text) other);
        same = unanswered (member w n) (no_membership scope w (lookup scope.names n.text) other);
      }

  pub kernel_read : (w : Word) (mid after : Option Shown) (source target : ℕ) (images : List (List ℤ)) (word : Held) (group : Group) → lookup known.names.now n.text ≡ Some (a_map source target images) →
      Gets (not_a_map n (lookup known.names.now n.text)) before mid → IsWordRead scope source w mid after word → group ≡ (group_at scope target).group →
      IsQuestionRead scope (vanishes w n) before after (Some (record { group = target; question = asked.InKernel group images word }))
  kernel_read w mid after source target images word group e g read is_group = record {
    causes = both_shown (not_a_map n) (of_source scope (λ k gs. in_word scope.names k gs w)) (a_map source target images) mid after e g read.causes;
    same = answered (vanishes w n) (kernel_asked scope w) (a_map source target images) (record { group = target; question = asked.InKernel (group_at scope target).group images (value_in scope source w) })
        (record { group = target; question = asked.InKernel group images word }) refl e refl
        (record {
          group = refl;
          content = ap (λ (x : Group). asked.InKernel x images (without_room word)) is_group ∙ ap (λ (xs : List ℤ). asked.InKernel (group_at scope target).group images (held xs)) read.letters;
        });
  }

  pub kernel_unread : (w : Word) (after : Option Shown) → ((j k : ℕ) (ws : List (List ℤ)) → lookup known.names.now n.text ≢ Some (a_map j k ws)) → Gets (not_a_map n (lookup known.names.now n.text)) before after →
      IsQuestionRead scope (vanishes w n) before after None
  kernel_unread w after no_such g =
      let other = no_map_here no_such in
      record {
        causes = one_shown (not_a_map n) (of_source scope (λ k gs. in_word scope.names k gs w)) after g (outside_source scope (λ k gs. in_word scope.names k gs w) (lookup scope.names n.text) other);
        same = unanswered (vanishes w n) (no_kernel scope w (lookup scope.names n.text) other);
      }

  pub centrality_read : (w : Word) (mid after : Option Shown) (place : ℕ) (word : Held) (group : Group) → lookup known.names.now n.text ≡ Some (a_group place) →
      Gets (not_a_group n (lookup known.names.now n.text)) before mid → IsWordRead scope place w mid after word → group ≡ (group_at scope place).group →
      IsQuestionRead scope (central w n) before after (Some (record { group = place; question = asked.Central group word }))
  centrality_read w mid after place word group e g read is_group = record {
    causes = both_shown (not_a_group n) (of_group scope (λ k gs. in_word scope.names k gs w)) (a_group place) mid after e g read.causes;
    same = answered (central w n) (centrality_asked scope w) (a_group place) (record { group = place; question = asked.Central (group_at scope place).group (value_in scope place w) })
        (record { group = place; question = asked.Central group word }) refl e refl
        (record {
          group = refl;
          content = ap (λ (x : Group). asked.Central x (without_room word)) is_group ∙ ap (λ (xs : List ℤ). asked.Central (group_at scope place).group (held xs)) read.letters;
        });
  }

  pub centrality_unread : (w : Word) (after : Option Shown) → ((k : ℕ) → lookup known.names.now n.text ≢ Some (a_group k)) → Gets (not_a_group n (lookup known.names.now n.text)) before after →
      IsQuestionRead scope (central w n) before after None
  centrality_unread w after no_such g =
      let other = no_group_here no_such in
      record {
        causes = one_shown (not_a_group n) (of_group scope (λ k gs. in_word scope.names k gs w)) after g (outside_group scope (λ k gs. in_word scope.names k gs w) (lookup scope.names n.text) other);
        same = unanswered (central w n) (no_centrality scope w (lookup scope.names n.text) other);
      }

  -- two words
  sides : Word → Word → ℕ → List (List ℕ) → List Shown
  sides u v k gs = in_word scope.names k gs u ++ in_word scope.names k gs v

  sides_shown : (u v : Word) (mid next after : Option Shown) (place : ℕ) (left right : Held) → lookup known.names.now n.text ≡ Some (a_group place) → Gets (not_a_group n (lookup known.names.now n.text)) before mid →
      IsWordRead scope place u mid next left → IsWordRead scope place v next after right → Gets (in_question scope (equal u v n)) before after
  sides_shown u v mid next after place left right e g first second =
      both_shown (not_a_group n) (of_group scope (λ k gs. in_word scope.names k gs u ++ in_word scope.names k gs v)) (a_group place) mid after e g
      (gets_both (in_word scope.names place (group_at scope place).generators u) (in_word scope.names place (group_at scope place).generators v) mid next after first.causes second.causes)

  pub one_read : (u v : Word) (mid next after : Option Shown) (place : ℕ) (left right : Held) (group : Group) → lookup known.names.now n.text ≡ Some (a_group place) → Gets (not_a_group n (lookup known.names.now n.text)) before mid →
      IsWordRead scope place u mid next left → IsWordRead scope place v next after right → is_one v ≡ true → group ≡ (group_at scope place).group →
      IsQuestionRead scope (equal u v n) before after (Some (record { group = place; question = asked.WordIsOne group left }))
  one_read u v mid next after place left right group e g first second alone is_group = record {
    causes = sides_shown u v mid next after place left right e g first second;
    same = answered (equal u v n) (equality_asked scope u v) (a_group place) (record { group = place; question = asked.WordIsOne (group_at scope place).group (value_in scope place u) })
        (record { group = place; question = asked.WordIsOne group left }) refl e (equality_of_one scope u v place alone)
        (record {
          group = refl;
          content = ap (λ (x : Group). asked.WordIsOne x (without_room left)) is_group ∙ ap (λ (xs : List ℤ). asked.WordIsOne (group_at scope place).group (held xs)) first.letters;
        });
  }

  pub two_read : (u v : Word) (mid next after : Option Shown) (place : ℕ) (left right : Held) (group : Group) → lookup known.names.now n.text ≡ Some (a_group place) → Gets (not_a_group n (lookup known.names.now n.text)) before mid →
      IsWordRead scope place u mid next left → IsWordRead scope place v next after right → is_one v ≡ false → group ≡ (group_at scope place).group →
      IsQuestionRead scope (equal u v n) before after (Some (record { group = place; question = asked.WordsEqual group left right }))
  two_read u v mid next after place left right group e g first second alone is_group = record {
    causes = sides_shown u v mid next after place left right e g first second;
    same = answered (equal u v n) (equality_asked scope u v) (a_group place) (record { group = place; question = asked.WordsEqual (group_at scope place).group (value_in scope place u) (value_in scope place v) })
        (record { group = place; question = asked.WordsEqual group left right }) refl e (equality_of_two scope u v place alone)
        (record {
          group = refl;
          content = ap (λ (x : Group). asked.WordsEqual x (without_room left) (without_room right)) is_group
              ∙ (ap (λ (xs : List ℤ). asked.WordsEqual (group_at scope place).group (held xs) (without_room right)) first.letters
              ∙ ap (λ (xs : List ℤ). asked.WordsEqual (group_at scope place).group (value_in scope place u) (held xs)) second.letters);
        });
  }

  pub equality_unread : (u v : Word) (after : Option Shown) → ((k : ℕ) → lookup known.names.now n.text ≢ Some (a_group k)) → Gets (not_a_group n (lookup known.names.now n.text)) before after →
      IsQuestionRead scope (equal u v n) before after None
  equality_unread u v after no_such g =
      let other = no_group_here no_such in
      record {
        causes = one_shown (not_a_group n) (of_group scope (λ k gs. in_word scope.names k gs u ++ in_word scope.names k gs v)) after g
            (outside_group scope (λ k gs. in_word scope.names k gs u ++ in_word scope.names k gs v) (lookup scope.names n.text) other);
        same = unanswered (equal u v n) (no_equality scope u v (lookup scope.names n.text) other);
      }
