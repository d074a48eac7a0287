-- A question that is asked, with the causes that it shows.
use Rattle.std.proofs.Common.{◌≡◌, ℕ, zero, suc, ⊎_elim, Result, Ok, Err, IfOk, Option, Some, None, List, [], ◌∷◌, ◌++◌, Contains, refl, sym, ap, subst, ◌∙◌, arith}
use Rattle.std.specs.Prelude.{IfSome}
use Rattle.std.proofs.lemmas.List.Elements.{Contains-append_left, Contains-append_right, Contains-append_cases}
use Rattle.mg_present.specs.Presentation.{IsPresented}
use Rattle.mg_questions.specs.declared.question.Question as questions
use Rattle.mg_questions.specs.declared.question.Question.TheVariants.{WordIsOne, WordsEqual, InSubgroup, Trivial, Abelian, Central, Normal, Extends, Onto, InKernel}
use Rattle.mg_questions.specs.Asking.{IsFit}
use Rattle.mg_questions.specs.Content.{content_of}
use Rattle.mg_questions.specs.Goals.{group_of}
use Rattle.mg_names.specs.declared.asking.Asking as declared
use Rattle.mg_names.specs.declared.questions.Addition.{Addition}
use Rattle.mg_names.specs.declared.known.Known.{Known}
use Rattle.mg_names.specs.declared.resolver.Resolver.{Resolver}
use Rattle.mg_names.specs.declared.sizing.Sizing.{Sizing}
use Rattle.mg_names.specs.Asked.{IsKnown, AreWithin, IsSameAsking, IsAnswer, IsQuestionRead}
use Rattle.mg_names.specs.Cause.{Shown, in_question, too_large, too_large_unless, IsFirst}
use Rattle.mg_names.specs.Keeping.{Keeps, IsSound}
use Rattle.mg_names.specs.Least.{IsLeastOf, IsNotAfter, Gets}
use Rattle.mg_names.specs.Meaning.{Asking, question_named}
use Rattle.mg_names.specs.Named.{Named, Question}
use Rattle.mg_names.specs.Plan.{Plan}
use Rattle.mg_names.specs.Scope.{Scope}
use Rattle.mg_names.specs.Sized.{IsSizing, IsToAdd, IsAskRead}
use Rattle.mg_names.specs.Within.{IsPlanGroup, IsScope, IsSizedQuestion}
use Rattle.mg_names.proofs.Large.{same_fit}
use Rattle.mg_names.proofs.Leasts.{only, all_after-append, all_after-less, gets_both, gets_nil}
use Rattle.mg_names.proofs.Members.{all_get, all_left, all_right, none_right}
use Rattle.mg_names.proofs.Scopes.{IsAsking, question_asking}

-- the least of some causes stands for all of them
only_one : (s t : Shown) → Contains (s ∷ []) t → s ≡ t
only_one s t (zero, h, e) = e
only_one s t (suc i, h, e) = absurd (omega (arith, h))

joined_least : (all xs : List Shown) (s : Shown) (o : Option Shown) → IsFirst xs s → IsLeastOf (all ++ s ∷ []) o → IsLeastOf (all ++ xs) o
joined_least all xs s None first h = let none : ◌≡◌ {A = List Shown} (s ∷ []) [] = none_right all (s ∷ []) h in absurd cc
joined_least all xs s (Some t) first h = record {
  among = ⊎_elim (λ (k : Contains all t). Contains-append_left all xs t k)
      (λ (k : Contains (s ∷ []) t). Contains-append_right all xs t (subst (λ (x : Shown). Contains xs x) (only_one s t k) first.among))
      (Contains-append_cases all (s ∷ []) t h.among);
  least = all_after-append t all xs (all_left (IsNotAfter t) all (s ∷ []) h.least)
      (all_after-less t s xs (all_right (IsNotAfter t) all (s ∷ []) h.least).0 first.least);
}

pub joined : (xs : List Shown) (s : Shown) (before after : Option Shown) → IsFirst xs s → Gets (s ∷ []) before after → Gets xs before after
joined xs s before after first g all h = joined_least all xs s after first (g all h)

-- what has been found stays found
some_least : (o : Option Shown) → (all : List Shown) × IsLeastOf all o
some_least None = ([], refl)
some_least (Some s) = (s ∷ [], only s)

pub still_found : (s : Shown) (before after : Option Shown) → Gets (s ∷ []) before after → after ≡ None → ⊥
still_found s before after g e =
    let h = some_least before in
    let none : h.0 ++ s ∷ [] ≡ [] = subst (λ (o : Option Shown). IsLeastOf (h.0 ++ s ∷ []) o) e (g h.0 h.1) in
    let f : ◌≡◌ {A = List Shown} (s ∷ []) [] = none_right h.0 (s ∷ []) none in
    cc

-- the causes of the words, and of the Ask where they show none
none_among : (s : Shown) → Contains [] s → ⊥
none_among s h = omega (arith, h.1)

no_ask : (xs : List Shown) (s : Shown) (scope : Scope) (n : Named) (o : Option Asking) → Contains xs s → too_large_unless xs scope n o ≡ []
no_ask [] s scope n o h = absurd (none_among s h)
no_ask (x ∷ xs) s scope n o h = refl

module _ (scope : Scope) (n : Named) (q : Question) (before after : Option Shown) where
  pub words_refused : (in_words : Option Shown) (s : Shown) (asking : Option declared.Asking) → IsQuestionRead scope q None in_words asking → Some s ≡ in_words → Gets (s ∷ []) before after → IsAskRead scope n q before after None
  words_refused in_words s asking read e g =
      let first : IsFirst (in_question scope q) s = subst (λ (o : Option Shown). IsLeastOf (in_question scope q) o) (sym e) (read.causes [] refl) in
      record {
        causes = gets_both (in_question scope q) (too_large_unless (in_question scope q) scope n (question_named scope q)) before after after
            (joined (in_question scope q) s before after first g) (gets_nil _ after (no_ask (in_question scope q) s scope n (question_named scope q) first.among));
        to_add = λ none. absurd (still_found s before after g none);
      }

  accepted : (asking : Option declared.Asking) → IsQuestionRead scope q None None asking → Gets (too_large scope n (question_named scope q)) before after →
      Gets (in_question scope q ++ too_large_unless (in_question scope q) scope n (question_named scope q)) before after
  accepted asking read g =
      let none : in_question scope q ≡ [] = read.causes [] refl in
      subst (λ (xs : List Shown). Gets (xs ++ too_large_unless xs scope n (question_named scope q)) before after) (sym none) g

  asked_if : (o : Option Asking) (asking : declared.Asking) (addition : Option Addition) → IsAnswer o (Some asking) →
      ((a : Asking) → IsSameAsking a asking → Gets (too_large scope n (Some a)) before after × (after ≡ None → IsToAdd scope (Some a) addition)) →
      Gets (too_large scope n o) before after × (after ≡ None → IsToAdd scope o addition)
  asked_if None asking addition same sized = absurd same
  asked_if (Some a) asking addition same sized = sized a same

  pub words_accepted : (in_words : Option Shown) (asking : declared.Asking) (addition : Option Addition) → IsQuestionRead scope q None in_words (Some asking) → in_words ≡ None →
      ((a : Asking) → IsSameAsking a asking → Gets (too_large scope n (Some a)) before after × (after ≡ None → IsToAdd scope (Some a) addition)) → IsAskRead scope n q before after addition
  words_accepted in_words asking addition read e sized =
      let h = asked_if (question_named scope q) asking addition read.same sized in
      record {
        causes = accepted (Some asking) (subst (λ (o : Option Shown). IsQuestionRead scope q None o (Some asking)) e read) h.0;
        to_add = h.1;
      }

  pub words_answered : {E : Type 0} (r : Result (Option Addition) E) (in_words : Option Shown) (asking : declared.Asking) → IsQuestionRead scope q None in_words (Some asking) → in_words ≡ None →
      ((a : Asking) → IsSameAsking a asking → IfOk r (λ addition. Gets (too_large scope n (Some a)) before after × (after ≡ None → IsToAdd scope (Some a) addition))) →
      IfOk r (λ addition. IsAskRead scope n q before after addition)
  words_answered (Ok addition) in_words asking read e sized = words_accepted in_words asking addition read e sized
  words_answered (Err x) in_words asking read e sized = tt

-- nothing is named
nothing_large : (scope : Scope) (n : Named) (o : Option Asking) → IsAnswer o None → too_large scope n o ≡ []
nothing_large scope n None same = refl
nothing_large scope n (Some a) same = absurd same

nothing_to_add : (scope : Scope) (o : Option Asking) → IsAnswer o None → IsToAdd scope o None
nothing_to_add scope None same = tt
nothing_to_add scope (Some a) same = absurd same

pub nothing_asked : (scope : Scope) (n : Named) (q : Question) (before in_words : Option Shown) → IsQuestionRead scope q None in_words None → in_words ≡ None → IsAskRead scope n q before before None
nothing_asked scope n q before in_words read e = record {
  causes = accepted scope n q before before None (subst (λ (o : Option Shown). IsQuestionRead scope q None o None) e read) (gets_nil _ before (nothing_large scope n (question_named scope q) read.same));
  to_add = λ none. nothing_to_add scope (question_named scope q) read.same;
}

-- a question that has been read may be asked
same_group : (q : questions.Question) → group_of (content_of q) ≡ group_of q
same_group (WordIsOne group word) = refl
same_group (WordsEqual group left right) = refl
same_group (InSubgroup group subgroup word) = refl
same_group (Trivial group) = refl
same_group (Abelian group) = refl
same_group (Central group word) = refl
same_group (Normal group subgroup) = refl
same_group (Extends source target images) = refl
same_group (Onto target images) = refl
same_group (InKernel target images word) = refl

fits_if : (lines : ℕ) (scope : Scope) → IsScope lines scope → (o : Option Asking) (asking : declared.Asking) → IfSome o (IsAsking scope.plan) → IsAnswer o (Some asking) → IsFit asking.question × IsPresented (group_of asking.question)
fits_if lines scope is None asking may same = absurd same
fits_if lines scope is (Some a) asking may same =
    let fit : IsFit asking.question =
    subst (λ (T : Type 0). T) (same_fit asking.question) (subst IsFit (sym same.content) (subst (λ (T : Type 0). T) (sym (same_fit a.question)) may.fit)) in
    let group : group_of a.question ≡ group_of asking.question = sym (same_group a.question) ∙ (ap group_of (sym same.content) ∙ same_group asking.question) in
    (fit, subst IsPresented (may.same ∙ group) (all_get IsPlanGroup scope.plan.groups a.group may.group is.groups may.there).presented)

pub fits : (lines : ℕ) (scope : Scope) → IsScope lines scope → (q : Question) (asking : declared.Asking) (before after : Option Shown) → IsSizedQuestion q → IsQuestionRead scope q before after (Some asking) → IsFit asking.question × IsPresented (group_of asking.question)
fits lines scope is q asking before after sized read = fits_if lines scope is (question_named scope q) asking (question_asking lines scope is q sized) read.same

-- what is kept of a scope
pub keeps_known : (scope : Scope) (r : Resolver) (known : Known) → Keeps scope r → known.names.now ≡ r.names → known.groups.now ≡ r.plan.groups → IsKnown scope known
keeps_known scope r known keeps names groups = record {
  names = names ∙ keeps.names;
  groups = groups ∙ ap (λ (p : Plan). p.groups) keeps.plan;
}

pub sound_within : (r : Resolver) (known : Known) → IsSound r → known.names.now ≡ r.names → known.groups.now ≡ r.plan.groups → AreWithin known
sound_within r known sound names groups = record { scope = sound.scope; lines = sound.lines; is = keeps_known sound.scope r known sound.keeps names groups; within = sound.within }

-- what is answered of a size, by the answer's kind
pub sized_as : (scope : Scope) (n : Named) (a : Asking) (sizing kind : Sizing) → sizing ≡ kind → IsSizing scope n a sizing → IsSizing scope n a kind
sized_as scope n a sizing kind e h = subst (IsSizing scope n a) e h

-- a question that is read before any cause is found
pub read_from : (scope : Scope) (q : Question) (before after : Option Shown) (asking : Option declared.Asking) → before ≡ None → IsQuestionRead scope q before after asking → IsQuestionRead scope q None after asking
read_from scope q before after asking e read = subst (λ (o : Option Shown). IsQuestionRead scope q o after asking) e read

pub read_as : (scope : Scope) (q : Question) (before after : Option Shown) (asking kind : Option declared.Asking) → asking ≡ kind → IsQuestionRead scope q before after asking → IsQuestionRead scope q before after kind
read_as scope q before after asking kind e read = subst (IsQuestionRead scope q before after) e read
