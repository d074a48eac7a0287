-- What the causes of a name come to, by what it stands for.
use Rattle.std.proofs.Common.{◌≡◌, ◌≢◌, ℕ, ℤ, Option, Some, None, List, [], refl, sym, ap, subst, ◌∙◌}
use Rattle.mg_lex.specs.declared.refusal.Cause.TheVariants as cause
use Rattle.mg_names.specs.Named.{Named}
use Rattle.mg_names.specs.Scope.{Object, a_group, a_word, a_subgroup, a_map, a_question}
use Rattle.mg_names.specs.Cause.{Shown, at, taken_if, not_a_group, not_a_subgroup, not_a_map, not_a_question}
use Rattle.mg_names.specs.Least.{Gets}
use Rattle.mg_names.proofs.Leasts.{gets_none}

gets_of : (a b : List Shown) (o p : Option Shown) → a ≡ b → Gets b o p → Gets a o p
gets_of a b o p e h = subst (λ (xs : List Shown). Gets xs o p) (sym e) h

pub taken_gets : (n : Named) (found : Option Object) (o : Object) (before after : Option Shown) → found ≡ Some o → Gets (at cause.NameTaken n.place) before after → Gets (taken_if n found) before after
taken_gets n found o before after e h = gets_of (taken_if n found) (at cause.NameTaken n.place) before after (ap (taken_if n) e) h

pub new_gets : (n : Named) (found : Option Object) (before : Option Shown) → found ≡ None → Gets (taken_if n found) before before
new_gets n found before e = gets_of (taken_if n found) [] before before (ap (taken_if n) e) (gets_none before)

pub group_gets : (n : Named) (found : Option Object) (o : Object) (place : ℕ) (before : Option Shown) → found ≡ Some o → o ≡ a_group place → Gets (not_a_group n found) before before
group_gets n found o place before e f = gets_of (not_a_group n found) [] before before (ap (not_a_group n) e ∙ ap (λ (x : Object). not_a_group n (Some x)) f) (gets_none before)

wrong_group : (n : Named) (o : Object) → ((place : ℕ) → o ≢ a_group place) → not_a_group n (Some o) ≡ at cause.WrongKind n.place
wrong_group n (a_group k) other = absurd (other k refl)
wrong_group n (a_word k w) other = refl
wrong_group n (a_subgroup k ws) other = refl
wrong_group n (a_map j k ws) other = refl
wrong_group n (a_question k) other = refl

pub no_group_gets : (n : Named) (found : Option Object) (o : Object) (before after : Option Shown) → found ≡ Some o → ((place : ℕ) → o ≢ a_group place) → Gets (at cause.WrongKind n.place) before after → Gets (not_a_group n found) before after
no_group_gets n found o before after e other h = gets_of (not_a_group n found) (at cause.WrongKind n.place) before after (ap (not_a_group n) e ∙ wrong_group n o other) h

pub unknown_group_gets : (n : Named) (found : Option Object) (before after : Option Shown) → found ≡ None → Gets (at cause.UnknownName n.place) before after → Gets (not_a_group n found) before after
unknown_group_gets n found before after e h = gets_of (not_a_group n found) (at cause.UnknownName n.place) before after (ap (not_a_group n) e) h

pub subgroup_gets : (n : Named) (found : Option Object) (o : Object) (home : ℕ) (words : List (List ℤ)) (before : Option Shown) → found ≡ Some o → o ≡ a_subgroup home words → Gets (not_a_subgroup n found) before before
subgroup_gets n found o home words before e f = gets_of (not_a_subgroup n found) [] before before (ap (not_a_subgroup n) e ∙ ap (λ (x : Object). not_a_subgroup n (Some x)) f) (gets_none before)

wrong_subgroup : (n : Named) (o : Object) → ((home : ℕ) (words : List (List ℤ)) → o ≢ a_subgroup home words) → not_a_subgroup n (Some o) ≡ at cause.WrongKind n.place
wrong_subgroup n (a_group k) other = refl
wrong_subgroup n (a_word k w) other = refl
wrong_subgroup n (a_subgroup k ws) other = absurd (other k ws refl)
wrong_subgroup n (a_map j k ws) other = refl
wrong_subgroup n (a_question k) other = refl

pub no_subgroup_gets : (n : Named) (found : Option Object) (o : Object) (before after : Option Shown) → found ≡ Some o → ((home : ℕ) (words : List (List ℤ)) → o ≢ a_subgroup home words) → Gets (at cause.WrongKind n.place) before after → Gets (not_a_subgroup n found) before after
no_subgroup_gets n found o before after e other h = gets_of (not_a_subgroup n found) (at cause.WrongKind n.place) before after (ap (not_a_subgroup n) e ∙ wrong_subgroup n o other) h

pub unknown_subgroup_gets : (n : Named) (found : Option Object) (before after : Option Shown) → found ≡ None → Gets (at cause.UnknownName n.place) before after → Gets (not_a_subgroup n found) before after
unknown_subgroup_gets n found before after e h = gets_of (not_a_subgroup n found) (at cause.UnknownName n.place) before after (ap (not_a_subgroup n) e) h

pub map_gets : (n : Named) (found : Option Object) (o : Object) (source target : ℕ) (images : List (List ℤ)) (before : Option Shown) → found ≡ Some o → o ≡ a_map source target images → Gets (not_a_map n found) before before
map_gets n found o source target images before e f = gets_of (not_a_map n found) [] before before (ap (not_a_map n) e ∙ ap (λ (x : Object). not_a_map n (Some x)) f) (gets_none before)

wrong_map : (n : Named) (o : Object) → ((source target : ℕ) (images : List (List ℤ)) → o ≢ a_map source target images) → not_a_map n (Some o) ≡ at cause.WrongKind n.place
wrong_map n (a_group k) other = refl
wrong_map n (a_word k w) other = refl
wrong_map n (a_subgroup k ws) other = refl
wrong_map n (a_map j k ws) other = absurd (other j k ws refl)
wrong_map n (a_question k) other = refl

pub no_map_gets : (n : Named) (found : Option Object) (o : Object) (before after : Option Shown) → found ≡ Some o → ((source target : ℕ) (images : List (List ℤ)) → o ≢ a_map source target images) → Gets (at cause.WrongKind n.place) before after → Gets (not_a_map n found) before after
no_map_gets n found o before after e other h = gets_of (not_a_map n found) (at cause.WrongKind n.place) before after (ap (not_a_map n) e ∙ wrong_map n o other) h

pub unknown_map_gets : (n : Named) (found : Option Object) (before after : Option Shown) → found ≡ None → Gets (at cause.UnknownName n.place) before after → Gets (not_a_map n found) before after
unknown_map_gets n found before after e h = gets_of (not_a_map n found) (at cause.UnknownName n.place) before after (ap (not_a_map n) e) h

pub question_gets : (n : Named) (found : Option Object) (o : Object) (place : ℕ) (before : Option Shown) → found ≡ Some o → o ≡ a_question place → Gets (not_a_question n found) before before
question_gets n found o place before e f = gets_of (not_a_question n found) [] before before (ap (not_a_question n) e ∙ ap (λ (x : Object). not_a_question n (Some x)) f) (gets_none before)

wrong_question : (n : Named) (o : Object) → ((place : ℕ) → o ≢ a_question place) → not_a_question n (Some o) ≡ at cause.WrongKind n.place
wrong_question n (a_group k) other = refl
wrong_question n (a_word k w) other = refl
wrong_question n (a_subgroup k ws) other = refl
wrong_question n (a_map j k ws) other = refl
wrong_question n (a_question k) other = absurd (other k refl)

pub no_question_gets : (n : Named) (found : Option Object) (o : Object) (before after : Option Shown) → found ≡ Some o → ((place : ℕ) → o ≢ a_question place) → Gets (at cause.WrongKind n.place) before after → Gets (not_a_question n found) before after
no_question_gets n found o before after e other h = gets_of (not_a_question n found) (at cause.WrongKind n.place) before after (ap (not_a_question n) e ∙ wrong_question n o other) h

pub unknown_question_gets : (n : Named) (found : Option Object) (before after : Option Shown) → found ≡ None → Gets (at cause.UnknownName n.place) before after → Gets (not_a_question n found) before after
unknown_question_gets n found before after e h = gets_of (not_a_question n found) (at cause.UnknownName n.place) before after (ap (not_a_question n) e) h
