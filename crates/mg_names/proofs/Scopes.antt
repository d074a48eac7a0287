-- What holds of all that statements declare is kept by each statement that shows no cause.
use Rattle.std.proofs.Common.{◌≡◌, ℕ, zero, suc, ℤ, ◌+◌, ◌<◌, ◌≤◌, Bool, true, false, Option, Some, None, List, [], ◌∷◌, ◌++◌, map, length, refl, sym, ap, subst, ◌∙◌, arith}
use Rattle.std.specs.Prelude.{nat_lt, slice_get, if◌then◌else◌, ◌==◌, ◌&&◌, ◌||◌, not, IfSome, Contains}
use Rattle.std.specs.List.{AllByRecursion}
use Rattle.std.proofs.lemmas.Bool.{ltb-false}
use Rattle.std.proofs.lemmas.Bool.Decides.{Decides-eqb, Decides-ltb}
use Rattle.std.proofs.lemmas.List.{length-map, length-append}
use Rattle.std.proofs.lemmas.List.Elements.{Contains-append_left, Contains-push}
use Rattle.mg_words.specs.declared.procedure.Procedure.{Procedure}
use Rattle.mg_words.specs.declared.procedure.Procedure.TheVariants as procedure
use Rattle.mg_lex.specs.declared.refusal.Cause.TheVariants as cause
use Rattle.mg_present.specs.Presentation.{IsRelator}
use Rattle.mg_present.specs.Ask.{Inquiry}
use Rattle.mg_present.specs.declared.ask.TheConstants.{MOST_GOALS}
use Rattle.mg_questions.specs.declared.question.Question as asked
use Rattle.mg_questions.specs.declared.question.TheConstants.{MOST_GOAL_LETTERS}
use Rattle.mg_questions.specs.Goals.{group_of, goals_of}
use Rattle.mg_questions.specs.Asking.{IsGiven, AreGiven, IsFit, AreAllowed}
use Rattle.mg_script.specs.declared.form.Property.{Property}
use Rattle.mg_script.specs.declared.form.Property.TheVariants as property
use Rattle.mg_script.specs.declared.form.Printed.TheVariants as printed
use Rattle.mg_script.specs.declared.script.ScriptLine.{ScriptLine}
use Rattle.mg_lex.specs.declared.limits.TheConstants.{NUMBER_LIMIT}
use Rattle.mg_names.specs.declared.limits.TheConstants.{ASK_LETTER_LIMIT, REWRITE_LIMIT, COSET_LIMIT}
use Rattle.mg_names.specs.declared.plan.TheConstants.{MOST_SEARCHES}
use Rattle.mg_names.specs.Plan.{Plan, PlanGroup, PlanQuestion, Asked, plain, Step, AskOf}
use Rattle.mg_names.specs.Plan as steps
use Rattle.mg_present.specs.Applies.{Applies}
use Rattle.mg_names.specs.IsPlan.{CanBeAsked, IsStep, GrantsOneOf}
use Rattle.mg_names.specs.Named.{Named, named, one, round, commutator, bare, power, Word, single, times, Relation, Arrow, Question, equal, member, vanishes, central, has, Statement, group, word, subgroup, mapping, ask, fund, grant, run, cancel, report}
use Rattle.mg_names.specs.Scope.{Object, a_group, a_word, a_subgroup, a_map, a_question, Declared, Scope, nothing, lookup, same_text}
use Rattle.mg_names.specs.Meaning.{value, relator_of, relations_in, texts, or_no_group, group_at, image_of_generator, value_or_none, images, Asking, property_asked, equality_asked, membership_asked, kernel_asked, centrality_asked, question_named, ask_for, ask_letters, same_procedure, is_named, named_too, declaring, stepping, with_group, with_question, declares_word, declares_subgroup, declares_map, declares_question, grants, cancels, declared_group, after}
use Rattle.mg_names.specs.Cause.{Shown, at, taken, in_question, has_long, too_large, too_large_unless, is_empty, has_generator, applies, of_asked, not_applying, of_procedure, one_more_is_too_many, too_many_searches, not_applying_to, not_a_question, third_place, shown}
use Rattle.mg_names.specs.Within.{IsPlanGroup, IsGroupAt, HasWords, HasImages, IsObject, AsksFor, IsScope, IsSizedWord, IsSizedRelation, IsSizedQuestion, IsSizedGroup, AreSizedWords, IsSized}
use Rattle.mg_names.proofs.Members.{get_append, get_last, get_past, all_append, all_more, all_map, all_of, all_get, zip_append, zip_more, zip_get, none_left, none_right, none_if, none_unless, contains_head, contains_tail}
use Rattle.mg_names.proofs.Bounds.{AreNamesAt, looked_up, nil_given, value_given, relator_given}

-- a plan with more groups and questions behind those of another
pub record Grows (old new : Plan) : Type 0 where
  pub groups : (i : ℕ) (g : PlanGroup) → slice_get old.groups i ≡ Some g → slice_get new.groups i ≡ Some g
  pub questions : (i : ℕ) (q : PlanQuestion) → slice_get old.questions i ≡ Some q → slice_get new.questions i ≡ Some q
  pub count : length old.questions ≤ length new.questions

object_grows : (old new : Plan) → Grows old new → (o : Object) → IsObject old o → IsObject new o
object_grows old new grows (a_group place) h = (h.0, grows.groups place h.0 h.1)
object_grows old new grows (a_word home w) h = record { group = h.group; there = grows.groups home h.group h.there; given = h.given }
object_grows old new grows (a_subgroup home ws) h = record { group = h.group; there = grows.groups home h.group h.there; given = h.given }
object_grows old new grows (a_map source target images) h = record {
  from = h.from;
  from_there = grows.groups source h.from h.from_there;
  to = h.to;
  to_there = grows.groups target h.to h.to_there;
  given = h.given;
  each = h.each;
}
object_grows old new grows (a_question place) h = (h.0, grows.questions place h.0 h.1)

can_grows : (old new : Plan) → Grows old new → (q : ℕ) (p : Procedure) → CanBeAsked old q p → CanBeAsked new q p
can_grows old new grows q p h = record { ask = h.ask; asked = (h.asked.0, grows.questions q h.asked.0 h.asked.1, h.asked.2); applies = h.applies }

step_grows : (old new : Plan) → Grows old new → (s : Step) → IsStep old s → IsStep new s
step_grows old new grows (steps.fund units) h = h
step_grows old new grows (steps.grant q p units) h = (can_grows old new grows q p h.0, h.1)
step_grows old new grows (steps.run bound) h = h
step_grows old new grows (steps.cancel q p) h = can_grows old new grows q p h
step_grows old new grows (steps.report count) h = omega (arith, h, grows.count)
step_grows old new grows steps.report_facts h = tt
step_grows old new grows steps.report_log h = tt

asks_grows : (old new : Plan) → Grows old new → (q : PlanQuestion) (question : asked.Question) → AsksFor old q question → AsksFor new q question
asks_grows old new grows q question h = record {
  asked = h.asked;
  fit = h.fit;
  allowed = h.allowed;
  group = h.group;
  there = grows.groups q.group h.group h.there;
  same = h.same;
}

names_grow : (old new : Plan) → Grows old new → (ds : List Declared) → AllByRecursion (λ d. IsObject old d.object) ds → AllByRecursion (λ d. IsObject new d.object) ds
names_grow old new grows ds h = all_more (λ (d : Declared). IsObject old d.object) (λ (d : Declared). IsObject new d.object) (λ d k. object_grows old new grows d.object k) ds h

-- the three ways in which a scope grows
declared_keeps : (lines : ℕ) (scope : Scope) → IsScope lines scope → (n : Named) (o : Object) → IsObject scope.plan o → IsScope lines (declaring scope n o)
declared_keeps lines scope is n o object = record {
  groups = is.groups;
  names = all_append (λ (d : Declared). IsObject scope.plan d.object) scope.names (record { name = n.text; object = o } ∷ []) is.names (object, tt);
  questions = is.questions;
  steps = is.steps;
  letters = is.letters;
  searches = is.searches;
  granted = is.granted;
  few_groups = is.few_groups;
  few_questions = is.few_questions;
  few_steps = is.few_steps;
}

grouped_grows : (scope : Scope) (g : PlanGroup) → Grows scope.plan (with_group scope g).plan
grouped_grows scope g = record {
  groups = λ i h e. get_append scope.plan.groups (g ∷ []) i h e;
  questions = λ i q e. e;
  count = omega arith;
}

grouped_keeps : (lines : ℕ) (scope : Scope) → IsScope lines scope → (g : PlanGroup) → IsPlanGroup g → IsScope (suc lines) (with_group scope g)
grouped_keeps lines scope is g presented =
    let new : Plan = (with_group scope g).plan in
    let grows = grouped_grows scope g in
    record {
      groups = all_append IsPlanGroup scope.plan.groups (g ∷ []) is.groups (presented, tt);
      names = names_grow scope.plan new grows scope.names is.names;
      questions = zip_more (AsksFor scope.plan) (AsksFor new) (asks_grows scope.plan new grows) scope.plan.questions scope.questions is.questions;
      steps = all_more (IsStep scope.plan) (IsStep new) (step_grows scope.plan new grows) scope.plan.steps is.steps;
      letters = is.letters;
      searches = is.searches;
      granted = is.granted;
      few_groups = omega (arith, length-append scope.plan.groups (g ∷ []), is.few_groups);
      few_questions = omega (arith, is.few_questions);
      few_steps = omega (arith, is.few_steps);
    }

-- a question that may be asked in a group that is there
pub record IsAsking (plan : Plan) (a : Asking) : Type 0 where
  pub fit : IsFit a.question
  pub group : PlanGroup
  pub there : IsGroupAt plan a.group group
  pub same : group.group ≡ group_of a.question

questioned_keeps : (lines : ℕ) (scope : Scope) → IsScope lines scope → (n : Named) (a : Asking) → IsAsking scope.plan a → AreAllowed (goals_of a.question) → scope.letters + ask_letters (ask_for a.question) ≤ ASK_LETTER_LIMIT
    → IsScope (suc lines) (declares_question scope n (Some a))
questioned_keeps lines scope is n a asking allowed few =
    let q : PlanQuestion = record { name = n.text; group = a.group; asked = plain (ask_for a.question) } in
    let mid : Scope = with_question scope q a.question (ask_letters (ask_for a.question)) in
    let new : Plan = mid.plan in
    let grows : Grows scope.plan new = record {
      groups = λ i g e. e;
      questions = λ i r e. get_append scope.plan.questions (q ∷ []) i r e;
      count = omega (arith, length-append scope.plan.questions (q ∷ []));
    } in
    let asks : AsksFor new q a.question = record { asked = refl; fit = asking.fit; allowed = allowed; group = asking.group; there = asking.there; same = asking.same } in
    let kept : IsScope (suc lines) mid = record {
      groups = is.groups;
      names = names_grow scope.plan new grows scope.names is.names;
      questions = zip_append (AsksFor new) scope.plan.questions scope.questions q a.question
          (zip_more (AsksFor scope.plan) (AsksFor new) (asks_grows scope.plan new grows) scope.plan.questions scope.questions is.questions) asks;
      steps = all_more (IsStep scope.plan) (IsStep new) (step_grows scope.plan new grows) scope.plan.steps is.steps;
      letters = few;
      searches = is.searches;
      granted = is.granted;
      few_groups = omega (arith, is.few_groups);
      few_questions = omega (arith, length-append scope.plan.questions (q ∷ []), is.few_questions);
      few_steps = omega (arith, is.few_steps);
    } in
    declared_keeps (suc lines) mid kept n (a_question (length scope.plan.questions)) (q, get_last scope.plan.questions q)

granted_grows : (old new : List (ℕ × Procedure)) → ((q : ℕ) (p : Procedure) → Contains old (q, p) → Contains new (q, p)) → (s : Step) → GrantsOneOf old s → GrantsOneOf new s
granted_grows old new more (steps.fund units) h = tt
granted_grows old new more (steps.grant q p units) h = more q p h
granted_grows old new more (steps.run bound) h = tt
granted_grows old new more (steps.cancel q p) h = tt
granted_grows old new more (steps.report count) h = tt
granted_grows old new more steps.report_facts h = tt
granted_grows old new more steps.report_log h = tt

stepped_keeps : (lines : ℕ) (scope : Scope) → IsScope lines scope → (searches : List (ℕ × Procedure)) (step : Step) → length searches ≤ MOST_SEARCHES → ((q : ℕ) (p : Procedure) → Contains scope.searches (q, p) → Contains searches (q, p)) → GrantsOneOf searches step
    → IsStep scope.plan step → IsScope (suc lines) (stepping (record scope { searches = searches }) step)
stepped_keeps lines scope is searches step few more granted fits =
    let mid : Scope = record scope { searches = searches } in
    let new : Plan = (stepping mid step).plan in
    let grows : Grows scope.plan new = record { groups = λ i g e. e; questions = λ i q e. e; count = omega arith } in
    record {
      groups = is.groups;
      names = names_grow scope.plan new grows scope.names is.names;
      questions = zip_more (AsksFor scope.plan) (AsksFor new) (asks_grows scope.plan new grows) scope.plan.questions scope.questions is.questions;
      steps = all_append (IsStep new) scope.plan.steps (step ∷ []) (all_more (IsStep scope.plan) (IsStep new) (step_grows scope.plan new grows) scope.plan.steps is.steps)
          (step_grows scope.plan new grows step fits, tt);
      letters = is.letters;
      searches = few;
      granted = all_append (GrantsOneOf searches) scope.plan.steps (step ∷ [])
          (all_more (GrantsOneOf scope.searches) (GrantsOneOf searches) (granted_grows scope.searches searches more) scope.plan.steps is.granted) (granted, tt);
      few_groups = omega (arith, is.few_groups);
      few_questions = omega (arith, is.few_questions);
      few_steps = omega (arith, length-append scope.plan.steps (step ∷ []), is.few_steps);
    }

more_lines : (lines : ℕ) (scope : Scope) → IsScope lines scope → IsScope (suc lines) scope
more_lines lines scope is = record {
  groups = is.groups;
  names = is.names;
  questions = is.questions;
  steps = is.steps;
  letters = is.letters;
  searches = is.searches;
  granted = is.granted;
  few_groups = omega (arith, is.few_groups);
  few_questions = omega (arith, is.few_questions);
  few_steps = omega (arith, is.few_steps);
}

-- groups that are there
pub group_is : (scope : Scope) (place : ℕ) (g : PlanGroup) → IsGroupAt scope.plan place g → group_at scope place ≡ g
group_is scope place g there = ap or_no_group there

pub names_at : (lines : ℕ) (scope : Scope) → IsScope lines scope → (place : ℕ) → AreNamesAt scope.plan place (group_at scope place).generators
names_at lines scope is place g there =
    ap (λ (h : PlanGroup). length h.generators) (group_is scope place g there) ∙ (all_get IsPlanGroup scope.plan.groups place g is.groups there).named

pub in_group : (lines : ℕ) (scope : Scope) → IsScope lines scope → (place : ℕ) (w : Word) (g : PlanGroup) → IsGroupAt scope.plan place g → IsSizedWord w
    → IsGiven g.group.generators (value scope.names place (group_at scope place).generators w)
in_group lines scope is place w g there sized =
    let at_place = names_at lines scope is place in
    let e : length (group_at scope place).generators ≡ g.group.generators = at_place g there in
    subst (λ (m : ℕ). IsGiven m (value scope.names place (group_at scope place).generators w)) e
    (value_given scope.plan scope.names place (group_at scope place).generators w is.names at_place sized)

-- what a name stands for
pub name_object : (lines : ℕ) (scope : Scope) → IsScope lines scope → (text : List ℕ) (o : Object) → lookup scope.names text ≡ Some o → IsObject scope.plan o
name_object lines scope is text o e = looked_up (IsObject scope.plan) scope.names text o is.names e

abbrev IsFound : Scope → Option Object → Type 0
IsFound scope found = (o : Object) → found ≡ Some o → IsObject scope.plan o

-- declarations
word_keeps : (lines : ℕ) (scope : Scope) → IsScope lines scope → (n : Named) (w : Word) (found : Option Object) → IsFound scope found → IsSizedWord w → IsScope lines (declares_word scope n w found)
word_keeps lines scope is n w None object sized = is
word_keeps lines scope is n w (Some (a_group place)) object sized =
    let g = object (a_group place) refl in
    declared_keeps lines scope is n (a_word place (value scope.names place (group_at scope place).generators w))
    (record { group = g.0; there = g.1; given = in_group lines scope is place w g.0 g.1 sized })
word_keeps lines scope is n w (Some (a_word home v)) object sized = is
word_keeps lines scope is n w (Some (a_subgroup home ws)) object sized = is
word_keeps lines scope is n w (Some (a_map source target images)) object sized = is
word_keeps lines scope is n w (Some (a_question place)) object sized = is

words_given : (lines : ℕ) (scope : Scope) → IsScope lines scope → (place : ℕ) (ws : List Word) (g : PlanGroup) → IsGroupAt scope.plan place g → AreSizedWords ws
    → AreGiven g.group.generators (map (value scope.names place (group_at scope place).generators) ws)
words_given lines scope is place ws g there sized =
    let f : Word → List ℤ = value scope.names place (group_at scope place).generators in
    record {
      each = all_map (IsGiven g.group.generators) f ws (all_more IsSizedWord (λ (w : Word). IsGiven g.group.generators (f w)) (λ w k. in_group lines scope is place w g there k) ws sized.each);
      count = omega (arith, length-map ws f, sized.few);
    }

subgroup_keeps : (lines : ℕ) (scope : Scope) → IsScope lines scope → (n : Named) (ws : List Word) (found : Option Object) → IsFound scope found → AreSizedWords ws → IsScope lines (declares_subgroup scope n ws found)
subgroup_keeps lines scope is n ws None object sized = is
subgroup_keeps lines scope is n ws (Some (a_group place)) object sized =
    let g = object (a_group place) refl in
    declared_keeps lines scope is n (a_subgroup place (map (value scope.names place (group_at scope place).generators) ws))
    (record { group = g.0; there = g.1; given = words_given lines scope is place ws g.0 g.1 sized })
subgroup_keeps lines scope is n ws (Some (a_word home v)) object sized = is
subgroup_keeps lines scope is n ws (Some (a_subgroup home vs)) object sized = is
subgroup_keeps lines scope is n ws (Some (a_map source target images)) object sized = is
subgroup_keeps lines scope is n ws (Some (a_question place)) object sized = is

-- the image of a generator
image_sized_head : (b : Bool) (first : Word) (others : Option Word) → IsSizedWord first → ((w : Word) → others ≡ Some w → IsSizedWord w) → (w : Word) → (if b then Some first else others) ≡ Some w → IsSizedWord w
image_sized_head true first others here there w e = let same : first ≡ w = cc in subst IsSizedWord same here
image_sized_head false first others here there w e = there w e

image_sized : (arrows : List Arrow) (text : List ℕ) → AllByRecursion (λ a. IsSizedWord a.image) arrows → (w : Word) → image_of_generator arrows text ≡ Some w → IsSizedWord w
image_sized [] text sized w e = absurd cc
image_sized (a ∷ arrows) text sized w e = image_sized_head (same_text a.generator.text text) a.image (image_of_generator arrows text) sized.0 (image_sized arrows text sized.1) w e

image_given : (lines : ℕ) (scope : Scope) → IsScope lines scope → (target : ℕ) (g : PlanGroup) → IsGroupAt scope.plan target g → (o : Option Word) → ((w : Word) → o ≡ Some w → IsSizedWord w) → IsGiven g.group.generators (value_or_none scope target o)
image_given lines scope is target g there None sized = nil_given g.group.generators
image_given lines scope is target g there (Some w) sized = in_group lines scope is target w g there (sized w refl)

map_object : (lines : ℕ) (scope : Scope) → IsScope lines scope → (source target : ℕ) (arrows : List Arrow) (g h : PlanGroup) → IsGroupAt scope.plan source g → IsGroupAt scope.plan target h → AllByRecursion (λ a. IsSizedWord a.image) arrows
    → HasImages scope.plan source target (images scope source target arrows)
map_object lines scope is source target arrows g h from to sized =
    let f : List ℕ → List ℤ = λ text. value_or_none scope target (image_of_generator arrows text) in
    let named : length (group_at scope source).generators ≡ g.group.generators = names_at lines scope is source g from in
    let few = (all_get IsPlanGroup scope.plan.groups source g is.groups from).presented.generators in
    record {
      from = g;
      from_there = from;
      to = h;
      to_there = to;
      given = record {
        each = all_map (IsGiven h.group.generators) f (group_at scope source).generators
            (all_of (λ (text : List ℕ). IsGiven h.group.generators (f text)) (λ text. image_given lines scope is target h to (image_of_generator arrows text) (image_sized arrows text sized)) (group_at scope source).generators);
        count = omega (arith, length-map (group_at scope source).generators f, named, few);
      };
      each = length-map (group_at scope source).generators f ∙ named;
    }

map_keeps : (lines : ℕ) (scope : Scope) → IsScope lines scope → (n : Named) (arrows : List Arrow) (from to : Option Object) → IsFound scope from → IsFound scope to → AllByRecursion (λ a. IsSizedWord a.image) arrows → IsScope lines (declares_map scope n arrows from to)
map_keeps lines scope is n arrows None to object other sized = is
map_keeps lines scope is n arrows (Some (a_group source)) None object other sized = is
map_keeps lines scope is n arrows (Some (a_group source)) (Some (a_group target)) object other sized =
    let g = object (a_group source) refl in
    let h = other (a_group target) refl in
    declared_keeps lines scope is n (a_map source target (images scope source target arrows)) (map_object lines scope is source target arrows g.0 h.0 g.1 h.1 sized)
map_keeps lines scope is n arrows (Some (a_group source)) (Some (a_word home v)) object other sized = is
map_keeps lines scope is n arrows (Some (a_group source)) (Some (a_subgroup home vs)) object other sized = is
map_keeps lines scope is n arrows (Some (a_group source)) (Some (a_map k j ws)) object other sized = is
map_keeps lines scope is n arrows (Some (a_group source)) (Some (a_question place)) object other sized = is
map_keeps lines scope is n arrows (Some (a_word home v)) to object other sized = is
map_keeps lines scope is n arrows (Some (a_subgroup home vs)) to object other sized = is
map_keeps lines scope is n arrows (Some (a_map k j ws)) to object other sized = is
map_keeps lines scope is n arrows (Some (a_question place)) to object other sized = is

pub group_keeps : (lines : ℕ) (scope : Scope) → IsScope lines scope → (n : Named) (generators : List Named) (rs : List Relation) → IsSizedGroup (length generators) (length rs) rs
    → IsScope (suc lines) (declaring (with_group scope (declared_group scope n generators rs)) n (a_group (length scope.plan.groups)))
group_keeps lines scope is n generators rs sized =
    let f : Relation → List ℤ = relator_of scope.names (length scope.plan.groups) (texts generators) in
    let g : PlanGroup = declared_group scope n generators rs in
    let count : length (texts generators) ≡ length generators = length-map generators (λ (m : Named). m.text) in
    let new : (h : PlanGroup) → IsGroupAt scope.plan (length scope.plan.groups) h → ⊥ = λ h e. get_past scope.plan.groups h e in
    let given : AllByRecursion (λ (r : Relation). IsGiven (length generators) (f r)) rs =
    all_more IsSizedRelation (λ (r : Relation). IsGiven (length generators) (f r))
    (λ r k. subst (λ (m : ℕ). IsGiven m (f r)) count (relator_given scope.plan scope.names (length scope.plan.groups) (texts generators) r is.names new k)) rs sized.each in
    let presented : IsPlanGroup g = record {
      presented = record {
        generators = sized.few_generators;
        count = omega (arith, length-map rs f, sized.few_relations);
        relators = all_map (IsRelator (length generators)) f rs
            (all_more (λ (r : Relation). IsGiven (length generators) (f r)) (λ (r : Relation). IsRelator (length generators) (f r)) (λ r k. record { over = k.over; reduced = k.reduced; short = k.short }) rs given);
      };
      named = count;
    } in
    declared_keeps (suc lines) (with_group scope g) (grouped_keeps lines scope is g presented) n (a_group (length scope.plan.groups)) (g, get_last scope.plan.groups g)

-- questions
at_place : (scope : Scope) (place : ℕ) → ((g : PlanGroup) × IsGroupAt scope.plan place g) → IsGroupAt scope.plan place (group_at scope place)
at_place scope place there = there.1 ∙ ap (λ (g : PlanGroup). Some g) (sym (group_is scope place there.0 there.1))

given_at : (scope : Scope) (place : ℕ) (g : PlanGroup) (ws : List (List ℤ)) → IsGroupAt scope.plan place g → AreGiven g.group.generators ws → AreGiven (group_at scope place).group.generators ws
given_at scope place g ws there given = subst (λ (h : PlanGroup). AreGiven h.group.generators ws) (sym (group_is scope place g there)) given

equality_asking : (lines : ℕ) (scope : Scope) → IsScope lines scope → (u v : Word) (found : Option Object) → IsFound scope found → IsSizedWord u → IsSizedWord v → IfSome (equality_asked scope u v found) (IsAsking scope.plan)
equality_asking lines scope is u (single (bare (named n))) None object left right = tt
equality_asking lines scope is u (single (bare (named n))) (Some (a_group place)) object left right =
    let here = at_place scope place (object (a_group place) refl) in
    record { fit = (in_group lines scope is place u (group_at scope place) here left, in_group lines scope is place (single (bare (named n))) (group_at scope place) here right); group = group_at scope place; there = here; same = refl }
equality_asking lines scope is u (single (bare (named n))) (Some (a_word place x)) object left right = tt
equality_asking lines scope is u (single (bare (named n))) (Some (a_subgroup place ws)) object left right = tt
equality_asking lines scope is u (single (bare (named n))) (Some (a_map source target images)) object left right = tt
equality_asking lines scope is u (single (bare (named n))) (Some (a_question place)) object left right = tt
equality_asking lines scope is u (single (bare one)) None object left right = tt
equality_asking lines scope is u (single (bare one)) (Some (a_group place)) object left right =
    let here = at_place scope place (object (a_group place) refl) in
    record { fit = in_group lines scope is place u (group_at scope place) here left; group = group_at scope place; there = here; same = refl }
equality_asking lines scope is u (single (bare one)) (Some (a_word place x)) object left right = tt
equality_asking lines scope is u (single (bare one)) (Some (a_subgroup place ws)) object left right = tt
equality_asking lines scope is u (single (bare one)) (Some (a_map source target images)) object left right = tt
equality_asking lines scope is u (single (bare one)) (Some (a_question place)) object left right = tt
equality_asking lines scope is u (single (bare (round y))) None object left right = tt
equality_asking lines scope is u (single (bare (round y))) (Some (a_group place)) object left right =
    let here = at_place scope place (object (a_group place) refl) in
    record { fit = (in_group lines scope is place u (group_at scope place) here left, in_group lines scope is place (single (bare (round y))) (group_at scope place) here right); group = group_at scope place; there = here; same = refl }
equality_asking lines scope is u (single (bare (round y))) (Some (a_word place x)) object left right = tt
equality_asking lines scope is u (single (bare (round y))) (Some (a_subgroup place ws)) object left right = tt
equality_asking lines scope is u (single (bare (round y))) (Some (a_map source target images)) object left right = tt
equality_asking lines scope is u (single (bare (round y))) (Some (a_question place)) object left right = tt
equality_asking lines scope is u (single (bare (commutator y z))) None object left right = tt
equality_asking lines scope is u (single (bare (commutator y z))) (Some (a_group place)) object left right =
    let here = at_place scope place (object (a_group place) refl) in
    record { fit = (in_group lines scope is place u (group_at scope place) here left, in_group lines scope is place (single (bare (commutator y z))) (group_at scope place) here right); group = group_at scope place; there = here; same = refl }
equality_asking lines scope is u (single (bare (commutator y z))) (Some (a_word place x)) object left right = tt
equality_asking lines scope is u (single (bare (commutator y z))) (Some (a_subgroup place ws)) object left right = tt
equality_asking lines scope is u (single (bare (commutator y z))) (Some (a_map source target images)) object left right = tt
equality_asking lines scope is u (single (bare (commutator y z))) (Some (a_question place)) object left right = tt
equality_asking lines scope is u (single (power b negative k)) None object left right = tt
equality_asking lines scope is u (single (power b negative k)) (Some (a_group place)) object left right =
    let here = at_place scope place (object (a_group place) refl) in
    record { fit = (in_group lines scope is place u (group_at scope place) here left, in_group lines scope is place (single (power b negative k)) (group_at scope place) here right); group = group_at scope place; there = here; same = refl }
equality_asking lines scope is u (single (power b negative k)) (Some (a_word place x)) object left right = tt
equality_asking lines scope is u (single (power b negative k)) (Some (a_subgroup place ws)) object left right = tt
equality_asking lines scope is u (single (power b negative k)) (Some (a_map source target images)) object left right = tt
equality_asking lines scope is u (single (power b negative k)) (Some (a_question place)) object left right = tt
equality_asking lines scope is u (times y star f) None object left right = tt
equality_asking lines scope is u (times y star f) (Some (a_group place)) object left right =
    let here = at_place scope place (object (a_group place) refl) in
    record { fit = (in_group lines scope is place u (group_at scope place) here left, in_group lines scope is place (times y star f) (group_at scope place) here right); group = group_at scope place; there = here; same = refl }
equality_asking lines scope is u (times y star f) (Some (a_word place x)) object left right = tt
equality_asking lines scope is u (times y star f) (Some (a_subgroup place ws)) object left right = tt
equality_asking lines scope is u (times y star f) (Some (a_map source target images)) object left right = tt
equality_asking lines scope is u (times y star f) (Some (a_question place)) object left right = tt

membership_asking : (lines : ℕ) (scope : Scope) → IsScope lines scope → (w : Word) (found : Option Object) → IsFound scope found → IsSizedWord w → IfSome (membership_asked scope w found) (IsAsking scope.plan)
membership_asking lines scope is w None object sized = tt
membership_asking lines scope is w (Some (a_group place)) object sized = tt
membership_asking lines scope is w (Some (a_word place x)) object sized = tt
membership_asking lines scope is w (Some (a_subgroup place ws)) object sized =
    let has : HasWords scope.plan place ws = object (a_subgroup place ws) refl in
    let here = at_place scope place (has.group, has.there) in
    record {
      fit = (given_at scope place has.group ws has.there has.given, in_group lines scope is place w (group_at scope place) here sized);
      group = group_at scope place;
      there = here;
      same = refl;
    }
membership_asking lines scope is w (Some (a_map source target images)) object sized = tt
membership_asking lines scope is w (Some (a_question place)) object sized = tt

kernel_asking : (lines : ℕ) (scope : Scope) → IsScope lines scope → (w : Word) (found : Option Object) → IsFound scope found → IsSizedWord w → IfSome (kernel_asked scope w found) (IsAsking scope.plan)
kernel_asking lines scope is w None object sized = tt
kernel_asking lines scope is w (Some (a_group place)) object sized = tt
kernel_asking lines scope is w (Some (a_word place x)) object sized = tt
kernel_asking lines scope is w (Some (a_subgroup place ws)) object sized = tt
kernel_asking lines scope is w (Some (a_map source target images)) object sized =
    let has : HasImages scope.plan source target images = object (a_map source target images) refl in
    record {
      fit = (
        given_at scope target has.to images has.to_there has.given,
        subst (λ (m : ℕ). IsGiven m (value scope.names source (group_at scope source).generators w)) (sym has.each) (in_group lines scope is source w has.from has.from_there sized),
      );
      group = group_at scope target;
      there = at_place scope target (has.to, has.to_there);
      same = refl;
    }
kernel_asking lines scope is w (Some (a_question place)) object sized = tt

centrality_asking : (lines : ℕ) (scope : Scope) → IsScope lines scope → (w : Word) (found : Option Object) → IsFound scope found → IsSizedWord w → IfSome (centrality_asked scope w found) (IsAsking scope.plan)
centrality_asking lines scope is w None object sized = tt
centrality_asking lines scope is w (Some (a_group place)) object sized =
    let here = at_place scope place (object (a_group place) refl) in
    record { fit = in_group lines scope is place w (group_at scope place) here sized; group = group_at scope place; there = here; same = refl }
centrality_asking lines scope is w (Some (a_word place x)) object sized = tt
centrality_asking lines scope is w (Some (a_subgroup place ws)) object sized = tt
centrality_asking lines scope is w (Some (a_map source target images)) object sized = tt
centrality_asking lines scope is w (Some (a_question place)) object sized = tt

property_asking : (lines : ℕ) (scope : Scope) → IsScope lines scope → (p : Property) (found : Option Object) → IsFound scope found → IfSome (property_asked scope p found) (IsAsking scope.plan)
property_asking lines scope is property.Trivial None object = tt
property_asking lines scope is property.Trivial (Some (a_group place)) object =
    record { fit = tt; group = group_at scope place; there = at_place scope place (object (a_group place) refl); same = refl }
property_asking lines scope is property.Trivial (Some (a_word place x)) object = tt
property_asking lines scope is property.Trivial (Some (a_subgroup place ws)) object = tt
property_asking lines scope is property.Trivial (Some (a_map source target images)) object = tt
property_asking lines scope is property.Trivial (Some (a_question place)) object = tt
property_asking lines scope is property.Abelian None object = tt
property_asking lines scope is property.Abelian (Some (a_group place)) object =
    record { fit = tt; group = group_at scope place; there = at_place scope place (object (a_group place) refl); same = refl }
property_asking lines scope is property.Abelian (Some (a_word place x)) object = tt
property_asking lines scope is property.Abelian (Some (a_subgroup place ws)) object = tt
property_asking lines scope is property.Abelian (Some (a_map source target images)) object = tt
property_asking lines scope is property.Abelian (Some (a_question place)) object = tt
property_asking lines scope is property.Normal None object = tt
property_asking lines scope is property.Normal (Some (a_group place)) object = tt
property_asking lines scope is property.Normal (Some (a_word place x)) object = tt
property_asking lines scope is property.Normal (Some (a_subgroup place ws)) object =
    let has : HasWords scope.plan place ws = object (a_subgroup place ws) refl in
    record {
      fit = given_at scope place has.group ws has.there has.given;
      group = group_at scope place;
      there = at_place scope place (has.group, has.there);
      same = refl;
    }
property_asking lines scope is property.Normal (Some (a_map source target images)) object = tt
property_asking lines scope is property.Normal (Some (a_question place)) object = tt
property_asking lines scope is property.Extends None object = tt
property_asking lines scope is property.Extends (Some (a_group place)) object = tt
property_asking lines scope is property.Extends (Some (a_word place x)) object = tt
property_asking lines scope is property.Extends (Some (a_subgroup place ws)) object = tt
property_asking lines scope is property.Extends (Some (a_map source target images)) object =
    let has : HasImages scope.plan source target images = object (a_map source target images) refl in
    let from = at_place scope source (has.from, has.from_there) in
    let same : (group_at scope source).group.generators ≡ has.from.group.generators = ap (λ (g : PlanGroup). g.group.generators) (group_is scope source has.from has.from_there) in
    record {
      fit = ((all_get IsPlanGroup scope.plan.groups source (group_at scope source) is.groups from).presented, given_at scope target has.to images has.to_there has.given, omega (arith, has.each, same));
      group = group_at scope target;
      there = at_place scope target (has.to, has.to_there);
      same = refl;
    }
property_asking lines scope is property.Extends (Some (a_question place)) object = tt
property_asking lines scope is property.Onto None object = tt
property_asking lines scope is property.Onto (Some (a_group place)) object = tt
property_asking lines scope is property.Onto (Some (a_word place x)) object = tt
property_asking lines scope is property.Onto (Some (a_subgroup place ws)) object = tt
property_asking lines scope is property.Onto (Some (a_map source target images)) object =
    let has : HasImages scope.plan source target images = object (a_map source target images) refl in
    record {
      fit = given_at scope target has.to images has.to_there has.given;
      group = group_at scope target;
      there = at_place scope target (has.to, has.to_there);
      same = refl;
    }
property_asking lines scope is property.Onto (Some (a_question place)) object = tt

pub question_asking : (lines : ℕ) (scope : Scope) → IsScope lines scope → (q : Question) → IsSizedQuestion q → IfSome (question_named scope q) (IsAsking scope.plan)
question_asking lines scope is (equal u v g) sized = equality_asking lines scope is u v (lookup scope.names g.text) (λ o e. name_object lines scope is g.text o e) sized.0 sized.1
question_asking lines scope is (member w h) sized = membership_asking lines scope is w (lookup scope.names h.text) (λ o e. name_object lines scope is h.text o e) sized
question_asking lines scope is (vanishes w f) sized = kernel_asking lines scope is w (lookup scope.names f.text) (λ o e. name_object lines scope is f.text o e) sized
question_asking lines scope is (central w g) sized = centrality_asking lines scope is w (lookup scope.names g.text) (λ o e. name_object lines scope is g.text o e) sized
question_asking lines scope is (has n p) sized = property_asking lines scope is p (lookup scope.names n.text) (λ o e. name_object lines scope is n.text o e)

-- goals that show no cause are allowed
goals_short : (ws : List (List ℤ)) → has_long ws ≡ false → AllByRecursion (λ goal. length goal ≤ MOST_GOAL_LETTERS) ws
goals_short [] e = tt
goals_short (w ∷ ws) e = by_long (nat_lt MOST_GOAL_LETTERS (length w)) refl e (goals_short ws)
  where
    by_long : (b : Bool) → nat_lt MOST_GOAL_LETTERS (length w) ≡ b → (if b then true else has_long ws) ≡ false → (has_long ws ≡ false → AllByRecursion (λ goal. length goal ≤ MOST_GOAL_LETTERS) ws)
        → AllByRecursion (λ goal. length goal ≤ MOST_GOAL_LETTERS) (w ∷ ws)
    by_long true is e' rest = absurd cc
    by_long false is e' rest = (ltb-false MOST_GOAL_LETTERS (length w) is, rest e')

question_keeps : (lines : ℕ) (scope : Scope) → IsScope lines scope → (n : Named) (a : Option Asking) → IfSome a (IsAsking scope.plan) → too_large scope n a ≡ [] → IsScope (suc lines) (declares_question scope n a)
question_keeps lines scope is n None asking none = more_lines lines scope is
question_keeps lines scope is n (Some a) asking none =
    let long_shown : List Shown = if has_long (goals_of a.question) then at cause.WordTooLong n.place else [] in
    let many_shown : List Shown = if nat_lt MOST_GOALS (length (goals_of a.question)) then at cause.TooMany n.place else [] in
    let letters_shown : List Shown = if nat_lt ASK_LETTER_LIMIT (scope.letters + ask_letters (ask_for a.question)) then at cause.TooMany n.place else [] in
    let long : has_long (goals_of a.question) ≡ false = none_if _ _ [] (none_left long_shown (many_shown ++ letters_shown) none) in
    let rest : many_shown ++ letters_shown ≡ [] = none_right long_shown (many_shown ++ letters_shown) none in
    let many : nat_lt MOST_GOALS (length (goals_of a.question)) ≡ false = none_if _ _ [] (none_left many_shown letters_shown rest) in
    let letters : nat_lt ASK_LETTER_LIMIT (scope.letters + ask_letters (ask_for a.question)) ≡ false = none_if _ _ [] (none_right many_shown letters_shown rest) in
    questioned_keeps lines scope is n a asking (record { few = ltb-false MOST_GOALS (length (goals_of a.question)) many; short = goals_short (goals_of a.question) long })
    (ltb-false ASK_LETTER_LIMIT (scope.letters + ask_letters (ask_for a.question)) letters)

-- procedures that apply
pub generator_there : (m : ℕ) → has_generator m ≡ true → 1 ≤ m
generator_there zero e = absurd cc
generator_there (suc m) e = omega arith

pub nothing_there : (ws : List (List ℤ)) → is_empty ws ≡ true → ws ≡ []
nothing_there [] e = refl
nothing_there (w ∷ ws) e = absurd cc

pub applying : (p : Procedure) (a : Inquiry) → applies p a ≡ true → Applies p a
applying procedure.Derive a e = tt
applying procedure.Act a e = generator_there a.group.generators e
applying procedure.Residue a e = generator_there a.group.generators e
applying procedure.Rewrite a e = nothing_there a.subgroup e
applying procedure.Cosets a e = generator_there a.group.generators e
applying procedure.Nielsen a e = nothing_there a.group.relators e
applying procedure.Recall a e = tt

can_be_asked : (lines : ℕ) (scope : Scope) → IsScope lines scope → (place : ℕ) (p : Procedure) (q : PlanQuestion) → slice_get scope.plan.questions place ≡ Some q → (k : ℕ) → not_applying p k (slice_get scope.plan.questions place) ≡ [] → CanBeAsked scope.plan place p
can_be_asked lines scope is place p q there k none =
    let z = zip_get (AsksFor scope.plan) scope.plan.questions scope.questions place q is.questions there in
    let asks : AsksFor scope.plan q z.0 = z.2 in
    let shown_none : of_asked p k (plain (ask_for z.0)) ≡ [] =
    sym (ap (λ (o : Option PlanQuestion). not_applying p k o) there ∙ ap (λ (x : Asked). of_asked p k x) asks.asked) ∙ none in
    record { ask = ask_for z.0; asked = (q, there, asks.asked); applies = applying p (ask_for z.0) (none_unless _ _ [] shown_none) }

-- pairs of a question and a procedure
same_is : (p q : Procedure) → same_procedure p q ≡ true → p ≡ q
same_is procedure.Derive procedure.Derive e = refl
same_is procedure.Derive procedure.Act e = absurd cc
same_is procedure.Derive procedure.Residue e = absurd cc
same_is procedure.Derive procedure.Rewrite e = absurd cc
same_is procedure.Derive procedure.Cosets e = absurd cc
same_is procedure.Derive procedure.Nielsen e = absurd cc
same_is procedure.Derive procedure.Recall e = absurd cc
same_is procedure.Act procedure.Derive e = absurd cc
same_is procedure.Act procedure.Act e = refl
same_is procedure.Act procedure.Residue e = absurd cc
same_is procedure.Act procedure.Rewrite e = absurd cc
same_is procedure.Act procedure.Cosets e = absurd cc
same_is procedure.Act procedure.Nielsen e = absurd cc
same_is procedure.Act procedure.Recall e = absurd cc
same_is procedure.Residue procedure.Derive e = absurd cc
same_is procedure.Residue procedure.Act e = absurd cc
same_is procedure.Residue procedure.Residue e = refl
same_is procedure.Residue procedure.Rewrite e = absurd cc
same_is procedure.Residue procedure.Cosets e = absurd cc
same_is procedure.Residue procedure.Nielsen e = absurd cc
same_is procedure.Residue procedure.Recall e = absurd cc
same_is procedure.Rewrite procedure.Derive e = absurd cc
same_is procedure.Rewrite procedure.Act e = absurd cc
same_is procedure.Rewrite procedure.Residue e = absurd cc
same_is procedure.Rewrite procedure.Rewrite e = refl
same_is procedure.Rewrite procedure.Cosets e = absurd cc
same_is procedure.Rewrite procedure.Nielsen e = absurd cc
same_is procedure.Rewrite procedure.Recall e = absurd cc
same_is procedure.Cosets procedure.Derive e = absurd cc
same_is procedure.Cosets procedure.Act e = absurd cc
same_is procedure.Cosets procedure.Residue e = absurd cc
same_is procedure.Cosets procedure.Rewrite e = absurd cc
same_is procedure.Cosets procedure.Cosets e = refl
same_is procedure.Cosets procedure.Nielsen e = absurd cc
same_is procedure.Cosets procedure.Recall e = absurd cc
same_is procedure.Nielsen procedure.Derive e = absurd cc
same_is procedure.Nielsen procedure.Act e = absurd cc
same_is procedure.Nielsen procedure.Residue e = absurd cc
same_is procedure.Nielsen procedure.Rewrite e = absurd cc
same_is procedure.Nielsen procedure.Cosets e = absurd cc
same_is procedure.Nielsen procedure.Nielsen e = refl
same_is procedure.Nielsen procedure.Recall e = absurd cc
same_is procedure.Recall procedure.Derive e = absurd cc
same_is procedure.Recall procedure.Act e = absurd cc
same_is procedure.Recall procedure.Residue e = absurd cc
same_is procedure.Recall procedure.Rewrite e = absurd cc
same_is procedure.Recall procedure.Cosets e = absurd cc
same_is procedure.Recall procedure.Nielsen e = absurd cc
same_is procedure.Recall procedure.Recall e = refl

both_true : (a b : Bool) → (a && b) ≡ true → (a ≡ true) × (b ≡ true)
both_true true b e = (refl, e)
both_true false b e = absurd cc

pair_there : (ss : List (ℕ × Procedure)) (q : ℕ) (p : Procedure) → is_named ss q p ≡ true → Contains ss (q, p)
pair_there [] q p e = absurd cc
pair_there ((k, r) ∷ ss) q p e = by_head ((k == q) && same_procedure r p) refl e (pair_there ss q p)
  where
    by_head : (b : Bool) → ((k == q) && same_procedure r p) ≡ b → (b || is_named ss q p) ≡ true → (is_named ss q p ≡ true → Contains ss (q, p)) → Contains ((k, r) ∷ ss) (q, p)
    by_head true here e' there =
        let parts = both_true (k == q) (same_procedure r p) here in
        contains_head (q, p) (k, r) ss (ap (λ (x : ℕ). (x, r)) ((Decides-eqb k q).0 parts.0) ∙ ap (λ (x : Procedure). (q, x)) (same_is r p parts.1))
    by_head false here e' there = contains_tail (q, p) (k, r) ss (there e')

plain_room : (b : Bool) (P : Type 0) → (b ≡ true → P) → not b ≡ false → P
plain_room true P f e = f refl
plain_room false P f e = absurd cc

limited_room : (a b : Bool) (P : Type 0) → (b ≡ true → P) → (if a then not b else true) ≡ false → P
limited_room true b P f e = plain_room b P f e
limited_room false b P f e = absurd cc

-- a search more that shows no cause
room_for_one : (ss : List (ℕ × Procedure)) (p : Procedure) → one_more_is_too_many ss p ≡ false → length ss < MOST_SEARCHES
room_for_one ss procedure.Derive e = plain_room (nat_lt (length ss) MOST_SEARCHES) (length ss < MOST_SEARCHES) (Decides-ltb (length ss) MOST_SEARCHES).0 e
room_for_one ss procedure.Act e = plain_room (nat_lt (length ss) MOST_SEARCHES) (length ss < MOST_SEARCHES) (Decides-ltb (length ss) MOST_SEARCHES).0 e
room_for_one ss procedure.Residue e = plain_room (nat_lt (length ss) MOST_SEARCHES) (length ss < MOST_SEARCHES) (Decides-ltb (length ss) MOST_SEARCHES).0 e
room_for_one ss procedure.Rewrite e = limited_room (nat_lt (of_procedure procedure.Rewrite ss) REWRITE_LIMIT) (nat_lt (length ss) MOST_SEARCHES) (length ss < MOST_SEARCHES) (Decides-ltb (length ss) MOST_SEARCHES).0 e
room_for_one ss procedure.Cosets e = limited_room (nat_lt (of_procedure procedure.Cosets ss) COSET_LIMIT) (nat_lt (length ss) MOST_SEARCHES) (length ss < MOST_SEARCHES) (Decides-ltb (length ss) MOST_SEARCHES).0 e
room_for_one ss procedure.Nielsen e = plain_room (nat_lt (length ss) MOST_SEARCHES) (length ss < MOST_SEARCHES) (Decides-ltb (length ss) MOST_SEARCHES).0 e
room_for_one ss procedure.Recall e = plain_room (nat_lt (length ss) MOST_SEARCHES) (length ss < MOST_SEARCHES) (Decides-ltb (length ss) MOST_SEARCHES).0 e

record IsNamedToo (ss new : List (ℕ × Procedure)) (q : ℕ) (p : Procedure) : Type 0 where
  few : length new ≤ MOST_SEARCHES
  more : (k : ℕ) (r : Procedure) → Contains ss (k, r) → Contains new (k, r)
  there : Contains new (q, p)

named_too_is : (ss : List (ℕ × Procedure)) (q : ℕ) (p : Procedure) (place : ℕ) → length ss ≤ MOST_SEARCHES
    → (b : Bool) → (b ≡ true → Contains ss (q, p)) → (if b then [] else if one_more_is_too_many ss p then at cause.TooMany place else []) ≡ []
    → IsNamedToo ss (if b then ss else ss ++ (q, p) ∷ []) q p
named_too_is ss q p place few true there none = record { few = few; more = λ k r c. c; there = there refl }
named_too_is ss q p place few false there none =
    let room : length ss < MOST_SEARCHES = room_for_one ss p (none_if _ _ [] none) in
    record {
      few = omega (arith, room, length-append ss ((q, p) ∷ []));
      more = λ k r c. Contains-append_left ss ((q, p) ∷ []) (k, r) c;
      there = Contains-push ss (q, p);
    }

grant_keeps : (lines : ℕ) (scope : Scope) → IsScope lines scope → (p : Procedure) (units place : ℕ) (found : Option Object) → IsFound scope found → units ≤ NUMBER_LIMIT → too_many_searches scope p place found ≡ [] → not_applying_to scope p place found ≡ []
    → IsScope (suc lines) (grants scope p units found)
grant_keeps lines scope is p units place None object few many applying_none = more_lines lines scope is
grant_keeps lines scope is p units place (Some (a_group k)) object few many applying_none = more_lines lines scope is
grant_keeps lines scope is p units place (Some (a_word k w)) object few many applying_none = more_lines lines scope is
grant_keeps lines scope is p units place (Some (a_subgroup k ws)) object few many applying_none = more_lines lines scope is
grant_keeps lines scope is p units place (Some (a_map k j ws)) object few many applying_none = more_lines lines scope is
grant_keeps lines scope is p units place (Some (a_question q)) object few many applying_none =
    let there = object (a_question q) refl in
    let named : IsNamedToo scope.searches (named_too scope.searches q p) q p = named_too_is scope.searches q p place is.searches (is_named scope.searches q p) (pair_there scope.searches q p) many in
    stepped_keeps lines scope is (named_too scope.searches q p) (steps.grant q p units) named.few named.more named.there (can_be_asked lines scope is q p there.0 there.1 place applying_none, few)

cancel_keeps : (lines : ℕ) (scope : Scope) → IsScope lines scope → (p : Procedure) (place : ℕ) (found : Option Object) → IsFound scope found → not_applying_to scope p place found ≡ [] → IsScope (suc lines) (cancels scope p found)
cancel_keeps lines scope is p place None object none = more_lines lines scope is
cancel_keeps lines scope is p place (Some (a_group k)) object none = more_lines lines scope is
cancel_keeps lines scope is p place (Some (a_word k w)) object none = more_lines lines scope is
cancel_keeps lines scope is p place (Some (a_subgroup k ws)) object none = more_lines lines scope is
cancel_keeps lines scope is p place (Some (a_map k j ws)) object none = more_lines lines scope is
cancel_keeps lines scope is p place (Some (a_question q)) object none =
    let there = object (a_question q) refl in
    stepped_keeps lines scope is scope.searches (steps.cancel q p) is.searches (λ k r c. c) tt (can_be_asked lines scope is q p there.0 there.1 place none)

plain_step_keeps : (lines : ℕ) (scope : Scope) → IsScope lines scope → (step : Step) → GrantsOneOf scope.searches step → IsStep scope.plan step → IsScope (suc lines) (stepping scope step)
plain_step_keeps lines scope is step granted fits = stepped_keeps lines scope is scope.searches step is.searches (λ k r c. c) granted fits

-- what holds before the first statement
pub nothing_is : IsScope 0 nothing
nothing_is = record {
  groups = tt;
  names = tt;
  questions = tt;
  steps = tt;
  letters = omega arith;
  searches = omega arith;
  granted = tt;
  few_groups = omega arith;
  few_questions = omega arith;
  few_steps = omega arith;
}

-- what a statement without a cause keeps
pub after_keeps : (lines : ℕ) (scope : Scope) (line : ScriptLine) (s : Statement) → IsScope lines scope → IsSized s → shown scope line s ≡ [] → IsScope (suc lines) (after scope s)
after_keeps lines scope line (group n generators rs) is sized none = group_keeps lines scope is n generators (relations_in rs) sized
after_keeps lines scope line (word n g w) is sized none =
    more_lines lines (declares_word scope n w (lookup scope.names g.text)) (word_keeps lines scope is n w (lookup scope.names g.text) (λ o e. name_object lines scope is g.text o e) sized)
after_keeps lines scope line (subgroup n g ws) is sized none =
    more_lines lines (declares_subgroup scope n ws (lookup scope.names g.text)) (subgroup_keeps lines scope is n ws (lookup scope.names g.text) (λ o e. name_object lines scope is g.text o e) sized)
after_keeps lines scope line (mapping n source target arrows) is sized none =
    more_lines lines (declares_map scope n arrows (lookup scope.names source.text) (lookup scope.names target.text))
    (map_keeps lines scope is n arrows (lookup scope.names source.text) (lookup scope.names target.text) (λ o e. name_object lines scope is source.text o e) (λ o e. name_object lines scope is target.text o e) sized)
after_keeps lines scope line (ask n q) is sized none =
    let both = none_right (taken scope n) (in_question scope q ++ too_large_unless (in_question scope q) scope n (question_named scope q)) none in
    let words = none_left (in_question scope q) (too_large_unless (in_question scope q) scope n (question_named scope q)) both in
    let large = none_right (in_question scope q) (too_large_unless (in_question scope q) scope n (question_named scope q)) both in
    question_keeps lines scope is n (question_named scope q) (question_asking lines scope is q sized)
    (subst (λ (ss : List Shown). too_large_unless ss scope n (question_named scope q) ≡ []) words large)
after_keeps lines scope line (fund units) is sized none = plain_step_keeps lines scope is (steps.fund units) tt sized
after_keeps lines scope line (grant n p units) is sized none =
    let found : Option Object = lookup scope.names n.text in
    let place : ℕ = third_place line.tokens in
    let rest = none_right (not_a_question n found) (too_many_searches scope p place found ++ not_applying_to scope p place found) none in
    grant_keeps lines scope is p units place found (λ o e. name_object lines scope is n.text o e) sized
    (none_left (too_many_searches scope p place found) (not_applying_to scope p place found) rest) (none_right (too_many_searches scope p place found) (not_applying_to scope p place found) rest)
after_keeps lines scope line (run bound) is sized none = plain_step_keeps lines scope is (steps.run bound) tt sized
after_keeps lines scope line (cancel n p) is sized none =
    let found : Option Object = lookup scope.names n.text in
    let place : ℕ = third_place line.tokens in
    cancel_keeps lines scope is p place found (λ o e. name_object lines scope is n.text o e) (none_right (not_a_question n found) (not_applying_to scope p place found) none)
after_keeps lines scope line (report printed.Questions) is sized none = plain_step_keeps lines scope is (steps.report (length scope.plan.questions)) tt (omega arith)
after_keeps lines scope line (report printed.Facts) is sized none = plain_step_keeps lines scope is steps.report_facts tt tt
after_keeps lines scope line (report printed.Log) is sized none = plain_step_keeps lines scope is steps.report_log tt tt
