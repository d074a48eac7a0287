-- What words and statements mean where their names are declared.
use Rattle.std.specs.Prelude.{ℕ, ℤ, pos, neg_ℤ, ◌+◌, ◌==◌, ◌&&◌, ◌||◌, if◌then◌else◌, Bool, true, false, Option, Some, None, List, [], ◌∷◌, ◌++◌, length, map, slice_get}
use Rattle.mg_words.specs.declared.procedure.Procedure.{Procedure}
use Rattle.mg_words.specs.declared.procedure.Procedure.TheVariants as procedure
use Rattle.mg_words.specs.Word.{Held, inv, power_of, commutator_of}
use Rattle.mg_words.specs.Reduction.{free_form}
use Rattle.mg_present.specs.Ask.{Inquiry}
use Rattle.mg_questions.specs.declared.question.Question as questions
use Rattle.mg_questions.specs.declared.question.Question.TheVariants as asked
use Rattle.mg_questions.specs.Goals.{group_of, subgroup_of, goals_of}
use Rattle.mg_script.specs.declared.form.Property.{Property}
use Rattle.mg_script.specs.declared.form.Property.TheVariants as property
use Rattle.mg_script.specs.declared.form.Printed.TheVariants as printed
use Rattle.mg_names.specs.Plan.{PlanGroup, PlanQuestion, plain, Step, Plan}
use Rattle.mg_names.specs.Plan as steps
use Rattle.mg_names.specs.Named.{Named, Base, named, one, round, commutator, Factor, bare, power, Word, single, times, Relation, relator, equation, Arrow, Question, equal, member, vanishes, central, has, Statement, group, word, subgroup, mapping, ask, fund, grant, run, cancel, report}
use Rattle.mg_names.specs.Scope.{Object, a_group, a_word, a_subgroup, a_map, a_question, Declared, Scope, same_text, lookup, generator_place}

-- the letter of a generator at a place, as a word
abbrev pub letter_at : Option ℕ → List ℤ
letter_at None = []
letter_at (Some i) = pos (i + 1) ∷ []

abbrev pub signed : Bool → ℕ → ℤ
signed true n = neg_ℤ (pos n)
signed false n = pos n

-- a word over generators with these names, written out, with nothing reduced
abbrev mutual
  pub base_written : List (List ℕ) → Base → List ℤ
  base_written generators (named n) = letter_at (generator_place generators n.text)
  base_written generators one = []
  base_written generators (round w) = written generators w
  base_written generators (commutator u v) = commutator_of (written generators u) (written generators v)

  pub factor_written : List (List ℕ) → Factor → List ℤ
  factor_written generators (bare b) = base_written generators b
  factor_written generators (power b negative n) = power_of (signed negative n) (base_written generators b)

  pub written : List (List ℕ) → Word → List ℤ
  written generators (single f) = factor_written generators f
  written generators (times w star f) = written generators w ++ factor_written generators f

-- the name that a word is, if it is one alone
abbrev pub alone : Word → Option Named
alone (single (bare (named n))) = Some n
alone _ = None

-- a declared word of the group at a place
abbrev pub declared_word : ℕ → Option Object → List ℤ
declared_word place (Some (a_word home w)) = if place == home then w else []
declared_word place _ = []

abbrev pub name_value : ℕ → Option Object → Option ℕ → List ℤ
name_value place found None = declared_word place found
name_value place found (Some i) = letter_at (Some i)

-- What a word means in the group at a place, whose generators have these names: a name alone that is no generator is that
-- of a declared word of the group; every other word is written out and freely reduced.
abbrev pub value_or_form : List Declared → ℕ → List (List ℕ) → Word → Option Named → List ℤ
value_or_form names place generators w None = free_form (written generators w)
value_or_form names place generators w (Some n) = name_value place (lookup names n.text) (generator_place generators n.text)

abbrev pub value : List Declared → ℕ → List (List ℕ) → Word → List ℤ
value names place generators w = value_or_form names place generators w (alone w)

-- the relator that a relation stands for
abbrev pub relator_of : List Declared → ℕ → List (List ℕ) → Relation → List ℤ
relator_of names place generators (relator w) = value names place generators w
relator_of names place generators (equation u v) = free_form (value names place generators u ++ inv (value names place generators v))

abbrev pub relations_in : Option (List Relation) → List Relation
relations_in None = []
relations_in (Some rs) = rs

-- the texts of names
abbrev pub texts : List Named → List (List ℕ)
texts ns = map (λ n. n.text) ns

-- the group at a place, which without one is a group without generators
abbrev pub no_group : PlanGroup
no_group = record { name = []; generators = []; group = record { generators = 0; relators = [] } }

abbrev pub or_no_group : Option PlanGroup → PlanGroup
or_no_group None = no_group
or_no_group (Some g) = g

abbrev pub group_at : Scope → ℕ → PlanGroup
group_at scope place = or_no_group (slice_get scope.plan.groups place)

-- the word on the right of the first arrow with this name on its left
abbrev pub image_of_generator : List Arrow → List ℕ → Option Word
image_of_generator [] text = None
image_of_generator (a ∷ others) text = if same_text a.generator.text text then Some a.image else image_of_generator others text

abbrev pub value_or_none : Scope → ℕ → Option Word → List ℤ
value_or_none scope place None = []
value_or_none scope place (Some w) = value scope.names place (group_at scope place).generators w

-- the images of the generators of a source, in order, in the target at a place
abbrev pub images : Scope → (source target : ℕ) → List Arrow → List (List ℤ)
images scope source target arrows =
    map (λ g. value_or_none scope target (image_of_generator arrows g)) (group_at scope source).generators

-- a word as questions hold it
abbrev pub held : List ℤ → Held
held w = record { letters = w; capacity = 0 }

-- a question, and the place of the group that it is asked in
pub record Asking : Type 0 where
  pub group : ℕ
  pub question : questions.Question

-- what is asked of an object with a property
abbrev pub property_asked : Scope → Property → Option Object → Option Asking
property_asked scope property.Trivial (Some (a_group place)) =
    Some (record { group = place; question = asked.Trivial (group_at scope place).group })
property_asked scope property.Abelian (Some (a_group place)) =
    Some (record { group = place; question = asked.Abelian (group_at scope place).group })
property_asked scope property.Normal (Some (a_subgroup place words)) =
    Some (record { group = place; question = asked.Normal (group_at scope place).group words })
property_asked scope property.Extends (Some (a_map source target images)) =
    Some (record { group = target; question = asked.Extends (group_at scope source).group (group_at scope target).group images })
property_asked scope property.Onto (Some (a_map source target images)) =
    Some (record { group = target; question = asked.Onto (group_at scope target).group images })
property_asked scope _ _ = None

abbrev pub value_in : Scope → ℕ → Word → Held
value_in scope place w = held (value scope.names place (group_at scope place).generators w)

-- the one token 1 on the right side asks whether the left side is one
abbrev pub equality_asked : Scope → Word → Word → Option Object → Option Asking
equality_asked scope u (single (bare one)) (Some (a_group place)) =
    Some (record { group = place; question = asked.WordIsOne (group_at scope place).group (value_in scope place u) })
equality_asked scope u v (Some (a_group place)) =
    Some (record { group = place; question = asked.WordsEqual (group_at scope place).group (value_in scope place u) (value_in scope place v) })
equality_asked scope u v _ = None

abbrev pub membership_asked : Scope → Word → Option Object → Option Asking
membership_asked scope w (Some (a_subgroup place words)) =
    Some (record { group = place; question = asked.InSubgroup (group_at scope place).group words (value_in scope place w) })
membership_asked scope w _ = None

abbrev pub kernel_asked : Scope → Word → Option Object → Option Asking
kernel_asked scope w (Some (a_map source target images)) =
    Some (record { group = target; question = asked.InKernel (group_at scope target).group images (value_in scope source w) })
kernel_asked scope w _ = None

abbrev pub centrality_asked : Scope → Word → Option Object → Option Asking
centrality_asked scope w (Some (a_group place)) =
    Some (record { group = place; question = asked.Central (group_at scope place).group (value_in scope place w) })
centrality_asked scope w _ = None

-- the question that an `ask` names, where its last name stands for what is needed
abbrev pub question_named : Scope → Question → Option Asking
question_named scope (equal u v g) = equality_asked scope u v (lookup scope.names g.text)
question_named scope (member w h) = membership_asked scope w (lookup scope.names h.text)
question_named scope (vanishes w f) = kernel_asked scope w (lookup scope.names f.text)
question_named scope (central w g) = centrality_asked scope w (lookup scope.names g.text)
question_named scope (has n p) = property_asked scope p (lookup scope.names n.text)

-- the Ask of a question
abbrev pub ask_for : questions.Question → Inquiry
ask_for q = record { group = group_of q; subgroup = subgroup_of q; goals = map free_form (goals_of q) }

-- the letters of words together
abbrev pub letters_in : List (List ℤ) → ℕ
letters_in [] = 0
letters_in (w ∷ ws) = length w + letters_in ws

abbrev pub ask_letters : Inquiry → ℕ
ask_letters a = letters_in a.group.relators + (letters_in a.subgroup + letters_in a.goals)

-- whether a pair of question and procedure is among those named
abbrev pub same_procedure : Procedure → Procedure → Bool
same_procedure procedure.Derive procedure.Derive = true
same_procedure procedure.Act procedure.Act = true
same_procedure procedure.Residue procedure.Residue = true
same_procedure procedure.Rewrite procedure.Rewrite = true
same_procedure procedure.Cosets procedure.Cosets = true
same_procedure procedure.Nielsen procedure.Nielsen = true
same_procedure procedure.Recall procedure.Recall = true
same_procedure p q = false

abbrev pub is_named : List (ℕ × Procedure) → ℕ → Procedure → Bool
is_named [] question p = false
is_named (s ∷ ss) question p = (s.0 == question) && same_procedure s.1 p || is_named ss question p

abbrev pub named_too : List (ℕ × Procedure) → ℕ → Procedure → List (ℕ × Procedure)
named_too ss question p = if is_named ss question p then ss else ss ++ (question, p) ∷ []

-- a name declared behind those before
abbrev pub declaring : Scope → Named → Object → Scope
declaring scope n object = record scope { names = scope.names ++ record { name = n.text; object = object } ∷ [] }

abbrev pub stepping : Scope → Step → Scope
stepping scope step = record scope { plan = record (scope.plan) { steps = scope.plan.steps ++ step ∷ [] } }

abbrev pub with_group : Scope → PlanGroup → Scope
with_group scope g = record scope { plan = record (scope.plan) { groups = scope.plan.groups ++ g ∷ [] } }

abbrev pub with_question : Scope → PlanQuestion → questions.Question → ℕ → Scope
with_question scope q question letters = record scope {
  plan = record (scope.plan) { questions = scope.plan.questions ++ q ∷ [] };
  questions = scope.questions ++ question ∷ [];
  letters = scope.letters + letters;
}

-- what a statement adds, where its names stand for what is needed
abbrev pub declares_word : Scope → Named → Word → Option Object → Scope
declares_word scope n w (Some (a_group place)) =
    declaring scope n (a_word place (value scope.names place (group_at scope place).generators w))
declares_word scope n w _ = scope

abbrev pub declares_subgroup : Scope → Named → List Word → Option Object → Scope
declares_subgroup scope n ws (Some (a_group place)) =
    declaring scope n (a_subgroup place (map (value scope.names place (group_at scope place).generators) ws))
declares_subgroup scope n ws _ = scope

abbrev pub declares_map : Scope → Named → List Arrow → Option Object → Option Object → Scope
declares_map scope n arrows (Some (a_group source)) (Some (a_group target)) =
    declaring scope n (a_map source target (images scope source target arrows))
declares_map scope n arrows _ _ = scope

abbrev pub declares_question : Scope → Named → Option Asking → Scope
declares_question scope n None = scope
declares_question scope n (Some a) = declaring
    (with_question scope (record { name = n.text; group = a.group; asked = plain (ask_for a.question) }) a.question (ask_letters (ask_for a.question)))
    n (a_question (length scope.plan.questions))

abbrev pub grants : Scope → Procedure → ℕ → Option Object → Scope
grants scope p units (Some (a_question place)) =
    stepping (record scope { searches = named_too scope.searches place p }) (steps.grant place p units)
grants scope p units _ = scope

abbrev pub cancels : Scope → Procedure → Option Object → Scope
cancels scope p (Some (a_question place)) = stepping scope (steps.cancel place p)
cancels scope p _ = scope

-- the group that a statement declares
abbrev pub declared_group : Scope → Named → List Named → List Relation → PlanGroup
declared_group scope n generators relations = record {
  name = n.text;
  generators = texts generators;
  group = record {
    generators = length generators;
    relators = map (relator_of scope.names (length scope.plan.groups) (texts generators)) relations;
  };
}

-- what the names and the plan are after a statement
abbrev pub after : Scope → Statement → Scope
after scope (group n generators rs) =
    declaring (with_group scope (declared_group scope n generators (relations_in rs))) n (a_group (length scope.plan.groups))
after scope (word n g w) = declares_word scope n w (lookup scope.names g.text)
after scope (subgroup n g ws) = declares_subgroup scope n ws (lookup scope.names g.text)
after scope (mapping n source target arrows) =
    declares_map scope n arrows (lookup scope.names source.text) (lookup scope.names target.text)
after scope (ask n q) = declares_question scope n (question_named scope q)
after scope (fund units) = stepping scope (steps.fund units)
after scope (grant n p units) = grants scope p units (lookup scope.names n.text)
after scope (run bound) = stepping scope (steps.run bound)
after scope (cancel n p) = cancels scope p (lookup scope.names n.text)
after scope (report printed.Questions) = stepping scope (steps.report (length scope.plan.questions))
after scope (report printed.Facts) = stepping scope steps.report_facts
after scope (report printed.Log) = stepping scope steps.report_log
