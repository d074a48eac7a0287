-- The goals of a question are words over the generators of its group, so their forms may be asked about.
use Rattle.std.proofs.Common.{◌≡◌, ℕ, ◌≤◌, ℤ, List, [], ◌∷◌, ◌++◌, length, sym, subst, arith}
use Rattle.std.specs.List.{AllByRecursion, AllZip}
use Rattle.std.proofs.lemmas.List.Elements.{length_all_zip}
use Rattle.mg_words.specs.Word.{IsOver, inv, commutator_of}
use Rattle.mg_words.specs.Reduction.{IsFormOf}
use Rattle.mg_words.proofs.Chains.{IsOver-append, IsOver-inv, IsOver-commutator_of}
use Rattle.mg_present.specs.Presentation.{Group}
use Rattle.mg_present.specs.Ask.{CanAsk, IsReducedOver}
use Rattle.mg_present.specs.Image.{image_of}
use Rattle.mg_present.specs.declared.ask.TheConstants.{MOST_SUBGROUP_WORDS}
use Rattle.mg_present.proofs.Images.{image-over}
use Rattle.mg_questions.specs.declared.question.Question.{Question}
use Rattle.mg_questions.specs.declared.question.Question.TheVariants.{WordIsOne, WordsEqual, InSubgroup, Trivial, Abelian, Central, Normal, Extends, Onto, InKernel}
use Rattle.mg_questions.specs.Goals.{generators, group_of, subgroup_of, goals_of}
use Rattle.mg_questions.specs.Asking.{IsGiven, AreGiven, IsFit, AreAllowed}
use Rattle.mg_questions.proofs.Tables.{Each, each_any, each_more, each_map, each_generator, each_commutator, each_conjugate}

-- what is given is over the generators
pub given_over : (m : ℕ) (words : List (List ℤ)) → AllByRecursion (IsGiven m) words → Each (IsOver m) words
given_over m words h = each_more (IsGiven m) (IsOver m) words (λ w given. given.over) h

pub generators_over : (m : ℕ) → Each (IsOver m) (generators m)
generators_over m = each_generator (IsOver m) m (λ n h k. (record { least = h; most = k }, tt))

pub goals_over : (question : Question) → IsFit question → Each (IsOver (group_of question).generators) (goals_of question)
goals_over (WordIsOne group word) fit = (fit.over, tt)
goals_over (WordsEqual group left right) fit =
    (IsOver-append group.generators left.letters (inv right.letters) fit.0.over (IsOver-inv group.generators right.letters fit.1.over), tt)
goals_over (InSubgroup group subgroup word) fit = (fit.1.over, tt)
goals_over (Trivial group) fit = generators_over group.generators
goals_over (Abelian group) fit =
    each_commutator (IsOver group.generators) (IsOver group.generators) (generators group.generators) (IsOver-commutator_of group.generators) (generators_over group.generators)
goals_over (Central group word) fit =
    each_map (IsOver group.generators) (commutator_of word.letters) (generators group.generators)
    (each_more (IsOver group.generators) (λ x. IsOver group.generators (commutator_of word.letters x)) (generators group.generators) (λ x over. IsOver-commutator_of group.generators word.letters x fit.over over) (generators_over group.generators))
goals_over (Normal group subgroup) fit =
    let m : ℕ = group.generators in
    each_conjugate (IsOver m) (generators m) subgroup
    (each_more (IsOver m) _ (generators m) (λ x x_over. each_more (IsOver m) _ subgroup (λ h h_over. (
      IsOver-append m (x ++ h) (inv x) (IsOver-append m x h x_over h_over) (IsOver-inv m x x_over),
      IsOver-append m (inv x ++ h) x (IsOver-append m (inv x) h (IsOver-inv m x x_over) h_over) x_over,
    )) (given_over m subgroup fit.each)) (generators_over m))
goals_over (Extends source target images) fit =
    let over : Each (IsOver target.generators) images = given_over target.generators images fit.1.each in
    each_map (IsOver target.generators) (image_of images) source.relators (each_any (λ w. IsOver target.generators (image_of images w)) source.relators (λ w. image-over target.generators images w over))
goals_over (Onto target images) fit = generators_over target.generators
goals_over (InKernel target images word) fit = (image-over target.generators images word.letters (given_over target.generators images fit.0.each), tt)

-- the words of the subgroup are reduced words over the generators, and few
record MayGenerate (m : ℕ) (words : List (List ℤ)) : Type 0 where
  pub count : length words ≤ MOST_SUBGROUP_WORDS
  pub each : AllByRecursion (IsReducedOver m) words

given_generate : (m : ℕ) (words : List (List ℤ)) → AreGiven m words → MayGenerate m words
given_generate m words given = record {
  count = given.count;
  each = each_more (IsGiven m) (IsReducedOver m) words (λ w h. record { over = h.over; reduced = h.reduced }) given.each;
}

none_generate : (m : ℕ) → MayGenerate m []
none_generate m = record { count = omega arith; each = tt }

subgroup_generates : (question : Question) → IsFit question → MayGenerate (group_of question).generators (subgroup_of question)
subgroup_generates (WordIsOne group word) fit = none_generate group.generators
subgroup_generates (WordsEqual group left right) fit = none_generate group.generators
subgroup_generates (InSubgroup group subgroup word) fit = given_generate group.generators subgroup fit.0
subgroup_generates (Trivial group) fit = none_generate group.generators
subgroup_generates (Abelian group) fit = none_generate group.generators
subgroup_generates (Central group word) fit = none_generate group.generators
subgroup_generates (Normal group subgroup) fit = given_generate group.generators subgroup fit
subgroup_generates (Extends source target images) fit = none_generate target.generators
subgroup_generates (Onto target images) fit = given_generate target.generators images fit
subgroup_generates (InKernel target images word) fit = none_generate target.generators

forms_over : (m : ℕ) (ws goals : List (List ℤ)) → Each (IsOver m) ws → AllZip IsFormOf ws goals → AllByRecursion (IsReducedOver m) goals
forms_over m [] [] over forms = tt
forms_over m [] (goal ∷ goals) over forms = absurd forms
forms_over m (w ∷ ws) [] over forms = absurd forms
forms_over m (w ∷ ws) (goal ∷ goals) over forms =
    (record { over = forms.0.over m over.0; reduced = forms.0.reduced }, forms_over m ws goals over.1 forms.1)

-- the Ask of a question may be made
pub can_ask : (question : Question) (group : Group) (subgroup goals : List (List ℤ)) → IsFit question → AreAllowed (goals_of question) → group ≡ group_of question → subgroup ≡ subgroup_of question → AllZip IsFormOf (goals_of question) goals
    → CanAsk group subgroup goals
can_ask question group subgroup goals fit allowed group_is subgroup_is forms =
    let generate : MayGenerate (group_of question).generators (subgroup_of question) = subgroup_generates question fit in
    let asked : CanAsk (group_of question) (subgroup_of question) goals = record {
      subgroup_count = generate.count;
      subgroup_words = generate.each;
      goal_count = omega (arith, allowed.few, length_all_zip IsFormOf (goals_of question) goals forms);
      goal_words = forms_over (group_of question).generators (goals_of question) goals (goals_over question fit) forms;
    } in
    subst (λ (g : Group). CanAsk g subgroup goals) (sym group_is) (subst (λ (s : List (List ℤ)). CanAsk (group_of question) s goals) (sym subgroup_is) asked)
