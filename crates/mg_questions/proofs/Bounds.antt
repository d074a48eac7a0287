-- Questions with too many goals or too long a goal, and those that never have them.
use Rattle.std.proofs.Common.{◌≡◌, ℕ, ◌+◌, ◌*◌, ◌<◌, ◌≤◌, ℤ, List, [], ◌∷◌, ◌++◌, map, length, get_or, refl, sym, ap, subst, ◌∙◌, ◌≢◌, MatchOption, None, Some, arith}
use Rattle.std.specs.Prelude.{Option}
use Rattle.std.specs.List.{AllByRecursion}
use Rattle.std.proofs.Math.Nat.{mul-le-mul}
use Rattle.std.proofs.lemmas.List.{get_or-map, length-append, length-map}
use Rattle.std.proofs.lemmas.List.Elements.{All-from_get_or, recursion_from_All, All-from_recursion}
use Rattle.mg_words.specs.Word.{Held, inv, commutator_of, letters_of}
use Rattle.mg_words.proofs.Chains.{length-inv}
use Rattle.mg_present.specs.Presentation.{Group}
use Rattle.mg_present.specs.Image.{image_of}
use Rattle.mg_present.specs.declared.presentation.TheConstants.{MOST_GENERATORS}
use Rattle.mg_present.specs.declared.ask.TheConstants.{MOST_GOALS}
use Rattle.mg_questions.specs.declared.question.Question.{Question}
use Rattle.mg_questions.specs.declared.question.Question.TheVariants.{WordIsOne, WordsEqual, InSubgroup, Trivial, Abelian, Central, Normal, Extends, Onto, InKernel}
use Rattle.mg_questions.specs.declared.question.TheConstants.{MOST_WORD_LETTERS, MOST_GOAL_LETTERS}
use Rattle.mg_questions.specs.declared.limits.AskFault.{AskFault}
use Rattle.mg_questions.specs.declared.limits.AskFault.TheVariants.{TooManyGoals}
use Rattle.mg_questions.specs.Goals.{generators, commutators, conjugates, goals_of, group_of}
use Rattle.mg_questions.specs.Asking.{IsGiven, AreGiven, IsFit, AreAllowed, AreTooMany, IsFirstTooLong, IsRefused}
use Rattle.mg_questions.proofs.Forms.{IsWordAt}
use Rattle.mg_questions.proofs.Tables.{Each, each_more, each_map, each_generator, each_commutator, each_conjugate, length-generators, length-commutators, length-conjugates}

-- a goal that is not too long
abbrev pub IsShort : List ℤ → Type 0
IsShort w = length w ≤ MOST_GOAL_LETTERS

-- the images of the words of a list, one by one
abbrev pub images_of : List (List ℤ) → List Held → List (List ℤ)
images_of images words = map (image_of images) (letters_of words)

pub image_at : (images : List (List ℤ)) (words : List Held) (place : ℕ) (word : Held) → IsWordAt words place word → get_or (images_of images words) place [] ≡ image_of images word.letters
image_at images words place word at =
    get_or-map (image_of images) (letters_of words) place [] [] (omega (arith, at.within, length-map words (λ (w : Held). w.letters)))
    ∙ ap (image_of images) (get_or-map (λ (w : Held). w.letters) words place word [] at.within ∙ ap (λ (w : Held). w.letters) (sym at.is))

length-images_of : (images : List (List ℤ)) (words : List Held) → length (images_of images words) ≡ length words
length-images_of images words = length-map (letters_of words) (image_of images) ∙ length-map words (λ (w : Held). w.letters)

-- the first long image, of a few words
pub first_long : (images : List (List ℤ)) (words : List Held) (place : ℕ) (word : Held) (letters : ℕ) → length words ≤ MOST_GOALS → IsWordAt words place word → letters ≡ length (image_of images word.letters) → MOST_GOAL_LETTERS < letters
    → ((k : ℕ) → k < place → IsShort (get_or (images_of images words) k [])) → IsFirstTooLong (images_of images words) place letters
first_long images words place word letters few at is long before = record {
  few = omega (arith, length-images_of images words);
  there = omega (arith, length-images_of images words, at.within);
  written = is ∙ ap length (sym (image_at images words place word at));
  long = long;
  first = before;
}

pub all_short : (images : List (List ℤ)) (words : List Held) (place : ℕ) → length words ≤ MOST_GOALS → length words ≤ place → ((k : ℕ) → k < place → IsShort (get_or (images_of images words) k [])) → AreAllowed (images_of images words)
all_short images words place few past before = record {
  few = omega (arith, length-images_of images words);
  short = recursion_from_All IsShort (images_of images words) (All-from_get_or IsShort (images_of images words) [] (λ k h. before k (omega (arith, length-images_of images words))));
}

-- conjugates are short
conjugates_short : (xs hs : List (List ℤ)) → Each (λ x. length x ≡ 1) xs → Each (λ h. length h ≤ MOST_WORD_LETTERS) hs → Each IsShort (conjugates xs hs)
conjugates_short xs hs ones short =
    each_conjugate IsShort xs hs
    (each_more (λ x. length x ≡ 1) _ xs (λ x one. each_more (λ h. length h ≤ MOST_WORD_LETTERS) _ hs (λ h k. (
      omega (arith, one, k, length-append (x ++ h) (inv x), length-append x h, length-inv x),
      omega (arith, one, k, length-append (inv x ++ h) x, length-append (inv x) h, length-inv x),
    )) short) ones)

count_of_conjugates : (group : Group) (subgroup : List (List ℤ)) → length (conjugates (generators group.generators) subgroup) ≡ 2 * length subgroup * group.generators
count_of_conjugates group subgroup =
    length-conjugates (generators group.generators) subgroup ∙ ap (λ n. 2 * length subgroup * n) (length-generators group.generators)

generators_ones : (m : ℕ) → Each (λ x. length x ≡ 1) (generators m)
generators_ones m = each_generator (λ x. length x ≡ 1) m (λ n h k. refl)

pub given_short : (m : ℕ) (words : List (List ℤ)) → AllByRecursion (IsGiven m) words → Each (λ w. length w ≤ MOST_WORD_LETTERS) words
given_short m words h = each_more (IsGiven m) (λ w. length w ≤ MOST_WORD_LETTERS) words (λ w given. given.short) h

-- the count of conjugates decides
normal_limits : (group : Group) (subgroup : List (List ℤ)) (result : Option AskFault) → AreGiven group.generators subgroup
    → MatchOption result (2 * length subgroup * group.generators ≤ MOST_GOALS) (λ fault. (fault ≡ TooManyGoals (2 * length subgroup * group.generators)) × (MOST_GOALS < 2 * length subgroup * group.generators))
    → MatchOption result (AreAllowed (goals_of (Normal group subgroup))) (λ fault. IsRefused (goals_of (Normal group subgroup)) fault)
normal_limits group subgroup None fit few = record {
  few = omega (arith, few, count_of_conjugates group subgroup);
  short = conjugates_short (generators group.generators) subgroup (generators_ones group.generators) (given_short group.generators subgroup fit.each);
}
normal_limits group subgroup (Some fault) fit many =
    subst (λ (f : AskFault). IsRefused (goals_of (Normal group subgroup)) f) (sym many.0) (record { all = sym (count_of_conjugates group subgroup); many = many.1 })

pub normal_refusal : (question : Question) (group : Group) (subgroup : List (List ℤ)) (m k : ℕ) (result : Option AskFault) → question ≡ Normal group subgroup → IsFit question → m ≡ group.generators → k ≡ length subgroup
    → MatchOption result (2 * k * m ≤ MOST_GOALS) (λ fault. (fault ≡ TooManyGoals (2 * k * m)) × (MOST_GOALS < 2 * k * m))
    → MatchOption result (AreAllowed (goals_of question)) (λ fault. IsRefused (goals_of question) fault)
normal_refusal question group subgroup m k result is fit m_is k_is h =
    subst (λ (q : Question). MatchOption result (AreAllowed (goals_of q)) (λ fault. IsRefused (goals_of q) fault)) (sym is)
    (normal_limits group subgroup result (subst (λ (q : Question). IsFit q) is fit)
    (subst (λ (n : ℕ). MatchOption result (2 * length subgroup * n ≤ MOST_GOALS) (λ fault. (fault ≡ TooManyGoals (2 * length subgroup * n)) × (MOST_GOALS < 2 * length subgroup * n))) m_is
    (subst (λ (n : ℕ). MatchOption result (2 * n * m ≤ MOST_GOALS) (λ fault. (fault ≡ TooManyGoals (2 * n * m)) × (MOST_GOALS < 2 * n * m))) k_is h)))

-- one short goal
one_allowed : (goal : List ℤ) → IsShort goal → AreAllowed (goal ∷ [])
one_allowed goal short = record { few = omega arith; short = (short, tt) }

generators_few : (m : ℕ) → m ≤ MOST_GENERATORS → length (generators m) ≤ MOST_GENERATORS
generators_few m few = omega (arith, length-generators m)

generators_allowed : (m : ℕ) → m ≤ MOST_GENERATORS → AreAllowed (generators m)
generators_allowed m few = record {
  few = omega (arith, length-generators m);
  short = each_more (λ x. length x ≡ 1) IsShort (generators m) (λ x one. omega arith) (generators_ones m);
}

length-commutator_of : (u v : List ℤ) → length (commutator_of u v) ≡ 2 * (length u + length v)
length-commutator_of u v =
    omega (arith, length-append (inv u ++ inv v ++ u) v, length-append (inv u ++ inv v) u, length-append (inv u) (inv v), length-inv u, length-inv v)

central_allowed : (w : List ℤ) (m : ℕ) → m ≤ MOST_GENERATORS → length w ≤ MOST_WORD_LETTERS → AreAllowed (map (commutator_of w) (generators m))
central_allowed w m few short = record {
  few = omega (arith, length-map (generators m) (commutator_of w), length-generators m);
  short = each_map IsShort (commutator_of w) (generators m)
      (each_more (λ x. length x ≡ 1) (λ x. IsShort (commutator_of w x)) (generators m) (λ x one. omega (arith, length-commutator_of w x)) (generators_ones m));
}

abelian_allowed : (m : ℕ) → m ≤ MOST_GENERATORS → AreAllowed (commutators (generators m))
abelian_allowed m few = record {
  few = omega (arith, length-commutators (generators m), length-generators m, mul-le-mul (generators_few m few) (generators_few m few));
  short = each_commutator IsShort (λ x. length x ≡ 1) (generators m) (λ u v one other. omega (arith, length-commutator_of u v)) (generators_ones m);
}

-- the other kinds are never refused
pub never_refused : (question : Question) → IsFit question → (group_of question).generators ≤ MOST_GENERATORS → ((a : Group) (b : List (List ℤ)) → question ≢ Normal a b)
    → ((a b : Group) (c : List (List ℤ)) → question ≢ Extends a b c) → ((a : Group) (b : List (List ℤ)) (c : Held) → question ≢ InKernel a b c) → AreAllowed (goals_of question)
never_refused (WordIsOne group word) fit few n e k = one_allowed word.letters (omega (arith, fit.short))
never_refused (WordsEqual group left right) fit few n e k =
    one_allowed (left.letters ++ inv right.letters) (omega (arith, fit.0.short, fit.1.short, length-append left.letters (inv right.letters), length-inv right.letters))
never_refused (InSubgroup group subgroup word) fit few n e k = one_allowed word.letters (omega (arith, fit.1.short))
never_refused (Trivial group) fit few n e k = generators_allowed group.generators few
never_refused (Abelian group) fit few n e k = abelian_allowed group.generators few
never_refused (Central group word) fit few n e k = central_allowed word.letters group.generators few fit.short
never_refused (Normal group subgroup) fit few n e k = absurd (n group subgroup refl)
never_refused (Extends source target images) fit few n e k = absurd (e source target images refl)
never_refused (Onto target images) fit few n e k = generators_allowed target.generators few
never_refused (InKernel target images word) fit few n e k = absurd (k target images word refl)

-- the faults of goals that are allowed, and of goals that are refused
pub not_many : (goals : List (List ℤ)) (count : ℕ) (A : Type 0) → AreAllowed goals → AreTooMany goals count → A
not_many goals count A allowed h = absurd (omega (arith, h.all, h.many, allowed.few))

pub not_long : (goals : List (List ℤ)) (goal letters : ℕ) (A : Type 0) → AreAllowed goals → IsFirstTooLong goals goal letters → A
not_long goals goal letters A allowed h = absurd (omega (arith, h.written, h.long, All-from_recursion IsShort goals allowed.short goal [] h.there))
