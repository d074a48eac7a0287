-- The order of questions tells every two different contents apart.
use Rattle.std.proofs.Common.{◌≡◌, List, ℤ, [], ◌∷◌, refl, sym, ap, ◌∙◌, inl, inr}
use Rattle.std.specs.declared.cmp.Ordering.{Ordering}
use Rattle.std.specs.declared.cmp.Ordering.TheVariants.{Less, Equal, Greater}
use Rattle.std.specs.Ordering.{ordering_then, ordering_reverse}
use Rattle.std.specs.Cmp.{IsTotalOrder}
use Rattle.std.proofs.lemmas.Cmp.{tied_itself}
use Rattle.mg_words.specs.Word.{Held}
use Rattle.mg_words.specs.Orders.{word_cmp, words_cmp}
use Rattle.mg_words.proofs.Exact.{letters_exact, words_exact}
use Rattle.mg_present.specs.Presentation.{Group}
use Rattle.mg_present.proofs.Exact.{group_cmp, group_exact}
use Rattle.mg_questions.specs.Content.{bare, content_of}
use Rattle.mg_questions.specs.declared.question.Question.{Question}
use Rattle.mg_questions.specs.declared.question.Question.TheVariants.{WordIsOne, WordsEqual, InSubgroup, Trivial, Abelian, Central, Normal, Extends, Onto, InKernel}
use Rattle.mg_questions.specs.contracts.question.Question.{enum}
use Rattle.mg_questions.specs.contracts.question.QuestionOrd.TheImpl.Laws.{total-law}
use denote.Struct.Field.{Field}
use denote.Struct.Values.{Values}
use denote.Enum.Declared.{Choice}
use denote.Enum.Compared.{Each, by}

-- where each variant's values that compare equal have one image
abbrev Exacts : {K : Type 0} → (Fss : List (List Field)) → Each Ordering Fss → (Choice Fss → K) → Type 0
Exacts [] each f = Unit {0}
Exacts (Fs ∷ Fss) each f = ((x y : Values Fs) → each.0 x y ≡ Equal → f (inl x) ≡ f (inl y)) × Exacts Fss each.1 (λ c. f (inr c))

-- all values that compare equal do
choices_exact : {K : Type 0} (Fss : List (List Field)) (each : Each Ordering Fss) (f : Choice Fss → K) → Exacts Fss each f → (c d : Choice Fss) → by Less Greater Fss each c d ≡ Equal → f c ≡ f d
choices_exact [] each f exact c d e = absurd c
choices_exact (Fs ∷ Fss) each f exact (inl x) (inl y) e = exact.0 x y e
choices_exact (Fs ∷ Fss) each f exact (inl x) (inr y) e = cc
choices_exact (Fs ∷ Fss) each f exact (inr x) (inl y) e = cc
choices_exact (Fs ∷ Fss) each f exact (inr x) (inr y) e = choices_exact Fss each.1 (λ c. f (inr c)) exact.1 x y e

both : (o p : Ordering) → ordering_then o p ≡ Equal → (o ≡ Equal) × (p ≡ Equal)
both Less p e = cc
both Equal p e = (refl, e)
both Greater p e = cc

bare_exact : (u v : Held) → word_cmp u v ≡ Equal → bare u ≡ bare v
bare_exact u v e = let same = letters_exact u.letters v.letters e in λ i. record { letters = same i; capacity = 0 }

-- a first part and a second part that compare equal
pub then_exact : {A B K : Type 0} (P : A → A → Ordering) (Q : B → B → Ordering) (f : A → B → K) → ((a b : A) → P a b ≡ Equal → a ≡ b) → ((a : A) (u v : B) → Q u v ≡ Equal → f a u ≡ f a v)
    → (a b : A) (u v : B) → ordering_then (P a b) (Q u v) ≡ Equal → f a u ≡ f b v
then_exact P Q f first rest a b u v e =
    let equal = both (P a b) (Q u v) e in
    rest a u v equal.1 ∙ ap (λ c. f c v) (first a b equal.0)

-- the order of each kind: by the fields, one after another
abbrev orders : Each Ordering enum.parts
orders = (
  λ x y. ordering_then (group_cmp x.0 y.0) (word_cmp x.1.0 y.1.0),
  (
    λ x y. ordering_then (group_cmp x.0 y.0) (ordering_then (word_cmp x.1.0 y.1.0) (word_cmp x.1.1.0 y.1.1.0)),
    (
      λ x y. ordering_then (group_cmp x.0 y.0) (ordering_then (words_cmp x.1.0 y.1.0) (word_cmp x.1.1.0 y.1.1.0)),
      (
        λ x y. group_cmp x.0 y.0,
        (
          λ x y. group_cmp x.0 y.0,
          (
            λ x y. ordering_then (group_cmp x.0 y.0) (word_cmp x.1.0 y.1.0),
            (
              λ x y. ordering_then (group_cmp x.0 y.0) (words_cmp x.1.0 y.1.0),
              (
                λ x y. ordering_then (group_cmp x.0 y.0) (ordering_then (group_cmp x.1.0 y.1.0) (words_cmp x.1.1.0 y.1.1.0)),
                (
                  λ x y. ordering_then (group_cmp x.0 y.0) (words_cmp x.1.0 y.1.0),
                  (
                    λ x y. ordering_then (group_cmp x.0 y.0) (ordering_then (words_cmp x.1.0 y.1.0) (word_cmp x.1.1.0 y.1.1.0)),
                    tt,
                  ),
                ),
              ),
            ),
          ),
        ),
      ),
    ),
  ),
)

-- a group and a word; a group and a list of words; a group, a list and a word
group_word : (f : Group → Held → Question) (g h : Group) (u v : Held) → ordering_then (group_cmp g h) (word_cmp u v) ≡ Equal → f g (bare u) ≡ f h (bare v)
group_word f = then_exact group_cmp word_cmp (λ g w. f g (bare w)) group_exact (λ g u v e. ap (f g) (bare_exact u v e))

group_words : (f : Group → List (List ℤ) → Question) (g h : Group) (us vs : List (List ℤ)) → ordering_then (group_cmp g h) (words_cmp us vs) ≡ Equal → f g us ≡ f h vs
group_words f = then_exact group_cmp words_cmp f group_exact (λ g us vs e. ap (f g) (words_exact us vs e))

group_words_word : (f : Group → List (List ℤ) → Held → Question) (g h : Group) (us vs : List (List ℤ)) (u v : Held) → ordering_then (group_cmp g h) (ordering_then (words_cmp us vs) (word_cmp u v)) ≡ Equal → f g us (bare u) ≡ f h vs (bare v)
group_words_word f g h us vs u v e =
    let equal = both (group_cmp g h) (ordering_then (words_cmp us vs) (word_cmp u v)) e in
    then_exact words_cmp word_cmp (λ ws w. f g ws (bare w)) words_exact (λ ws x y k. ap (f g ws) (bare_exact x y k)) us vs u v equal.1 ∙ ap (λ k. f k vs (bare v)) (group_exact g h equal.0)

two_words : (g h : Group) (u v x y : Held) → ordering_then (group_cmp g h) (ordering_then (word_cmp u v) (word_cmp x y)) ≡ Equal → WordsEqual g (bare u) (bare x) ≡ WordsEqual h (bare v) (bare y)
two_words g h u v x y e =
    let equal = both (group_cmp g h) (ordering_then (word_cmp u v) (word_cmp x y)) e in
    let words = both (word_cmp u v) (word_cmp x y) equal.1 in
    λ i. WordsEqual (group_exact g h equal.0 i) (bare_exact u v words.0 i) (bare_exact x y words.1 i)

two_groups : (g h k l : Group) (us vs : List (List ℤ)) → ordering_then (group_cmp g h) (ordering_then (group_cmp k l) (words_cmp us vs)) ≡ Equal → Extends g k us ≡ Extends h l vs
two_groups g h k l us vs e =
    let equal = both (group_cmp g h) (ordering_then (group_cmp k l) (words_cmp us vs)) e in
    group_words (Extends g) k l us vs equal.1 ∙ ap (λ m. Extends m l vs) (group_exact g h equal.0)

exact : Exacts enum.parts orders (λ c. content_of (enum.make c))
exact = (
  λ x y. group_word WordIsOne x.0 y.0 x.1.0 y.1.0,
  (
    λ x y. two_words x.0 y.0 x.1.0 y.1.0 x.1.1.0 y.1.1.0,
    (
      λ x y. group_words_word InSubgroup x.0 y.0 x.1.0 y.1.0 x.1.1.0 y.1.1.0,
      (
        λ x y e. ap Trivial (group_exact x.0 y.0 e),
        (
          λ x y e. ap Abelian (group_exact x.0 y.0 e),
          (
            λ x y. group_word Central x.0 y.0 x.1.0 y.1.0,
            (
              λ x y. group_words Normal x.0 y.0 x.1.0 y.1.0,
              (
                λ x y. two_groups x.0 y.0 x.1.0 y.1.0 x.1.1.0 y.1.1.0,
                (
                  λ x y. group_words Onto x.0 y.0 x.1.0 y.1.0,
                  (
                    λ x y. group_words_word InKernel x.0 y.0 x.1.0 y.1.0 x.1.1.0 y.1.1.0,
                    tt,
                  ),
                ),
              ),
            ),
          ),
        ),
      ),
    ),
  ),
)

abbrev question_cmp : Question → Question → Ordering
question_cmp a b = by Less Greater enum.parts orders (enum.as_values a) (enum.as_values b)

pub content_exact : (a b : Question) → question_cmp a b ≡ Equal → content_of a ≡ content_of b
content_exact a b e =
    sym (ap content_of (enum.eta a))
    ∙ (choices_exact enum.parts orders (λ c. content_of (enum.make c)) exact (enum.as_values a) (enum.as_values b) e ∙ ap content_of (enum.eta b))

total : IsTotalOrder question_cmp
total = total-law

itself : (a : Question) → question_cmp a a ≡ Equal
itself a = tied_itself total a

-- a question compares equal to its content
like_content : (a : Question) → question_cmp a (content_of a) ≡ Equal
like_content (WordIsOne group word) = itself (WordIsOne group word)
like_content (WordsEqual group left right) = itself (WordsEqual group left right)
like_content (InSubgroup group subgroup word) = itself (InSubgroup group subgroup word)
like_content (Trivial group) = itself (Trivial group)
like_content (Abelian group) = itself (Abelian group)
like_content (Central group word) = itself (Central group word)
like_content (Normal group subgroup) = itself (Normal group subgroup)
like_content (Extends source target map) = itself (Extends source target map)
like_content (Onto target map) = itself (Onto target map)
like_content (InKernel target map word) = itself (InKernel target map word)

pub content_itself : (a b : Question) → content_of a ≡ content_of b → question_cmp a b ≡ Equal
content_itself a b e = total.congr a (content_of a) b (like_content a) ∙ (ap (λ c. question_cmp c b) e ∙ (total.antisymm (content_of b) b ∙ ap ordering_reverse (like_content b)))
