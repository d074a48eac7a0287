-- The table of questions: the group, the subgroup words and the goals of each, the goals written out.
use Rattle.std.specs.Prelude.{ℕ, zero, suc, ℤ, pos, List, [], ◌∷◌, ◌++◌, map}
use Rattle.std.specs.List.{flat_map}
use Rattle.mg_words.specs.Word.{inv, commutator_of}
use Rattle.mg_present.specs.Presentation.{Group}
use Rattle.mg_present.specs.Image.{image_of}
use Rattle.mg_questions.specs.declared.question.Question.{Question}
use Rattle.mg_questions.specs.declared.question.Question.TheVariants.{WordIsOne, WordsEqual, InSubgroup, Trivial, Abelian, Central, Normal, Extends, Onto, InKernel}

-- the generators as words, x1 to xm
abbrev pub generators : ℕ → List (List ℤ)
generators zero = []
generators (suc m) = generators m ++ (pos (suc m) ∷ []) ∷ []

-- the commutators of each word of a list with each one after it
abbrev pub commutators : List (List ℤ) → List (List ℤ)
commutators [] = []
commutators (u ∷ us) = map (commutator_of u) us ++ commutators us

-- for each h of a list, `x h x^-1` and `x^-1 h x`
abbrev pub conjugates_by : List ℤ → List (List ℤ) → List (List ℤ)
conjugates_by x hs = flat_map (λ h. (x ++ h ++ inv x) ∷ (inv x ++ h ++ x) ∷ []) hs

-- the same for each x of a list
abbrev pub conjugates : List (List ℤ) → List (List ℤ) → List (List ℤ)
conjugates xs hs = flat_map (λ x. conjugates_by x hs) xs

-- the group that is asked about
abbrev pub group_of : Question → Group
group_of (WordIsOne group word) = group
group_of (WordsEqual group left right) = group
group_of (InSubgroup group subgroup word) = group
group_of (Trivial group) = group
group_of (Abelian group) = group
group_of (Central group word) = group
group_of (Normal group subgroup) = group
group_of (Extends source target map) = target
group_of (Onto target map) = target
group_of (InKernel target map word) = target

-- the words of the subgroup in which the goals are to lie
abbrev pub subgroup_of : Question → List (List ℤ)
subgroup_of (WordIsOne group word) = []
subgroup_of (WordsEqual group left right) = []
subgroup_of (InSubgroup group subgroup word) = subgroup
subgroup_of (Trivial group) = []
subgroup_of (Abelian group) = []
subgroup_of (Central group word) = []
subgroup_of (Normal group subgroup) = subgroup
subgroup_of (Extends source target map) = []
subgroup_of (Onto target map) = map
subgroup_of (InKernel target map word) = []

-- the goals, written out
abbrev pub goals_of : Question → List (List ℤ)
goals_of (WordIsOne group word) = word.letters ∷ []
goals_of (WordsEqual group left right) = (left.letters ++ inv right.letters) ∷ []
goals_of (InSubgroup group subgroup word) = word.letters ∷ []
goals_of (Trivial group) = generators group.generators
goals_of (Abelian group) = commutators (generators group.generators)
goals_of (Central group word) = map (commutator_of word.letters) (generators group.generators)
goals_of (Normal group subgroup) = conjugates (generators group.generators) subgroup
goals_of (Extends source target images) = map (image_of images) source.relators
goals_of (Onto target images) = generators target.generators
goals_of (InKernel target images word) = image_of images word.letters ∷ []
