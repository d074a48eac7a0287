-- What questions mean, over all words (Magnus, Karrass and Solitar, 1.2).
use Rattle.std.specs.Prelude.{ℤ, List, [], ◌++◌, length}
use Rattle.mg_words.specs.Word.{IsOver, inv}
use Rattle.mg_present.specs.Presentation.{Group}
use Rattle.mg_present.specs.Same.{Same, Lies}
use Rattle.mg_present.specs.Image.{image_of}
use Rattle.mg_questions.specs.declared.question.Question.{Question}
use Rattle.mg_questions.specs.declared.question.Question.TheVariants.{WordIsOne, WordsEqual, InSubgroup, Trivial, Abelian, Central, Normal, Extends, Onto, InKernel}

-- a word over the generators of a group
abbrev pub IsWordOf : Group → List ℤ → Type 0
IsWordOf group w = IsOver group.generators w

-- every word is the identity
abbrev pub IsTrivial : Group → Type 0
IsTrivial group = (w : List ℤ) → IsWordOf group w → Same group w []

-- u commutes with every word
abbrev pub IsCentral : Group → List ℤ → Type 0
IsCentral group u = (v : List ℤ) → IsWordOf group v → Same group (u ++ v) (v ++ u)

-- all words commute
abbrev pub IsAbelian : Group → Type 0
IsAbelian group = (u : List ℤ) → IsWordOf group u → IsCentral group u

-- every conjugate of a word that lies in the subgroup lies in it
abbrev pub IsNormal : Group → List (List ℤ) → Type 0
IsNormal group members = (h v : List ℤ) → IsWordOf group h → IsWordOf group v → Lies group members h → Lies group members (v ++ h ++ inv v)

-- words that are the same in the source have images that are the same in the target
abbrev pub IsHomomorphism : Group → Group → List (List ℤ) → Type 0
IsHomomorphism source target images = (u v : List ℤ) → IsWordOf source u → IsWordOf source v → Same source u v → Same target (image_of images u) (image_of images v)

-- every word of the target is the same there as the image of some word
abbrev pub IsOnto : Group → List (List ℤ) → Type 0
IsOnto target images = (w : List ℤ) → IsWordOf target w → (v : List ℤ) × IsOver (length images) v × Same target (image_of images v) w

-- what a question asks, of all words over the generators
abbrev pub Meaning : Question → Type 0
Meaning (WordIsOne group word) = Same group word.letters []
Meaning (WordsEqual group left right) = Same group left.letters right.letters
Meaning (InSubgroup group subgroup word) = Lies group subgroup word.letters
Meaning (Trivial group) = IsTrivial group
Meaning (Abelian group) = IsAbelian group
Meaning (Central group word) = IsCentral group word.letters
Meaning (Normal group subgroup) = IsNormal group subgroup
Meaning (Extends source target map) = IsHomomorphism source target map
Meaning (Onto target map) = IsOnto target map
Meaning (InKernel target map word) = Same target (image_of map word.letters) []
