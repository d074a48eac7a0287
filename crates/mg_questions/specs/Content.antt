-- What questions are compared by.
use Rattle.mg_words.specs.Word.{Held}
use Rattle.mg_questions.specs.declared.question.Question.{Question}
use Rattle.mg_questions.specs.declared.question.Question.TheVariants.{WordIsOne, WordsEqual, InSubgroup, Trivial, Abelian, Central, Normal, Extends, Onto, InKernel}

-- a word without spare room
abbrev pub bare : Held → Held
bare w = record { letters = w.letters; capacity = 0 }

-- a question with the spare room of its words left out
abbrev pub content_of : Question → Question
content_of (WordIsOne group word) = WordIsOne group (bare word)
content_of (WordsEqual group left right) = WordsEqual group (bare left) (bare right)
content_of (InSubgroup group subgroup word) = InSubgroup group subgroup (bare word)
content_of (Trivial group) = Trivial group
content_of (Abelian group) = Abelian group
content_of (Central group word) = Central group (bare word)
content_of (Normal group subgroup) = Normal group subgroup
content_of (Extends source target map) = Extends source target map
content_of (Onto target map) = Onto target map
content_of (InKernel target map word) = InKernel target map (bare word)
