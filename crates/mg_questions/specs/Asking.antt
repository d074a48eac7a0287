-- What questions may name, and their Asks.
use Rattle.std.specs.Prelude.{◌≡◌, ℕ, ℤ, ◌<◌, ◌≤◌, List, [], length, slice_index_or}
use Rattle.std.specs.List.{AllByRecursion, AllZip}
use Rattle.mg_words.specs.Word.{IsOver, IsReduced}
use Rattle.mg_words.specs.Reduction.{IsFormOf}
use Rattle.mg_present.specs.Presentation.{IsPresented}
use Rattle.mg_present.specs.Ask.{Inquiry}
use Rattle.mg_present.specs.declared.ask.TheConstants.{MOST_SUBGROUP_WORDS, MOST_GOALS}
use Rattle.mg_questions.specs.declared.question.Question.{Question}
use Rattle.mg_questions.specs.declared.question.Question.TheVariants.{WordIsOne, WordsEqual, InSubgroup, Trivial, Abelian, Central, Normal, Extends, Onto, InKernel}
use Rattle.mg_questions.specs.declared.limits.AskFault.{AskFault}
use Rattle.mg_questions.specs.declared.limits.AskFault.TheVariants.{TooManyGoals, GoalTooLong, NoMemory}
use Rattle.mg_questions.specs.declared.question.TheConstants.{MOST_WORD_LETTERS, MOST_GOAL_LETTERS}
use Rattle.mg_questions.specs.Goals.{group_of, subgroup_of, goals_of}

-- a word that a question may name
pub record IsGiven (generators : ℕ) (w : List ℤ) : Type 0 where
  pub over : IsOver generators w
  pub reduced : IsReduced w
  pub short : length w ≤ MOST_WORD_LETTERS

-- a list of words that a question may name, for a subgroup or as images
pub record AreGiven (generators : ℕ) (words : List (List ℤ)) : Type 0 where
  pub each : AllByRecursion (IsGiven generators) words
  pub count : length words ≤ MOST_SUBGROUP_WORDS

-- the words that a question names are words over the generators of their group, and each letter that
-- is mapped has an image
abbrev pub IsFit : Question → Type 0
IsFit (WordIsOne group word) = IsGiven group.generators word.letters
IsFit (WordsEqual group left right) = IsGiven group.generators left.letters × IsGiven group.generators right.letters
IsFit (InSubgroup group subgroup word) = AreGiven group.generators subgroup × IsGiven group.generators word.letters
IsFit (Trivial group) = Unit {0}
IsFit (Abelian group) = Unit {0}
IsFit (Central group word) = IsGiven group.generators word.letters
IsFit (Normal group subgroup) = AreGiven group.generators subgroup
IsFit (Extends source target map) = IsPresented source × AreGiven target.generators map × source.generators ≤ length map
IsFit (Onto target map) = AreGiven target.generators map
IsFit (InKernel target map word) = AreGiven target.generators map × IsGiven (length map) word.letters

-- the Ask of a question: its group and its subgroup words, and the freely reduced forms of its goals, in order
pub record IsAskOf (question : Question) (ask : Inquiry) : Type 0 where
  pub group : ask.group ≡ group_of question
  pub subgroup : ask.subgroup ≡ subgroup_of question
  pub goals : AllZip IsFormOf (goals_of question) ask.goals

-- an Ask may have these goals
pub record AreAllowed (goals : List (List ℤ)) : Type 0 where
  pub few : length goals ≤ MOST_GOALS
  pub short : AllByRecursion (λ goal. length goal ≤ MOST_GOAL_LETTERS) goals

-- there are so many goals, more than an Ask may have
pub record AreTooMany (goals : List (List ℤ)) (count : ℕ) : Type 0 where
  pub all : count ≡ length goals
  pub many : MOST_GOALS < count

-- the goals are not too many, and the first that is too long, from 0, has so many letters
pub record IsFirstTooLong (goals : List (List ℤ)) (goal letters : ℕ) : Type 0 where
  pub few : length goals ≤ MOST_GOALS
  pub there : goal < length goals
  pub written : letters ≡ length (slice_index_or goals goal [])
  pub long : MOST_GOAL_LETTERS < letters
  pub first : (earlier : ℕ) → earlier < goal → length (slice_index_or goals earlier []) ≤ MOST_GOAL_LETTERS

-- why an Ask may not have these goals
abbrev pub IsRefused : List (List ℤ) → AskFault → Type 0
IsRefused goals (TooManyGoals count) = AreTooMany goals count
IsRefused goals (GoalTooLong goal letters) = IsFirstTooLong goals goal letters
IsRefused goals NoMemory = ⊥
