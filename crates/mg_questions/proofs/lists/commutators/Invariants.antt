use Rattle.std.proofs.Common.{◌≡◌, ◌++◌, drop}
use Rattle.mg_words.specs.Word.{letters_of}
use Rattle.mg_questions.specs.Goals.{commutators}
use Rattle.mg_questions.proofs.lists.commutators.Given as goal

-- with the commutators of the words from the place on these are all
abbrev pub invariant-loop-place : goal.invariant-loop-place
invariant-loop-place l = l.words ++ commutators (letters_of (drop l.place l.us)) ≡ commutators (letters_of l.us)
