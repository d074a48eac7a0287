use Rattle.std.proofs.Common.{take}
use Rattle.std.specs.List.{AllZip}
use Rattle.mg_words.specs.Word.{letters_of}
use Rattle.mg_words.specs.Reduction.{IsFormOf}
use Rattle.mg_questions.proofs.lists.reduced.Given as goal

-- the forms of the words before the place are there
abbrev pub invariant-loop-word : goal.invariant-loop-word
invariant-loop-word l = AllZip IsFormOf (letters_of (take l.word-index l.words)) l.goals
