use Rattle.std.proofs.Common.{◌≡◌, take}
use Rattle.mg_words.specs.Word.{letters_of}
use Rattle.mg_questions.specs.Goals.{conjugates}
use Rattle.mg_questions.proofs.lists.conjugates.Given as goal

-- the conjugates by the words before the place are there
abbrev pub invariant-loop-x : goal.invariant-loop-x
invariant-loop-x l = l.words ≡ conjugates (letters_of (take l.x-index l.xs)) (letters_of l.hs)
