use Rattle.std.proofs.Common.{◌≡◌, ◌++◌, take}
use Rattle.mg_words.specs.Word.{letters_of}
use Rattle.mg_questions.specs.Goals.{conjugates_by}
use Rattle.mg_questions.proofs.lists.push_conjugates.Given as goal

-- the conjugates of the words before the place are appended
abbrev pub invariant-loop-h : goal.invariant-loop-h
invariant-loop-h l = l.words ≡ l.fn.words ++ conjugates_by l.x.letters (letters_of (take l.h-index l.hs))
