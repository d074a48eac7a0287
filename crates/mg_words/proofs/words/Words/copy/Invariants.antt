use Rattle.std.proofs.Common.{◌≡◌, take}
use Rattle.mg_words.specs.Word.{letters_of}
use Rattle.mg_words.proofs.words.Words.copy.Given as goal

-- the words before the place are copied
abbrev pub invariant-loop-member : goal.invariant-loop-member
invariant-loop-member l = l.words ≡ letters_of (take l.member-index l.member-items)
