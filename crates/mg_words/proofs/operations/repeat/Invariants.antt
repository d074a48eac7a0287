use Rattle.std.proofs.Common.{◌≡◌}
use Rattle.mg_words.specs.Word.{times}
use Rattle.mg_words.proofs.operations.repeat.Given as goal

-- the word is written so many times
abbrev pub invariant-loop-i : goal.invariant-loop-i
invariant-loop-i l = l.word.letters ≡ times l._i l.w.letters
