use Rattle.std.proofs.Common.{◌≡◌, ◌+◌, drop}
use Rattle.mg_words.specs.Word.{letters_of}
use Rattle.mg_names.specs.Meaning.{letters_in}
use Rattle.mg_names.proofs.sizing.room_after.Given as goal

abbrev pub invariant-loop-word : goal.invariant-loop-word
invariant-loop-word l = l.left + letters_in (letters_of l.words) ≡ l.room + letters_in (letters_of (drop l.word-index l.words))
