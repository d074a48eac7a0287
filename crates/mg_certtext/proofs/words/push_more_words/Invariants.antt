use Rattle.std.proofs.Common.{◌≡◌, ◌++◌, take}
use Rattle.std.specs.Prelude.{map}
use Rattle.mg_words.specs.Word.{letters_of}
use Rattle.mg_certtext.specs.Words.{word_pieces}
use Rattle.mg_certtext.specs.Pieces.{spaced, more_listed}
use Rattle.mg_certtext.proofs.words.push_more_words.Given as goal

abbrev pub invariant-loop-word : goal.invariant-loop-word
invariant-loop-word l = l.out.items ≡ l.fn.out.items ++ spaced (more_listed (map (word_pieces l.names) (letters_of (take l.word-index l.words))))
