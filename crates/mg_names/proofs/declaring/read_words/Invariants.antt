use Rattle.std.proofs.Common.{◌≡◌, List, length}
use Rattle.mg_names.specs.Declaring.{AreWordsAhead, AreReadUpTo, words_signs}
use Rattle.mg_names.specs.Named.{Word}
use Rattle.mg_names.proofs.declaring.read_words.Given as goal

abbrev pub invariant-members : goal.invariant-members
invariant-members l = record {
  ahead : AreWordsAhead l.cursor;
  read : (ws : List Word) → l.fn.cursor ≡ words_signs ws → AreReadUpTo l.home ws l.fn.found l.words l.cursor l.found;
}

abbrev pub decreases-members : goal.decreases-members
decreases-members l = length l.cursor
