-- What it means that a word is read at the front of some lexemes.
use Rattle.std.specs.Prelude.{◌≡◌, List, take}
use Rattle.mg_terms.specs.declared.lexeme.Lexeme.{Lexeme}
use Rattle.mg_terms.specs.declared.read.WordRead.{WordRead}
use Rattle.mg_terms.specs.Word.{Word, word_lexemes, word_letters}
use Rattle.mg_terms.specs.Event.{word_events, AreWithin}
use Rattle.mg_terms.specs.Cause.{IsReach}

-- the front is a word within the limits, with so many letters, and no word goes on with the next lexeme
pub record IsRead (xs : List Lexeme) (r : WordRead) : Type 0 where
  pub word : Word
  pub lexemes : word_lexemes word ≡ take r.count xs
  pub letters : word_letters word ≡ r.letters
  pub within : AreWithin (word_events 0 0 word)
  pub reach : IsReach xs r.count
