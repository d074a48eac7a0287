-- Why the word at the front of some lexemes is refused, and where. Places count from 0.
use Rattle.std.specs.Prelude.{◌≡◌, ◌⊎◌, ℕ, ◌+◌, ◌<◌, ◌≤◌, List, ◌++◌, length, take, Contains}
use Rattle.mg_lex.specs.declared.refusal.Cause.{Cause}
use Rattle.mg_lex.specs.declared.refusal.Cause.TheVariants as cause
use Rattle.mg_lex.specs.Cause.{cause_number}
use Rattle.mg_terms.specs.declared.lexeme.Lexeme.{Lexeme}
use Rattle.mg_terms.specs.declared.limits.TheConstants.{WORD_LIMIT, DEPTH_LIMIT}
use Rattle.mg_terms.specs.Word.{Word, word_lexemes}
use Rattle.mg_terms.specs.Event.{Event, opens, ends, word_events}
use Rattle.mg_terms.specs.Beginning.{IsBeginning, IsWord}

-- so many of the lexemes begin a word, and no more do
pub record IsReach (xs : List Lexeme) (n : ℕ) : Type 0 where
  pub within : n ≤ length xs
  pub begins : IsBeginning (take n xs)
  pub no_more : n < length xs → ¬ IsBeginning (take (n + 1) xs)

-- the word begins with as many of the lexemes as a word can
pub record Agrees (xs : List Lexeme) (n : ℕ) (w : Word) : Type 0 where
  pub reach : IsReach xs n
  pub rest : List Lexeme
  pub shared : word_lexemes w ≡ take n xs ++ rest

-- an event shows a cause at a place: a bracket that is one too many, there; a part with too many letters,
-- at its last lexeme
abbrev pub Shows : Event → ℕ → Cause → Type 0
Shows (opens place depth) p c = (c ≡ cause.TooMany) × (p ≡ place) × (DEPTH_LIMIT < depth)
Shows (ends count letters) p c = (c ≡ cause.WordTooLong) × (p + 1 ≡ count) × (WORD_LIMIT < letters)

-- an event of a word that agrees with the lexemes shows the cause, within what agrees
pub record IsShown (xs : List Lexeme) (p : ℕ) (c : Cause) : Type 0 where
  pub word : Word
  pub shared : ℕ
  pub agrees : Agrees xs shared word
  pub within : p < shared
  pub event : Event
  pub among : Contains (word_events 0 0 word) event
  pub shows : Shows event p c

-- the cause stands at the place: no word begins with the lexemes up to and with it, and those before it are
-- no word; or an event shows it
abbrev pub Stands : List Lexeme → ℕ → Cause → Type 0
Stands xs p c = ((c ≡ cause.Unexpected) × IsReach xs p × (¬ IsWord (take p xs))) ⊎ IsShown xs p c

-- no cause stands anywhere
abbrev pub IsFaultless : List Lexeme → Type 0
IsFaultless xs = (p : ℕ) (c : Cause) → Stands xs p c → ⊥

-- the cause stands at the place, no cause stands before it, and none with a less number stands there
pub record IsFirstCause (xs : List Lexeme) (p : ℕ) (c : Cause) : Type 0 where
  pub stands : Stands xs p c
  pub first : (q : ℕ) (d : Cause) → Stands xs q d → (p < q) ⊎ ((p ≡ q) × (cause_number c ≤ cause_number d))
