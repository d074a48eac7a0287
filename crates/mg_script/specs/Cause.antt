-- Why lexemes are no statement, and where. Places count from 0.
use Rattle.std.specs.Prelude.{◌≡◌, ◌⊎◌, ℕ, ◌+◌, ◌<◌, ◌≤◌, Option, Some, None, List, ◌∷◌, ◌++◌, length, take, drop}
use Rattle.mg_lex.specs.declared.refusal.Cause.{Cause}
use Rattle.mg_lex.specs.declared.refusal.Cause.TheVariants as cause
use Rattle.mg_lex.specs.Cause.{cause_number}
use Rattle.mg_terms.specs.declared.lexeme.Lexeme.{Lexeme}
use Rattle.mg_terms.specs.declared.limits.TheConstants.{WORD_LIMIT}
use Rattle.mg_terms.specs.Word.{Word, word_lexemes, word_letters}
use Rattle.mg_terms.specs.Beginning.{EndsBefore}
use Rattle.mg_terms.specs.Cause as words
use Rattle.mg_script.specs.declared.counted.Counted.{Counted}
use Rattle.mg_script.specs.declared.counted.Counts.{Counts}
use Rattle.mg_script.specs.declared.counted.TheConstants.{LETTER_LIMIT}
use Rattle.mg_script.specs.declared.form.Property.{Property}
use Rattle.mg_script.specs.Count.{limit_of, count_of, how_many, letters_in}
use Rattle.mg_script.specs.Statement.{Piece, sign, term, pieces_lexemes, has, Statement, ask, statement_pieces, statement_lexemes}

-- the lexemes are a statement
abbrev pub IsStatement : List Lexeme → Type 0
IsStatement xs = (s : Statement) × (statement_lexemes s ≡ xs)

-- some rest makes the lexemes a statement
abbrev pub IsBeginning : List Lexeme → Type 0
IsBeginning xs = (s : Statement) × (rest : List Lexeme) × (statement_lexemes s ≡ xs ++ rest)

-- so many of the lexemes begin a statement, and no more do
pub record IsReach (xs : List Lexeme) (n : ℕ) : Type 0 where
  pub within : n ≤ length xs
  pub begins : IsBeginning (take n xs)
  pub no_more : n < length xs → ¬ IsBeginning (take (n + 1) xs)

-- A word whose first lexeme is number k shows no cause itself and is whole: its last lexeme is number p, and no word
-- goes on with what stands behind it.
pub record IsWhole (xs : List Lexeme) (k : ℕ) (w : Word) (p : ℕ) : Type 0 where
  pub faultless : words.IsFaultless (drop k xs)
  pub last : p + 1 ≡ k + length (word_lexemes w)
  pub ended : EndsBefore w (drop (p + 1) xs)

-- the lexemes up to and with the one behind the place are a question about a name, which is no word
abbrev pub IsNameAsked : List Lexeme → ℕ → Type 0
IsNameAsked xs p = (property : Property) × (statement_lexemes (ask (has property)) ≡ take (p + 2) xs)

-- a piece that is counted so is one too many behind the pieces in front
abbrev pub IsOneTooMany : Counts → List Piece → Option Counted → Type 0
IsOneTooMany counts front None = ⊥
IsOneTooMany counts front (Some k) = limit_of k ≤ count_of counts k + how_many k front

-- A piece behind those in front shows a cause at a place: at its first lexeme where it is one too many; where a word
-- does so itself; at the last lexeme of a relation u = v where u v^-1 has too many letters; and at the last lexeme
-- of a word with which all words have too many, unless it is a name that a question is about.
pub data Shows (counts : Counts) (xs : List Lexeme) (front : List Piece) : Piece → ℕ → Cause → Type 0 where
  one_sign_too_many : (kind : Option Counted) (x : Lexeme) (p : ℕ) → p ≡ length (pieces_lexemes front) →
      IsOneTooMany counts front kind → Shows counts xs front (sign kind x) p cause.TooMany
  one_word_too_many : (kind : Option Counted) (left : Option Word) (w : Word) (p : ℕ) → p ≡ length (pieces_lexemes front) →
      IsOneTooMany counts front kind → Shows counts xs front (term kind left w) p cause.TooMany
  in_word : (kind : Option Counted) (left : Option Word) (w : Word) (p q : ℕ) (c : Cause) → p ≡ length (pieces_lexemes front) + q →
      words.IsShown (drop (length (pieces_lexemes front)) xs) q c → Shows counts xs front (term kind left w) p c
  long_relation : (kind : Option Counted) (u v : Word) (p : ℕ) → IsWhole xs (length (pieces_lexemes front)) v p →
      WORD_LIMIT < word_letters u + word_letters v → Shows counts xs front (term kind (Some u) v) p cause.WordTooLong
  too_many_letters : (kind : Option Counted) (left : Option Word) (w : Word) (p : ℕ) → IsWhole xs (length (pieces_lexemes front)) w p →
      LETTER_LIMIT < counts.letters + (letters_in front + word_letters w) → (IsNameAsked xs p → ⊥) → Shows counts xs front (term kind left w) p cause.TooMany

-- a piece of a statement that begins with the lexemes up to and with the place shows the cause there
pub record IsShown (counts : Counts) (xs : List Lexeme) (p : ℕ) (c : Cause) : Type 0 where
  pub within : p < length xs
  pub statement : Statement
  pub rest : List Lexeme
  pub shared : statement_lexemes statement ≡ take (p + 1) xs ++ rest
  pub front : List Piece
  pub piece : Piece
  pub back : List Piece
  pub written : statement_pieces statement ≡ front ++ piece ∷ back
  pub shows : Shows counts xs front piece p c

-- The cause stands at the place, where so much has been counted before: no statement begins with the lexemes up to and
-- with it, or the lexemes end there and are no statement; or a piece shows it.
abbrev pub Stands : Counts → List Lexeme → ℕ → Cause → Type 0
Stands counts xs p c = ((c ≡ cause.Unexpected) × IsReach xs p × (¬ IsStatement xs)) ⊎ IsShown counts xs p c

-- no cause stands anywhere
abbrev pub IsFaultless : Counts → List Lexeme → Type 0
IsFaultless counts xs = (p : ℕ) (c : Cause) → Stands counts xs p c → ⊥

-- the cause stands at the place, no cause stands before it, and none with a less number stands there
pub record IsFirstCause (counts : Counts) (xs : List Lexeme) (p : ℕ) (c : Cause) : Type 0 where
  pub stands : Stands counts xs p c
  pub first : (q : ℕ) (d : Cause) → Stands counts xs q d → (p < q) ⊎ ((p ≡ q) × (cause_number c ≤ cause_number d))
