-- What a reader of statements knows of what it has read, and what its steps bring.
use Rattle.std.specs.Prelude.{◌≡◌, ℕ, ◌≤◌, Bool, true, false, Option, Some, None, Result, Ok, Err, List, [], ◌∷◌, ◌++◌, ◌+◌, ◌-◌, length, drop}
use Rattle.std.specs.List.{AllByRecursion}
use Rattle.mg_lex.specs.declared.refusal.Cause.{Cause}
use Rattle.mg_terms.specs.declared.lexeme.Lexeme.{Lexeme}
use Rattle.mg_terms.specs.declared.lexeme.Lexeme.TheVariants as lexeme
use Rattle.mg_terms.specs.declared.read.WordRead.{WordRead}
use Rattle.mg_terms.specs.Word.{Word, word_lexemes, word_letters}
use Rattle.mg_terms.specs.Beginning.{BeginsBase}
use Rattle.mg_script.specs.declared.counted.Counted.{Counted}
use Rattle.mg_script.specs.declared.counted.Counts.{Counts}
use Rattle.mg_script.specs.declared.fault.StatementFault.{StatementFault}
use Rattle.mg_script.specs.declared.sign.Expected.{Expected}
use Rattle.mg_script.specs.declared.sign.Expected.TheVariants as expected
use Rattle.mg_script.specs.declared.sign.Sign.{Sign}
use Rattle.mg_script.specs.declared.sign.Role.{Role}
use Rattle.mg_script.specs.declared.sign.Role.TheVariants as role
use Rattle.mg_script.specs.declared.reader.Reader.{Reader}
use Rattle.mg_script.specs.Statement.{Piece, sign, Statement, statement_pieces, statement_lexemes, pieces_lexemes}
use Rattle.mg_script.specs.Count.{count_of, how_many, Adds, IsBounded, AreWithinLimits}
use Rattle.mg_script.specs.Cause.{Shows, IsShown, IsFaultless, IsFirstCause}
use Rattle.mg_script.specs.Grammar.{Class, this, a_number, a_procedure, a_property, IsIn, Rest, sign_then, word_then, words_rest, asked_rest, Reads, Tells}

-- what is to be read: lexemes, with what has been counted before
pub record Start : Type 0 where
  pub lexemes : List Lexeme
  pub counts : Counts

-- the pieces are those of a statement
abbrev pub IsWriting : List Piece → Type 0
IsWriting ps = (s : Statement) × (statement_pieces s ≡ ps)

-- both lists begin with one lexeme, or both are empty
abbrev pub BeginAlike : List Lexeme → List Lexeme → Type 0
BeginAlike [] [] = Unit {0}
BeginAlike (x ∷ xs) (y ∷ ys) = x ≡ y
BeginAlike [] (y ∷ ys) = ⊥
BeginAlike (x ∷ xs) [] = ⊥

-- The pieces are read of the front: with what the rest stands for behind them they are those of a statement, and
-- each statement that begins with the front and the next lexeme has them. No cause stands in them.
pub record Stand (s : Start) (r : Rest) (done : List Piece) (ahead : List Lexeme) : Type 0 where
  pub split : s.lexemes ≡ pieces_lexemes done ++ ahead
  pub goes_on : (ps : List Piece) → Reads r ps → IsWriting (done ++ ps)
  pub only : (qs : List Piece) (zs : List Lexeme) → IsWriting qs → pieces_lexemes qs ≡ pieces_lexemes done ++ zs → BeginAlike ahead zs →
      (ps : List Piece) × (qs ≡ done ++ ps) × Reads r ps
  pub tells : Tells r
  pub quiet : (front back : List Piece) (p : Piece) (q : ℕ) (c : Cause) → done ≡ front ++ p ∷ back → Shows s.counts s.lexemes front p q c → ⊥
  pub early : (q : ℕ) (c : Cause) → IsShown s.counts s.lexemes q c → length (pieces_lexemes done) ≤ q

-- the reader stands behind pieces that are read, and the rest may follow
pub record Knows (s : Start) (r : Rest) (now : Reader) : Type 0 where
  pub done : List Piece
  pub ahead : List Lexeme
  pub stand : Stand s r done ahead
  pub lexemes : now.lexemes.now ≡ s.lexemes
  pub place : now.place ≡ length (pieces_lexemes done)
  pub adds : Adds done s.counts now.counts
  pub bounded : AllByRecursion IsBounded done
  pub within : AreWithinLimits s.counts → AreWithinLimits now.counts

-- what a step brings: the rest may follow, or the first cause is found
abbrev pub Brings : Start → Rest → Reader → Result Unit StatementFault → Type 0
Brings s r new (Ok u) = Knows s r new
Brings s r new (Err f) = IsFirstCause s.counts s.lexemes f.place f.cause

-- the lexemes are a statement within the limits, with the counts behind it
pub record IsFinished (s : Start) (after : Counts) : Type 0 where
  pub statement : Statement
  pub lexemes : statement_lexemes statement ≡ s.lexemes
  pub adds : Adds (statement_pieces statement) s.counts after
  pub bounded : AllByRecursion IsBounded (statement_pieces statement)
  pub within : AreWithinLimits s.counts → AreWithinLimits after
  pub faultless : IsFaultless s.counts s.lexemes

-- what the end of the lexemes brings: they are a statement, or the first cause is found
abbrev pub Finishes : Start → Reader → Result Unit StatementFault → Type 0
Finishes s now (Ok u) = IsFinished s now.counts
Finishes s now (Err f) = IsFirstCause s.counts s.lexemes f.place f.cause

-- one of two comes
abbrev pub Chooses : Start → Rest → Rest → Reader → Bool → Type 0
Chooses s a b new true = Knows s a new
Chooses s a b new false = Knows s b new

-- the word that has been read
abbrev pub IsOf : Word → WordRead → Type 0
IsOf w found = (length (word_lexemes w) ≡ found.count) × (word_letters w ≡ found.letters)

-- what a word brings, by what may follow it
abbrev pub BringsWord : Start → (Word → Rest) → Reader → Result WordRead StatementFault → Type 0
BringsWord s f new (Ok found) = (w : Word) × IsOf w found × Knows s (f w) new
BringsWord s f new (Err fault) = IsFirstCause s.counts s.lexemes fault.place fault.cause

-- the class of lexemes that is expected
abbrev pub class_of : Expected → Class
class_of (expected.This x) = this x
class_of expected.Number = a_number
class_of expected.Procedure = a_procedure
class_of expected.Property = a_property

abbrev pub signs_then : List Sign → Rest → Rest
signs_then [] r = r
signs_then (x ∷ xs) r = sign_then x.counted (class_of x.expected) (signs_then xs r)

-- how a word is counted, and what stands left of it in an equation
abbrev pub kind_of : Role → Option Counted
kind_of role.Plain = None
kind_of (role.Counted k) = Some k
kind_of (role.RightSide n) = None

abbrev pub IsLeft : Role → Option Word → Type 0
IsLeft role.Plain left = left ≡ None
IsLeft (role.Counted k) left = left ≡ None
IsLeft (role.RightSide n) left = (u : Word) × (left ≡ Some u) × (word_letters u ≡ n)

-- how many lexemes aren't read
abbrev pub unread : Reader → ℕ
unread r = length r.lexemes.now - r.place

-- the next lexeme is of the class
abbrev pub IsNext : Reader → Class → Type 0
IsNext r c = (x : Lexeme) × (xs : List Lexeme) × (drop r.place r.lexemes.now ≡ x ∷ xs) × IsIn c x

-- a word begins with the next lexeme
abbrev pub BeginsWord : Reader → Type 0
BeginsWord r = (x : Lexeme) × (xs : List Lexeme) × (drop r.place r.lexemes.now ≡ x ∷ xs) × BeginsBase x

-- a name and a property come next
abbrev pub IsPropertyNext : List Lexeme → Type 0
IsPropertyNext ahead = (x : Lexeme) × (xs : List Lexeme) × (ahead ≡ lexeme.Name ∷ x ∷ xs) × IsIn a_property x

-- with what is ahead, the rest is a word and what may follow it
pub data IsWordThen (ahead : List Lexeme) : Option Counted → Option Word → (Word → Rest) → Rest → Type 0 where
  any_word : (kind : Option Counted) (left : Option Word) (f : Word → Rest) → IsWordThen ahead kind left f (word_then kind left f)
  no_property : (IsPropertyNext ahead → ⊥) → IsWordThen ahead None None (λ w. words_rest) asked_rest

-- one more is counted so
abbrev pub AddsOne : Option Counted → Counts → Counts → Type 0
AddsOne kind before after = (k : Counted) → count_of after k ≡ count_of before k + how_many k (sign kind lexeme.Name ∷ [])

-- the numbers in the order of what is counted
abbrev pub numbers : Counts → List ℕ
numbers c = c.groups ∷ c.words ∷ c.subgroups ∷ c.maps ∷ c.questions ∷ c.generators ∷ c.relators ∷ c.members ∷ c.reports ∷ []
