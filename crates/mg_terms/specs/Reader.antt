-- What the reader keeps of a state, and what its steps bring.
use Rattle.std.specs.Prelude.{◌≡◌, ◌≢◌, ◌⊎◌, ℕ, ◌≤◌, Bool, true, false, Option, Some, None, Result, Ok, Err, List, [], ◌∷◌, ◌++◌, length, take, drop}
use Rattle.mg_lex.specs.declared.mark.Mark.TheVariants as mark
use Rattle.mg_lex.specs.declared.refusal.Cause.TheVariants as cause
use Rattle.mg_terms.specs.declared.lexeme.Lexeme.{Lexeme}
use Rattle.mg_terms.specs.declared.lexeme.Lexeme.TheVariants as lexeme
use Rattle.mg_terms.specs.declared.around.Begun.{Begun}
use Rattle.mg_terms.specs.declared.around.Bracket.{Bracket}
use Rattle.mg_terms.specs.declared.around.Bracket.TheVariants as bracket
use Rattle.mg_terms.specs.declared.reader.Position.{Position}
use Rattle.mg_terms.specs.declared.reader.Position.TheVariants as position
use Rattle.mg_terms.specs.declared.reader.Reader.{Reader}
use Rattle.mg_terms.specs.declared.fault.WordFault.{WordFault}
use Rattle.mg_terms.specs.Word.{Word, base_letters, word_letters}
use Rattle.mg_terms.specs.Event.{Event, AreWithin}
use Rattle.mg_terms.specs.Reading.{Before, none, after, in_round, in_left, in_right, Frame, frame, Stand, front, behind, caret, minus, whole, State, state, step, run, start, StopsAt, state_lexemes, closed_state, state_events, ClosesLong, TakesLong, TakesDeep}

-- the bracket that the innermost word stands behind
abbrev pub bracket_of : List Frame → Bracket
bracket_of [] = bracket.Outermost
bracket_of (frame before in_round ∷ fs) = bracket.Round
bracket_of (frame before in_left ∷ fs) = bracket.Left
bracket_of (frame before (in_right u) ∷ fs) = bracket.Right (word_letters u)

abbrev pub begun : List Frame → ℕ → Begun
begun fs letters = record { bracket = bracket_of fs; letters = letters }

abbrev pub before_letters : Before → ℕ
before_letters none = 0
before_letters (after w star) = word_letters w

abbrev pub around : List Frame → List Begun
around [] = []
around (frame before o ∷ fs) = around fs ++ begun fs (before_letters before) ∷ []

abbrev pub stand_letters : Stand → ℕ
stand_letters (front before) = before_letters before
stand_letters (behind before b) = before_letters before
stand_letters (caret before b) = before_letters before
stand_letters (minus before b) = before_letters before
stand_letters (whole w) = word_letters w

abbrev pub position_of : Stand → Position
position_of (front before) = position.Front
position_of (behind before b) = position.Base (base_letters b)
position_of (caret before b) = position.Caret (base_letters b)
position_of (minus before b) = position.Minus (base_letters b)
position_of (whole w) = position.Whole

-- what is kept of a state
abbrev pub kept : State → Reader
kept (state fs s) = record { around = around fs; word = begun fs (stand_letters s); position = position_of s }

-- the reader keeps these brackets, and so many letters of the innermost word
abbrev pub Has : Reader → List Frame → ℕ → Type 0
Has r fs letters = (r.around ≡ around fs) × (r.word ≡ begun fs letters)

-- so many lexemes are read, within the limits
abbrev pub IsReady : State → ℕ → Type 0
IsReady s place = (length (state_lexemes s) ≡ place) × AreWithin (state_events s)

-- the state behind a lexeme is kept, within the limits
pub record Takes (after_it : Option State) (new : Reader) : Type 0 where
  pub next : State
  pub takes : after_it ≡ Some next
  pub keeps : kept next ≡ new
  pub within : AreWithin (state_events next)

-- whether a lexeme was taken; if it can't be, nothing changes
abbrev pub Took : Option State → Reader → Reader → Bool → Type 0
Took after_it old new true = Takes after_it new
Took after_it old new false = (after_it ≡ None) × (new ≡ old)

-- the cause that a lexeme at the place brings
abbrev pub Breaks : List Event → Option State → ℕ → WordFault → Type 0
Breaks known after_it place f =
    (f.place ≡ place) × (((f.cause ≡ cause.WordTooLong) × TakesLong after_it place) ⊎ ((f.cause ≡ cause.TooMany) × TakesDeep known after_it place))

-- what a lexeme at the place brings, by the state behind it
abbrev pub Brings : List Event → Option State → ℕ → Reader → Reader → Result Bool WordFault → Type 0
Brings known after_it place old new (Ok taken) = Took after_it old new taken
Brings known after_it place old new (Err f) = Breaks known after_it place f

-- what a lexeme brings to a state: before any but a caret a base at the end is closed
abbrev pub Steps : State → Lexeme → ℕ → Reader → Result Bool WordFault → Type 0
Steps s x place new (Ok true) = Takes (step s x) new
Steps s x place new (Ok false) = (step s x ≡ None) × (kept (closed_state s) ≡ new) × AreWithin (state_events (closed_state s))
Steps s x place new (Err f) =
    ((x ≢ lexeme.Mark mark.Caret) × (f.cause ≡ cause.WordTooLong) × ClosesLong s f.place) ⊎
    (AreWithin (state_events (closed_state s)) × Breaks (state_events (closed_state s)) (step s x) place f)

-- a word ends here, behind its last bracket
abbrev pub IsWhole : State → Word → Type 0
IsWhole s w = closed_state s ≡ state [] (whole w)

-- what ends with a state
abbrev pub Ends : State → ℕ → Result ℕ WordFault → Type 0
Ends s place (Ok letters) = (w : Word) × IsWhole s w × (word_letters w ≡ letters) × AreWithin (state_events (closed_state s))
Ends s place (Err f) =
    ((f.cause ≡ cause.WordTooLong) × ClosesLong s f.place) ⊎
    ((f.place ≡ place) × (f.cause ≡ cause.Unexpected) × AreWithin (state_events (closed_state s)) × ((w : Word) → IsWhole s w → ⊥))

-- the lexemes are read up to a place where no word goes on with the next one, and maybe closed there
pub record HasStopped (xs : List Lexeme) (count : ℕ) (r : Reader) : Type 0 where
  pub reached : State
  pub inside : count ≤ length xs
  pub runs : run start (take count xs) ≡ Some reached
  pub stops : StopsAt reached (drop count xs)
  pub seen : State
  pub closes : (seen ≡ reached) ⊎ (seen ≡ closed_state reached)
  pub keeps : kept seen ≡ r
  pub ready : IsReady seen count
