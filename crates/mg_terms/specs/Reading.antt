-- How a word is read, lexeme by lexeme. A state is a tree with an open end.
use Rattle.std.specs.Prelude.{◌≡◌, ◌≢◌, ℕ, zero, suc, ◌+◌, ◌<◌, Bool, true, false, Option, Some, None, List, [], ◌∷◌, ◌++◌, length, option_and_then, Contains}
use Rattle.mg_lex.specs.declared.mark.Mark.TheVariants as mark
use Rattle.mg_terms.specs.declared.lexeme.Lexeme.{Lexeme}
use Rattle.mg_terms.specs.declared.lexeme.Lexeme.TheVariants as lexeme
use Rattle.mg_terms.specs.declared.limits.TheConstants.{WORD_LIMIT, DEPTH_LIMIT}
use Rattle.mg_terms.specs.Word.{Base, name, one, round, commutator, Factor, bare, power, Word, single, times, minus_lexemes, star_lexemes, base_lexemes, word_lexemes, word_letters}
use Rattle.mg_terms.specs.Event.{Event, opens, ends, base_events, word_events}

-- what stands before a factor in its word: nothing, or a word, maybe with a star
pub data Before : Type 0 where
  none : Before
  after : Word → (star : Bool) → Before

-- which bracket is open: a parenthesis, that of a commutator, or that of a commutator with its first word
-- and the comma
pub data Opened : Type 0 where
  in_round : Opened
  in_left : Opened
  in_right : Word → Opened

-- an open bracket, and what stands before it in the word around it
pub data Frame : Type 0 where
  frame : Before → Opened → Frame

-- in the innermost word: before a factor, behind a base, behind its caret, behind the minus sign of its
-- exponent, or behind a whole word whose last factor has its exponent
pub data Stand : Type 0 where
  front : Before → Stand
  behind : Before → Base → Stand
  caret : Before → Base → Stand
  minus : Before → Base → Stand
  whole : Word → Stand

-- the open brackets, the innermost first
pub data State : Type 0 where
  state : List Frame → Stand → State

-- the word with one more factor
abbrev pub joined : Before → Factor → Word
joined none f = single f
joined (after w star) f = times w star f

-- a base begins
abbrev pub begin_step : List Frame → Before → Lexeme → Option State
begin_step fs before lexeme.Name = Some (state fs (behind before name))
begin_step fs before (lexeme.Number (suc zero)) = Some (state fs (behind before one))
begin_step fs before (lexeme.Mark mark.OpenRound) = Some (state (frame before in_round ∷ fs) (front none))
begin_step fs before (lexeme.Mark mark.OpenSquare) = Some (state (frame before in_left ∷ fs) (front none))
begin_step fs before _ = None

-- a word ends with a parenthesis, with the comma of a commutator, with its closing bracket
abbrev pub round_step : List Frame → Word → Option State
round_step (frame before in_round ∷ fs) w = Some (state fs (behind before (round w)))
round_step _ w = None

abbrev pub comma_step : List Frame → Word → Option State
comma_step (frame before in_left ∷ fs) w = Some (state (frame before (in_right w) ∷ fs) (front none))
comma_step _ w = None

abbrev pub square_step : List Frame → Word → Option State
square_step (frame before (in_right u) ∷ fs) w = Some (state fs (behind before (commutator u w)))
square_step _ w = None

-- behind a whole word
abbrev pub whole_step : List Frame → Word → Lexeme → Option State
whole_step fs w (lexeme.Mark mark.Star) = Some (state fs (front (after w true)))
whole_step fs w (lexeme.Mark mark.CloseRound) = round_step fs w
whole_step fs w (lexeme.Mark mark.Comma) = comma_step fs w
whole_step fs w (lexeme.Mark mark.CloseSquare) = square_step fs w
whole_step fs w x = begin_step fs (after w false) x

-- the number of an exponent
abbrev pub number_step : List Frame → Before → Base → Bool → Lexeme → Option State
number_step fs before b negative (lexeme.Number n) = Some (state fs (whole (joined before (power b negative n))))
number_step fs before b negative _ = None

-- the state behind one more lexeme; None where no word goes on with it
abbrev pub step : State → Lexeme → Option State
step (state fs (front before)) x = begin_step fs before x
step (state fs (behind before b)) (lexeme.Mark mark.Caret) = Some (state fs (caret before b))
step (state fs (behind before b)) x = whole_step fs (joined before (bare b)) x
step (state fs (caret before b)) (lexeme.Mark mark.Minus) = Some (state fs (minus before b))
step (state fs (caret before b)) x = number_step fs before b false x
step (state fs (minus before b)) x = number_step fs before b true x
step (state fs (whole w)) x = whole_step fs w x

abbrev pub run : State → List Lexeme → Option State
run s [] = Some s
run s (x ∷ xs) = option_and_then (λ t. run t xs) (step s x)

-- before the first lexeme
abbrev pub start : State
start = state [] (front none)

-- what has been read
abbrev pub before_lexemes : Before → List Lexeme
before_lexemes none = []
before_lexemes (after w star) = word_lexemes w ++ star_lexemes star

abbrev pub opened_lexemes : Opened → List Lexeme
opened_lexemes in_round = lexeme.Mark mark.OpenRound ∷ []
opened_lexemes in_left = lexeme.Mark mark.OpenSquare ∷ []
opened_lexemes (in_right u) = lexeme.Mark mark.OpenSquare ∷ (word_lexemes u ++ lexeme.Mark mark.Comma ∷ [])

abbrev pub frames_lexemes : List Frame → List Lexeme
frames_lexemes [] = []
frames_lexemes (frame before o ∷ fs) = frames_lexemes fs ++ (before_lexemes before ++ opened_lexemes o)

abbrev pub stand_lexemes : Stand → List Lexeme
stand_lexemes (front before) = before_lexemes before
stand_lexemes (behind before b) = before_lexemes before ++ base_lexemes b
stand_lexemes (caret before b) = before_lexemes before ++ (base_lexemes b ++ lexeme.Mark mark.Caret ∷ [])
stand_lexemes (minus before b) =
    before_lexemes before ++ (base_lexemes b ++ lexeme.Mark mark.Caret ∷ lexeme.Mark mark.Minus ∷ [])
stand_lexemes (whole w) = word_lexemes w

abbrev pub state_lexemes : State → List Lexeme
state_lexemes (state fs s) = frames_lexemes fs ++ stand_lexemes s

-- a base at the end of what is read, where its factor has no exponent
abbrev pub closed : Stand → Stand
closed (behind before b) = whole (joined before (bare b))
closed s = s

abbrev pub closed_state : State → State
closed_state (state fs s) = state fs (closed s)

-- how much is read before the number of an exponent
abbrev pub number_count : List Frame → Before → Base → Bool → ℕ
number_count fs before b negative =
    length (frames_lexemes fs ++ (before_lexemes before ++ (base_lexemes b ++ lexeme.Mark mark.Caret ∷ minus_lexemes negative)))

-- how many brackets are open
abbrev pub depth : List Frame → ℕ
depth [] = 0
depth (f ∷ fs) = depth fs + 1

-- the events of what has been read
abbrev pub before_events : ℕ → ℕ → Before → List Event
before_events k d none = []
before_events k d (after w star) = word_events k d w

abbrev pub opened_events : ℕ → ℕ → Opened → List Event
opened_events k d in_round = opens k d ∷ []
opened_events k d in_left = opens k d ∷ []
opened_events k d (in_right u) = opens k d ∷ word_events (k + 1) d u

abbrev pub frames_events : List Frame → List Event
frames_events [] = []
frames_events (frame before o ∷ fs) =
    frames_events fs ++ (before_events (length (frames_lexemes fs)) (depth fs) before ++
    opened_events (length (frames_lexemes fs) + length (before_lexemes before)) (depth fs + 1) o)

abbrev pub stand_events : ℕ → ℕ → Stand → List Event
stand_events k d (front before) = before_events k d before
stand_events k d (behind before b) = before_events k d before ++ base_events (k + length (before_lexemes before)) d b
stand_events k d (caret before b) = before_events k d before ++ base_events (k + length (before_lexemes before)) d b
stand_events k d (minus before b) = before_events k d before ++ base_events (k + length (before_lexemes before)) d b
stand_events k d (whole w) = word_events k d w

abbrev pub state_events : State → List Event
state_events (state fs s) = frames_events fs ++ stand_events (length (frames_lexemes fs)) (depth fs) s

-- no word goes on with the next lexeme, if there is one
abbrev pub StopsAt : State → List Lexeme → Type 0
StopsAt s [] = Unit {0}
StopsAt s (x ∷ xs) = step s x ≡ None

-- no caret comes next
abbrev pub NoCaret : List Lexeme → Type 0
NoCaret [] = Unit {0}
NoCaret (x ∷ xs) = x ≢ lexeme.Mark mark.Caret

-- behind the base at the end of what is read, whose last lexeme is at the place, the word is too long
abbrev pub ClosesLong : State → ℕ → Type 0
ClosesLong (state fs (behind before b)) p =
    (p + 1 ≡ length (state_lexemes (state fs (behind before b)))) × (WORD_LIMIT < word_letters (joined before (bare b)))
ClosesLong _ p = ⊥

-- with the lexeme at the place, behind which the state is this one, a part ends that is too long
pub record TakesLong (after_it : Option State) (p : ℕ) : Type 0 where
  pub next : State
  pub takes : after_it ≡ Some next
  pub letters : ℕ
  pub among : Contains (state_events next) (ends (p + 1) letters)
  pub long : WORD_LIMIT < letters

-- it is a bracket that is one too many
pub record TakesDeep (known : List Event) (after_it : Option State) (p : ℕ) : Type 0 where
  pub next : State
  pub takes : after_it ≡ Some next
  pub depth : ℕ
  pub adds : state_events next ≡ known ++ opens p depth ∷ []
  pub at_front : closed_state next ≡ next
  pub deep : DEPTH_LIMIT < depth
