-- A lexeme more adds events behind those that were there.
use Rattle.std.proofs.Common.{◌≡◌, ◌≢◌, ℕ, zero, suc, ◌+◌, ◌<◌, ◌≤◌, Bool, true, false, List, [], ◌∷◌, ◌++◌, length, IfSome, refl, sym, ap, subst, ◌∙◌, arith, append_assoc, append-nil, length-append, add-zero}
use Rattle.std.specs.List.{AllByRecursion}
use Rattle.mg_lex.specs.declared.mark.Mark.TheVariants as mark
use Rattle.mg_terms.specs.declared.lexeme.Lexeme.{Lexeme}
use Rattle.mg_terms.specs.declared.lexeme.Lexeme.TheVariants as lexeme
use Rattle.mg_terms.specs.Word.{Base, name, one, round, commutator, Factor, bare, power, Word, minus_lexemes, base_lexemes, factor_lexemes, word_lexemes}
use Rattle.mg_terms.specs.Event.{Event, opens, ends, base_end, factor_end, word_end, factor_events, word_events}
use Rattle.mg_terms.specs.Reading.{Before, none, after, in_round, in_left, in_right, Frame, frame, front, behind, caret, minus, whole, State, state, joined, begin_step, round_step, comma_step, square_step, whole_step, number_step, step, before_lexemes, frames_lexemes, state_lexemes, closed_state, number_count, depth, before_events, frames_events, state_events}
use Rattle.mg_terms.proofs.Machine.{joined_lexemes}

-- the event comes with the lexeme at place k or later
abbrev pub IsFresh : ℕ → Event → Type 0
IsFresh k (opens place d) = k ≤ place
IsFresh k (ends count letters) = k < count

-- the events are those that were known, and fresh ones
pub record Adds (known : List Event) (k : ℕ) (events : List Event) : Type 0 where
  pub fresh : List Event
  pub all : events ≡ known ++ fresh
  pub later : AllByRecursion (IsFresh k) fresh

joined_events : (k d : ℕ) (before : Before) (f : Factor) →
    word_events k d (joined before f) ≡ before_events k d before ++ (factor_events (k + length (before_lexemes before)) d f ++ word_end k (joined before f) ∷ [])
joined_events k d none f = ap (λ j. factor_events j d f ++ word_end k (joined none f) ∷ []) (sym (add-zero k))
joined_events k d (after w star) f = refl

-- what is known, and how much is read, before a factor and behind a word
abbrev pub front_known : List Frame → Before → List Event
front_known fs before = state_events (state fs (front before))

abbrev pub front_count : List Frame → Before → ℕ
front_count fs before = length (state_lexemes (state fs (front before)))

-- the place of a factor
abbrev pub front_place : List Frame → Before → ℕ
front_place fs before = length (frames_lexemes fs) + length (before_lexemes before)

pub name_added : (fs : List Frame) (before : Before) → state_events (state fs (behind before name)) ≡ front_known fs before ++ base_end (front_place fs before) name ∷ []
name_added fs before = simp append_assoc

pub one_added : (fs : List Frame) (before : Before) → state_events (state fs (behind before one)) ≡ front_known fs before ++ base_end (front_place fs before) one ∷ []
one_added fs before = simp append_assoc

pub round_opened : (fs : List Frame) (before : Before) → state_events (state (frame before in_round ∷ fs) (front none)) ≡ front_known fs before ++ opens (front_place fs before) (depth fs + 1) ∷ []
round_opened fs before = simp (append_assoc, append-nil)

pub square_opened : (fs : List Frame) (before : Before) → state_events (state (frame before in_left ∷ fs) (front none)) ≡ front_known fs before ++ opens (front_place fs before) (depth fs + 1) ∷ []
square_opened fs before = simp (append_assoc, append-nil)

begin_adds : (fs : List Frame) (before : Before) (x : Lexeme) → IfSome (begin_step fs before x) (λ t. Adds (front_known fs before) (front_count fs before) (state_events t))
begin_adds fs before lexeme.Name = record {
  fresh = base_end (front_place fs before) name ∷ [];
  all = name_added fs before;
  later = (omega (arith, length-append (frames_lexemes fs) (before_lexemes before)), tt);
}
begin_adds fs before (lexeme.Number (suc zero)) = record {
  fresh = base_end (front_place fs before) one ∷ [];
  all = one_added fs before;
  later = (omega (arith, length-append (frames_lexemes fs) (before_lexemes before)), tt);
}
begin_adds fs before (lexeme.Mark mark.OpenRound) = record {
  fresh = opens (front_place fs before) (depth fs + 1) ∷ [];
  all = round_opened fs before;
  later = (omega (arith, length-append (frames_lexemes fs) (before_lexemes before)), tt);
}
begin_adds fs before (lexeme.Mark mark.OpenSquare) = record {
  fresh = opens (front_place fs before) (depth fs + 1) ∷ [];
  all = square_opened fs before;
  later = (omega (arith, length-append (frames_lexemes fs) (before_lexemes before)), tt);
}
begin_adds fs before _ = tt

abbrev pub whole_known : List Frame → Word → List Event
whole_known fs w = state_events (state fs (whole w))

abbrev pub whole_count : List Frame → Word → ℕ
whole_count fs w = length (state_lexemes (state fs (whole w)))

pub round_added : (fs : List Frame) (before : Before) (w : Word) →
    state_events (state fs (behind before (round w))) ≡ whole_known (frame before in_round ∷ fs) w ++ base_end (front_place fs before) (round w) ∷ []
round_added fs before w =
    let k = length (frames_lexemes fs) in
    let j = front_place fs before in
    let place : length (frames_lexemes (frame before in_round ∷ fs)) ≡ j + 1 = simp length-append (omega arith) in
    ap (λ i. frames_events fs ++ (before_events k (depth fs) before ++ (opens j (depth fs + 1) ∷ (word_events i (depth fs + 1) w ++ base_end j (round w) ∷ [])))) (sym place)
    ∙ simp append_assoc

round_adds : (fs : List Frame) (w : Word) → IfSome (round_step fs w) (λ t. Adds (whole_known fs w) (whole_count fs w) (state_events t))
round_adds (frame before in_round ∷ fs) w = record {
  fresh = base_end (front_place fs before) (round w) ∷ [];
  all = round_added fs before w;
  later = (simp length-append (omega arith), tt);
}
round_adds _ w = tt

pub comma_added : (fs : List Frame) (before : Before) (w : Word) →
    state_events (state (frame before (in_right w) ∷ fs) (front none)) ≡ whole_known (frame before in_left ∷ fs) w
comma_added fs before w =
    let k = length (frames_lexemes fs) in
    let j = front_place fs before in
    let place : length (frames_lexemes (frame before in_left ∷ fs)) ≡ j + 1 = simp length-append (omega arith) in
    ap (λ i. frames_events fs ++ (before_events k (depth fs) before ++ (opens j (depth fs + 1) ∷ word_events i (depth fs + 1) w)) ++ []) (sym place)
    ∙ simp (append_assoc, append-nil)

comma_adds : (fs : List Frame) (w : Word) → IfSome (comma_step fs w) (λ t. Adds (whole_known fs w) (whole_count fs w) (state_events t))
comma_adds (frame before in_left ∷ fs) w = record {
  fresh = [];
  all = comma_added fs before w ∙ sym (append-nil (whole_known (frame before in_left ∷ fs) w));
  later = tt;
}
comma_adds _ w = tt

pub square_added : (fs : List Frame) (before : Before) (u w : Word) →
    state_events (state fs (behind before (commutator u w))) ≡ whole_known (frame before (in_right u) ∷ fs) w ++ base_end (front_place fs before) (commutator u w) ∷ []
square_added fs before u w =
    let k = length (frames_lexemes fs) in
    let j = front_place fs before in
    let place : length (frames_lexemes (frame before (in_right u) ∷ fs)) ≡ j + 1 + length (word_lexemes u) + 1 = simp length-append (omega arith) in
    ap (λ i. frames_events fs ++ (before_events k (depth fs) before ++ (opens j (depth fs + 1) ∷ (word_events (j + 1) (depth fs + 1) u ++ (word_events i (depth fs + 1) w ++ base_end j (commutator u w) ∷ []))))) (sym place)
    ∙ simp append_assoc

square_adds : (fs : List Frame) (w : Word) → IfSome (square_step fs w) (λ t. Adds (whole_known fs w) (whole_count fs w) (state_events t))
square_adds (frame before (in_right u) ∷ fs) w = record {
  fresh = base_end (front_place fs before) (commutator u w) ∷ [];
  all = square_added fs before u w;
  later = (simp length-append (omega arith), tt);
}
square_adds _ w = tt

begin_adds_after : (fs : List Frame) (w : Word) (x : Lexeme) → IfSome (begin_step fs (after w false) x) (λ t. Adds (whole_known fs w) (whole_count fs w) (state_events t))
begin_adds_after fs w x =
    subst (λ k. IfSome (begin_step fs (after w false) x) (λ t. Adds (whole_known fs w) k (state_events t)))
    (ap (λ xs. length (frames_lexemes fs ++ xs)) (append-nil (word_lexemes w))) (begin_adds fs (after w false) x)

whole_adds : (fs : List Frame) (w : Word) (x : Lexeme) → IfSome (whole_step fs w x) (λ t. Adds (whole_known fs w) (whole_count fs w) (state_events t))
whole_adds fs w (lexeme.Mark mark.Star) = record { fresh = []; all = sym (append-nil (whole_known fs w)); later = tt }
whole_adds fs w (lexeme.Mark mark.CloseRound) = round_adds fs w
whole_adds fs w (lexeme.Mark mark.Comma) = comma_adds fs w
whole_adds fs w (lexeme.Mark mark.CloseSquare) = square_adds fs w
whole_adds fs w x = begin_adds_after fs w x

-- the events behind an exponent
pub number_added : (fs : List Frame) (before : Before) (b : Base) (negative : Bool) (n : ℕ) →
    let f : Factor = power b negative n in
    let w : Word = joined before f in
    state_events (state fs (whole w)) ≡ state_events (state fs (behind before b)) ++ factor_end (front_place fs before) f ∷ word_end (length (frames_lexemes fs)) w ∷ []
number_added fs before b negative n =
    ap (λ es. frames_events fs ++ es) (joined_events (length (frames_lexemes fs)) (depth fs) before (power b negative n)) ∙ simp append_assoc

pub number_length : (fs : List Frame) (before : Before) (b : Base) (negative : Bool) (n : ℕ) →
    length (frames_lexemes fs) + length (word_lexemes (joined before (power b negative n))) ≡ number_count fs before b negative + 1
number_length fs before b negative n =
    let lexemes : length (word_lexemes (joined before (power b negative n))) ≡ length (before_lexemes before) + (length (base_lexemes b) + (length (minus_lexemes negative) + 2)) =
    ap length (joined_lexemes before (power b negative n)) ∙ simp length-append (omega arith) in
    simp length-append (omega arith)

pub factor_length : (fs : List Frame) (before : Before) (b : Base) (negative : Bool) (n : ℕ) →
    front_place fs before + length (factor_lexemes (power b negative n)) ≡ number_count fs before b negative + 1
factor_length fs before b negative n = simp length-append (omega arith)

number_adds : (fs : List Frame) (before : Before) (b : Base) (negative : Bool) (x : Lexeme) →
    IfSome (number_step fs before b negative x) (λ t. Adds (state_events (state fs (behind before b))) (number_count fs before b negative) (state_events t))
number_adds fs before b negative (lexeme.Number n) =
    let f : Factor = power b negative n in
    let w : Word = joined before f in
    record {
      fresh = factor_end (front_place fs before) f ∷ word_end (length (frames_lexemes fs)) w ∷ [];
      all = number_added fs before b negative n;
      later = (omega (arith, factor_length fs before b negative n), (omega (arith, number_length fs before b negative n), tt));
    }
number_adds fs before b negative _ = tt

-- what closing a base adds
abbrev pub closing_events : State → List Event
closing_events (state fs (behind before b)) =
    word_end (length (frames_lexemes fs)) (joined before (bare b)) ∷ []
closing_events _ = []

pub closed_adds : (s : State) → state_events (closed_state s) ≡ state_events s ++ closing_events s
closed_adds (state fs (behind before b)) =
    ap (λ es. frames_events fs ++ es) (joined_events (length (frames_lexemes fs)) (depth fs) before (bare b)) ∙ simp append_assoc
closed_adds (state fs (front before)) = sym (append-nil (state_events (state fs (front before))))
closed_adds (state fs (caret before b)) = sym (append-nil (state_events (state fs (caret before b))))
closed_adds (state fs (minus before b)) = sym (append-nil (state_events (state fs (minus before b))))
closed_adds (state fs (whole w)) = sym (append-nil (state_events (state fs (whole w))))

pub closed_lexemes : (s : State) → state_lexemes (closed_state s) ≡ state_lexemes s
closed_lexemes (state fs (behind before b)) = ap (λ xs. frames_lexemes fs ++ xs) (joined_lexemes before (bare b))
closed_lexemes (state fs (front before)) = refl
closed_lexemes (state fs (caret before b)) = refl
closed_lexemes (state fs (minus before b)) = refl
closed_lexemes (state fs (whole w)) = refl

-- a lexeme other than a caret adds its events behind those of what is closed
pub step_adds : (s : State) (x : Lexeme) → x ≢ lexeme.Mark mark.Caret →
    IfSome (step s x) (λ t. Adds (state_events (closed_state s)) (length (state_lexemes s)) (state_events t))
step_adds (state fs (front before)) x other = begin_adds fs before x
step_adds (state fs (behind before b)) (lexeme.Mark mark.Caret) other = absurd (other refl)
step_adds (state fs (behind before b)) x other =
    subst (λ xs. IfSome (whole_step fs (joined before (bare b)) x) (λ t. Adds (state_events (state fs (whole (joined before (bare b))))) (length xs) (state_events t)))
    (closed_lexemes (state fs (behind before b))) (whole_adds fs (joined before (bare b)) x)
step_adds (state fs (caret before b)) (lexeme.Mark mark.Minus) other =
    record { fresh = []; all = sym (append-nil (state_events (state fs (caret before b)))); later = tt }
step_adds (state fs (caret before b)) x other = number_adds fs before b false x
step_adds (state fs (minus before b)) x other = number_adds fs before b true x
step_adds (state fs (whole w)) x other = whole_adds fs w x

-- a caret adds none
pub caret_adds : (s : State) → IfSome (step s (lexeme.Mark mark.Caret)) (λ t. (state_events t ≡ state_events s) × (closed_state t ≡ t))
caret_adds (state fs (front before)) = tt
caret_adds (state fs (behind before b)) = (refl, refl)
caret_adds (state fs (caret before b)) = tt
caret_adds (state fs (minus before b)) = tt
caret_adds (state fs (whole w)) = tt
