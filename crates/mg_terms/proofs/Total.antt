-- Every list of lexemes has a word at its front that is within the limits, or a first cause.
use Rattle.std.proofs.Common.{◌≡◌, ◌≢◌, ◌⊎◌, inl, inr, ⊎_elim, ℕ, ◌+◌, ◌-◌, ◌≤◌, Bool, true, false, zero, suc, List, [], ◌∷◌, ◌++◌, length, Option, Some, None, refl, sym, ap, subst, ◌∙◌, arith, append_assoc, append-nil, length-append}
use Rattle.std.specs.List.{AllZip}
use Rattle.std.proofs.Math.Seq.{take-append_seam}
use Rattle.std.proofs.lemmas.Bool.{cases_lt}
use Rattle.mg_lex.specs.declared.mark.Mark.{Mark}
use Rattle.mg_lex.specs.declared.mark.Mark.TheVariants as mark
use Rattle.mg_lex.specs.declared.refusal.Cause.{Cause}
use Rattle.mg_lex.specs.declared.refusal.Cause.TheVariants as cause
use Rattle.mg_lex.specs.declared.token.Token.{Token}
use Rattle.mg_lex.specs.declared.token.TokenKind.{TokenKind}
use Rattle.mg_lex.specs.declared.token.TokenKind.TheVariants as kind
use Rattle.mg_lex.specs.Token.{IsToken}
use Rattle.mg_lex.specs.Number.{number_value}
use Rattle.mg_lex.specs.Line.{IsLongestAtStart, Cuts, token_bytes}
use Rattle.mg_terms.specs.Lexeme.{IsLexemeOf}
use Rattle.mg_terms.specs.declared.lexeme.Lexeme.{Lexeme}
use Rattle.mg_terms.specs.declared.lexeme.Lexeme.TheVariants as lexeme
use Rattle.mg_terms.specs.declared.limits.TheConstants.{WORD_LIMIT, DEPTH_LIMIT}
use Rattle.mg_terms.specs.declared.read.WordRead.{WordRead}
use Rattle.mg_terms.specs.Word.{Base, name, one, round, commutator, Factor, bare, power, Word, base_letters, factor_letters, word_letters, base_lexemes}
use Rattle.mg_terms.specs.Event.{Event, opens, base_end, factor_end, word_end, IsWithin, AreWithin}
use Rattle.mg_terms.specs.Cause.{IsFaultless, IsFirstCause}
use Rattle.mg_terms.specs.Read.{IsRead}
use Rattle.mg_terms.specs.Reading.{Before, none, after, in_round, in_left, in_right, Frame, frame, front, behind, caret, minus, whole, State, state, joined, begin_step, round_step, comma_step, square_step, whole_step, number_step, step, run, start, frames_lexemes, before_lexemes, state_lexemes, closed_state, state_events, number_count, depth, StopsAt, NoCaret, TakesLong, TakesDeep}
use Rattle.mg_terms.proofs.Beginnings.{read_more}
use Rattle.mg_terms.proofs.Adding.{front_known, front_place, whole_known, name_added, one_added, round_opened, square_opened, round_added, comma_added, square_added, number_added, closing_events, closed_adds, closed_lexemes}
use Rattle.mg_terms.proofs.Runs.{all_append}
use Rattle.mg_terms.proofs.Taking.{whole_within, square_breaks, number_long, joined_letters, base_some}
use Rattle.mg_terms.proofs.Faults.{count_read, word_stops, unexpected_first, closes_long, takes_long, takes_deep}

-- a lexeme can't be taken; or it is, within the limits; or it brings a cause
abbrev Goes : Option State → Type 0
Goes after_it = (t : State) × (after_it ≡ Some t) × AreWithin (state_events t)

abbrev Outcome : List Event → Option State → ℕ → Type 0
Outcome known after_it p = (after_it ≡ None) ⊎ (Goes after_it ⊎ (TakesLong after_it p ⊎ TakesDeep known after_it p))

one_more : (es : List Event) (e : Event) → AreWithin es → IsWithin e → AreWithin (es ++ e ∷ [])
one_more es e all last = all_append IsWithin es (e ∷ []) all (last, tt)

-- a bracket that opens
opened : (fs : List Frame) (before : Before) (t : State) (p : ℕ) → state_events t ≡ front_known fs before ++ opens (front_place fs before) (depth fs + 1) ∷ [] → closed_state t ≡ t →
    p ≡ length (state_lexemes (state fs (front before))) → AreWithin (front_known fs before) → Outcome (front_known fs before) (Some t) p
opened fs before t p adds at_front here within =
    let place : front_place fs before ≡ p = omega (arith, here, length-append (frames_lexemes fs) (before_lexemes before)) in
    ⊎_elim
    (λ deep. inr (inr (inr (record {
      next = t;
      takes = refl;
      depth = depth fs + 1;
      adds = adds ∙ ap (λ (q : ℕ). front_known fs before ++ opens q (depth fs + 1) ∷ []) place;
      at_front = at_front;
      deep = deep;
    }))))
    (λ fits. inr (inl (t, refl, subst AreWithin (sym adds) (one_more (front_known fs before) (opens (front_place fs before) (depth fs + 1)) within fits))))
    (cases_lt DEPTH_LIMIT (depth fs + 1))

begin_outcome : (fs : List Frame) (before : Before) (x : Lexeme) (p : ℕ) → p ≡ length (state_lexemes (state fs (front before))) → AreWithin (front_known fs before) → Outcome (front_known fs before) (begin_step fs before x) p
begin_outcome fs before lexeme.Name p here within =
    inr (inl (state fs (behind before name), refl, subst AreWithin (sym (name_added fs before)) (one_more (front_known fs before) (base_end (front_place fs before) name) within (omega arith))))
begin_outcome fs before (lexeme.Number (suc zero)) p here within =
    inr (inl (state fs (behind before one), refl, subst AreWithin (sym (one_added fs before)) (one_more (front_known fs before) (base_end (front_place fs before) one) within (omega arith))))
begin_outcome fs before (lexeme.Mark mark.OpenRound) p here within = opened fs before (state (frame before in_round ∷ fs) (front none)) p (round_opened fs before) refl here within
begin_outcome fs before (lexeme.Mark mark.OpenSquare) p here within = opened fs before (state (frame before in_left ∷ fs) (front none)) p (square_opened fs before) refl here within
begin_outcome fs before _ p here within = inl refl

round_outcome : (fs : List Frame) (w : Word) (p : ℕ) → AreWithin (whole_known fs w) → Outcome (whole_known fs w) (round_step fs w) p
round_outcome (frame before in_round ∷ fs) w p within =
    inr (inl (
      state fs (behind before (round w)),
      refl,
      subst AreWithin (sym (round_added fs before w))
          (one_more (whole_known (frame before in_round ∷ fs) w) (base_end (front_place fs before) (round w)) within (whole_within (frame before in_round ∷ fs) w within)),
    ))
round_outcome _ w p within = inl refl

comma_outcome : (fs : List Frame) (w : Word) (p : ℕ) → AreWithin (whole_known fs w) → Outcome (whole_known fs w) (comma_step fs w) p
comma_outcome (frame before in_left ∷ fs) w p within =
    inr (inl (state (frame before (in_right w) ∷ fs) (front none), refl, subst AreWithin (sym (comma_added fs before w)) within))
comma_outcome _ w p within = inl refl

square_outcome : (fs : List Frame) (w : Word) (p : ℕ) → p ≡ length (state_lexemes (state fs (whole w))) → AreWithin (whole_known fs w) → Outcome (whole_known fs w) (square_step fs w) p
square_outcome (frame before (in_right u) ∷ fs) w p here within =
    ⊎_elim
    (λ long. inr (inr (inl (square_breaks fs before u w p (sym here) long))))
    (λ short. inr (inl (
      state fs (behind before (commutator u w)),
      refl,
      subst AreWithin (sym (square_added fs before u w)) (one_more (whole_known (frame before (in_right u) ∷ fs) w) (base_end (front_place fs before) (commutator u w)) within short),
    )))
    (cases_lt WORD_LIMIT (base_letters (commutator u w)))
square_outcome _ w p here within = inl refl

whole_outcome : (fs : List Frame) (w : Word) (x : Lexeme) (p : ℕ) → p ≡ length (state_lexemes (state fs (whole w))) → AreWithin (whole_known fs w) → Outcome (whole_known fs w) (whole_step fs w x) p
whole_outcome fs w (lexeme.Mark mark.Star) p here within = inr (inl (state fs (front (after w true)), refl, within))
whole_outcome fs w (lexeme.Mark mark.CloseRound) p here within = round_outcome fs w p within
whole_outcome fs w (lexeme.Mark mark.Comma) p here within = comma_outcome fs w p within
whole_outcome fs w (lexeme.Mark mark.CloseSquare) p here within = square_outcome fs w p here within
whole_outcome fs w x p here within =
    begin_outcome fs (after w false) x p (here ∙ ap (λ xs. length (frames_lexemes fs ++ xs)) (sym (append-nil _))) within

number_outcome : (fs : List Frame) (before : Before) (b : Base) (negative : Bool) (x : Lexeme) (p : ℕ) → p ≡ number_count fs before b negative → AreWithin (state_events (state fs (behind before b))) →
    Outcome (state_events (state fs (behind before b))) (number_step fs before b negative x) p
number_outcome fs before b negative (lexeme.Number n) p here within =
    let f : Factor = power b negative n in
    let w : Word = joined before f in
    ⊎_elim
    (λ long. inr (inr (inl (number_long fs before b negative n p (sym here) long))))
    (λ short.
    let sum = joined_letters before f in
    let factor_short : factor_letters f ≤ WORD_LIMIT = omega (arith, sum, short) in
    inr (inl (
      state fs (whole w),
      refl,
      subst AreWithin (sym (number_added fs before b negative n))
          (all_append IsWithin (state_events (state fs (behind before b))) (factor_end (front_place fs before) f ∷ word_end (length (frames_lexemes fs)) w ∷ []) within (factor_short, (short, tt))),
    )))
    (cases_lt WORD_LIMIT (word_letters w))
number_outcome fs before b negative _ p here within = inl refl

-- any lexeme but a caret
step_outcome : (s : State) (x : Lexeme) (p : ℕ) → x ≢ lexeme.Mark mark.Caret → p ≡ length (state_lexemes s) → AreWithin (state_events (closed_state s)) → Outcome (state_events (closed_state s)) (step s x) p
step_outcome (state fs (front before)) x p other here within = begin_outcome fs before x p here within
step_outcome (state fs (behind before b)) (lexeme.Mark mark.Caret) p other here within = absurd (other refl)
step_outcome (state fs (behind before b)) x p other here within =
    whole_outcome fs (joined before (bare b)) x p (here ∙ sym (ap length (closed_lexemes (state fs (behind before b))))) within
step_outcome (state fs (caret before b)) (lexeme.Mark mark.Minus) p other here within = inr (inl (state fs (minus before b), refl, within))
step_outcome (state fs (caret before b)) x p other here within = number_outcome fs before b false x p here within
step_outcome (state fs (minus before b)) x p other here within = number_outcome fs before b true x p here within
step_outcome (state fs (whole w)) x p other here within = whole_outcome fs w x p here within

-- a caret
caret_outcome : (s : State) → AreWithin (state_events s) → Goes (step s (lexeme.Mark mark.Caret)) ⊎ ((step s (lexeme.Mark mark.Caret) ≡ None) × (closed_state s ≡ s))
caret_outcome (state fs (front before)) within = inr (refl, refl)
caret_outcome (state fs (behind before b)) within = inl (state fs (caret before b), refl, within)
caret_outcome (state fs (caret before b)) within = inr (refl, refl)
caret_outcome (state fs (minus before b)) within = inr (refl, refl)
caret_outcome (state fs (whole w)) within = inr (refl, refl)

mark_is_caret : (m : Mark) → (m ≡ mark.Caret) ⊎ (m ≢ mark.Caret)
mark_is_caret mark.Caret = inl refl
mark_is_caret _ = inr (λ e. cc)

is_caret : (x : Lexeme) → (x ≡ lexeme.Mark mark.Caret) ⊎ (x ≢ lexeme.Mark mark.Caret)
is_caret (lexeme.Mark m) = ⊎_elim (λ same. inl (ap (λ k. lexeme.Mark k) same)) (λ other. inr (λ e. let same : m ≡ mark.Caret = cc in other same)) (mark_is_caret m)
is_caret lexeme.Name = inr (λ e. cc)
is_caret lexeme.RelatorSign = inr (λ e. cc)
is_caret (lexeme.Number n) = inr (λ e. cc)
is_caret (lexeme.Keyword k) = inr (λ e. cc)

-- a word that is read at the front, and no cause stands in the lexemes
pub record IsSound (xs : List Lexeme) (r : WordRead) : Type 0 where
  pub read : IsRead xs r
  pub faultless : IsFaultless xs
  pub letters : r.letters ≤ WORD_LIMIT

abbrev pub SoundOrFaulty : List Lexeme → Type 0
SoundOrFaulty xs = ((r : WordRead) × IsSound xs r) ⊎ ((p : ℕ) × (c : Cause) × IsFirstCause xs p c)

-- what is read is a word, or something is open
whole_or_not : (s : State) → ((w : Word) × (closed_state s ≡ state [] (whole w))) ⊎ ((w : Word) → closed_state s ≡ state [] (whole w) → ⊥)
whole_or_not (state [] (front before)) = inr (λ w e. cc)
whole_or_not (state [] (behind before b)) = inl (joined before (bare b), refl)
whole_or_not (state [] (caret before b)) = inr (λ w e. cc)
whole_or_not (state [] (minus before b)) = inr (λ w e. cc)
whole_or_not (state [] (whole w)) = inl (w, refl)
whole_or_not (state (f ∷ fs) s) = inr (λ w e. cc)

stopped : (read ys : List Lexeme) (s : State) → run start read ≡ Some s → StopsAt s ys → AreWithin (state_events (closed_state s)) → SoundOrFaulty (read ++ ys)
stopped read ys s reads stops within =
    ⊎_elim
    (λ at_end.
    let w = at_end.0 in
    let h = word_stops read ys s w reads stops within at_end.1 in
    let fits = subst (λ t. AreWithin (state_events t)) at_end.1 within in
    inl (
      record { count = length read; letters = word_letters w },
      record {
        read = record { word = w; lexemes = h.0 ∙ sym (take-append_seam read ys); letters = refl; within = fits; reach = h.1 };
        faultless = h.2;
        letters = whole_within [] w fits;
      },
    ))
    (λ open_end. inr (length read, cause.Unexpected, unexpected_first read ys s reads stops within open_end))
    (whole_or_not s)

-- before any lexeme but a caret a base at the end is closed
close_or_fault : (read ys : List Lexeme) (s : State) → run start read ≡ Some s → AreWithin (state_events s) → NoCaret ys → AreWithin (state_events (closed_state s)) ⊎ ((p : ℕ) × IsFirstCause (read ++ ys) p cause.WordTooLong)
close_or_fault read ys (state fs (behind before b)) reads within no_caret =
    let s = state fs (behind before b) in
    let w = joined before (bare b) in
    let p = length (state_lexemes s) - 1 in
    let some = base_some b in
    let size : p + 1 ≡ length (state_lexemes s) = omega (arith, some, length-append (frames_lexemes fs) (before_lexemes before ++ base_lexemes b), length-append (before_lexemes before) (base_lexemes b)) in
    ⊎_elim
    (λ long. inr (p, closes_long read ys s p reads within no_caret (size, long)))
    (λ short. inl (subst AreWithin (sym (closed_adds s)) (all_append IsWithin (state_events s) (closing_events s) within (short, tt))))
    (cases_lt WORD_LIMIT (word_letters w))
close_or_fault read ys (state fs (front before)) reads within no_caret = inl within
close_or_fault read ys (state fs (caret before b)) reads within no_caret = inl within
close_or_fault read ys (state fs (minus before b)) reads within no_caret = inl within
close_or_fault read ys (state fs (whole w)) reads within no_caret = inl within

-- one lexeme more
abbrev Longer : List Lexeme → List Lexeme → Type 0
Longer read ys = (t : State) → run start read ≡ Some t → AreWithin (state_events t) → SoundOrFaulty (read ++ ys)

goes_on : (read : List Lexeme) (x : Lexeme) (ys : List Lexeme) (s : State) → run start read ≡ Some s → Longer (read ++ x ∷ []) ys → Goes (step s x) → SoundOrFaulty (read ++ x ∷ ys)
goes_on read x ys s reads longer goes =
    subst SoundOrFaulty (append_assoc read (x ∷ []) ys) (longer goes.0 (read_more read x s goes.0 reads goes.1) goes.2)

behind_caret : (read : List Lexeme) (x : Lexeme) (ys : List Lexeme) (s : State) → run start read ≡ Some s → AreWithin (state_events s) → Longer (read ++ x ∷ []) ys → x ≡ lexeme.Mark mark.Caret → SoundOrFaulty (read ++ x ∷ ys)
behind_caret read x ys s reads within longer same =
    ⊎_elim
    (λ goes. goes_on read x ys s reads longer (subst (λ y. Goes (step s y)) (sym same) goes))
    (λ stops. stopped read (x ∷ ys) s reads (ap (step s) same ∙ stops.0) (subst (λ t. AreWithin (state_events t)) (sym stops.1) within))
    (caret_outcome s within)

behind_other : (read : List Lexeme) (x : Lexeme) (ys : List Lexeme) (s : State) → run start read ≡ Some s → AreWithin (state_events s) → Longer (read ++ x ∷ []) ys → x ≢ lexeme.Mark mark.Caret → SoundOrFaulty (read ++ x ∷ ys)
behind_other read x ys s reads within longer other =
    ⊎_elim
    (λ fits. ⊎_elim
    (λ stops. stopped read (x ∷ ys) s reads stops fits)
    (λ takes. ⊎_elim
    (λ goes. goes_on read x ys s reads longer goes)
    (λ breaks. ⊎_elim
    (λ long. inr (length read, cause.WordTooLong, takes_long read x ys s reads fits long))
    (λ deep. inr (length read, cause.TooMany, takes_deep read x ys s reads fits deep))
    breaks)
    takes)
    (step_outcome s x (length read) other (sym (count_read read s reads)) fits))
    (λ long. inr (long.0, cause.WordTooLong, long.1))
    (close_or_fault read (x ∷ ys) s reads within other)

read_on : (ys read : List Lexeme) (s : State) → run start read ≡ Some s → AreWithin (state_events s) → SoundOrFaulty (read ++ ys)
read_on [] read s reads within =
    ⊎_elim
    (λ fits. stopped read [] s reads tt fits)
    (λ long. inr (long.0, cause.WordTooLong, long.1))
    (close_or_fault read [] s reads within tt)
read_on (x ∷ ys) read s reads within =
    let longer : Longer (read ++ x ∷ []) ys = λ t more fits. read_on ys (read ++ x ∷ []) t more fits in
    ⊎_elim (λ same. behind_caret read x ys s reads within longer same) (λ other. behind_other read x ys s reads within longer other) (is_caret x)

-- every list of lexemes
pub word_or_fault : (xs : List Lexeme) → SoundOrFaulty xs
word_or_fault xs = read_on xs [] start refl tt

-- every token is a lexeme
lexeme_of_kind : (line : List ℕ) (t : Token) (k : TokenKind) → t.kind ≡ k → IsToken k (token_bytes line t) → (x : Lexeme) × IsLexemeOf line t x
lexeme_of_kind line t kind.Name same is = (lexeme.Name, same)
lexeme_of_kind line t kind.Keyword same is = (lexeme.Keyword is.0, (same, is.1))
lexeme_of_kind line t kind.RelatorSign same is = (lexeme.RelatorSign, same)
lexeme_of_kind line t kind.Number same is = (lexeme.Number (number_value (token_bytes line t)), (same, refl))
lexeme_of_kind line t kind.Mark same is = (lexeme.Mark is.0, (same, is.1))

pub token_lexeme : (line : List ℕ) (t : Token) → IsLongestAtStart line t → (x : Lexeme) × IsLexemeOf line t x
token_lexeme line t is = lexeme_of_kind line t t.kind refl is.token

pub tokens_lexemes : (line : List ℕ) (from : ℕ) (ts : List Token) (to : ℕ) → Cuts line from ts to → (xs : List Lexeme) × AllZip (IsLexemeOf line) ts xs
tokens_lexemes line from [] to cut = ([], tt)
tokens_lexemes line from (t ∷ ts) to cut =
    let first = token_lexeme line t cut.1 in
    let others = tokens_lexemes line (t.start + t.length) ts to cut.2 in
    (first.0 ∷ others.0, (first.1, others.1))
