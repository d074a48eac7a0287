-- What the reader keeps follows the states.
use Rattle.std.proofs.Common.{◌≡◌, ◌≢◌, inl, inr, ⊎_elim, ℕ, ◌+◌, ◌*◌, ◌<◌, ◌≤◌, Bool, true, false, IsTrue, List, [], ◌∷◌, ◌++◌, length, Some, Result, Ok, Err, IfOk, IfErr, OnOk, refl, sym, ap, subst, ◌∙◌, arith, append-nil, length-append, ◌↔◌}
use Rattle.std.specs.List.{AllByRecursion, Contains}
use Rattle.std.proofs.lemmas.List.Elements.{Contains-push, Contains-append_right}
use Rattle.mg_lex.specs.declared.refusal.Cause.TheVariants as cause
use Rattle.mg_lex.specs.declared.mark.Mark.TheVariants as mark
use Rattle.mg_terms.specs.declared.lexeme.Lexeme.{Lexeme}
use Rattle.mg_terms.specs.declared.lexeme.Lexeme.TheVariants as lexeme
use Rattle.mg_terms.specs.declared.limits.TheConstants.{WORD_LIMIT, DEPTH_LIMIT}
use Rattle.mg_terms.specs.declared.around.Begun.{Begun}
use Rattle.mg_terms.specs.declared.around.Bracket.{Bracket}
use Rattle.mg_terms.specs.declared.around.Bracket.TheVariants as bracket
use Rattle.mg_terms.specs.declared.reader.Position.TheVariants as position
use Rattle.mg_terms.specs.declared.reader.Reader.{Reader}
use Rattle.mg_terms.specs.declared.fault.WordFault.{WordFault}
use Rattle.mg_terms.specs.Word.{Base, name, one, round, commutator, Factor, bare, power, Word, single, times, star_lexemes, base_lexemes, word_lexemes, base_letters, factor_letters, word_letters}
use Rattle.mg_terms.specs.Event.{Event, opens, ends, base_end, factor_end, word_end, factor_events, word_events, IsWithin, AreWithin}
use Rattle.mg_terms.specs.Reading.{Before, none, after, in_round, in_left, in_right, Frame, frame, front, behind, caret, minus, whole, State, state, joined, begin_step, round_step, square_step, whole_step, number_step, step, number_count, depth, frames_lexemes, before_lexemes, state_lexemes, frames_events, state_events, closed_state, TakesLong}
use Rattle.mg_terms.specs.Reader.{begun, before_letters, around, kept, Has, IsReady, Takes, Breaks, Brings, Steps, IsWhole, Ends}
use Rattle.mg_terms.proofs.Machine.{closed_step}
use Rattle.mg_terms.proofs.Adding.{front_known, front_place, whole_known, closed_adds, closed_lexemes, one_added, round_added, square_added, number_added, number_length}
use Rattle.mg_terms.proofs.Runs.{all_append}

all_right : (P : Event → Type 0) (xs ys : List Event) → AllByRecursion P (xs ++ ys) → AllByRecursion P ys
all_right P [] ys all = all
all_right P (x ∷ xs) ys all = all_right P xs ys all.1

-- one event more within the limits
within_push : (es : List Event) (e : Event) → AreWithin es → IsWithin e → AreWithin (es ++ e ∷ [])
within_push es e all last = all_append IsWithin es (e ∷ []) all (last, tt)

-- a word within the limits has no more letters than one may have
pub letters_within : (k d : ℕ) (w : Word) → AreWithin (word_events k d w) → word_letters w ≤ WORD_LIMIT
letters_within k d (single f) within =
    (all_right IsWithin (factor_events k d f) (word_end k (single f) ∷ []) within).0
letters_within k d (times w star f) within =
    let last : List Event = word_end k (times w star f) ∷ [] in
    let middle = factor_events (k + length (word_lexemes w ++ star_lexemes star)) d f in
    (all_right IsWithin middle last (all_right IsWithin (word_events k d w) (middle ++ last) within)).0

pub whole_within : (fs : List Frame) (w : Word) → AreWithin (whole_known fs w) → word_letters w ≤ WORD_LIMIT
whole_within fs w within =
    let k = length (frames_lexemes fs) in
    letters_within k (depth fs) w (all_right IsWithin (frames_events fs) (word_events k (depth fs) w) within)

-- the number of words around is that of the open brackets
depth_around : (fs : List Frame) → length (around fs) ≡ depth fs
depth_around [] = refl
depth_around (frame before o ∷ fs) = length-append (around fs) (begun fs (before_letters before) ∷ []) ∙ ap (λ n. n + 1) (depth_around fs)

pub one_taken : (fs : List Frame) (before : Before) (old : Reader) → Has old fs (before_letters before) → AreWithin (front_known fs before) →
    Takes (Some (state fs (behind before one))) (record { around = old.around; word = old.word; position = position.Base 0 })
one_taken fs before old has within = record {
  next = state fs (behind before one);
  takes = refl;
  keeps = cc;
  within = subst AreWithin (sym (one_added fs before)) (within_push (front_known fs before) (base_end (front_place fs before) one) within (omega arith));
}

-- a bracket is opened
pub opened_brings : (fs : List Frame) (before : Before) (b : Bracket) (t : State) (place : ℕ) (old new : Reader) (result : Result Bool WordFault) →
    kept t ≡ record { around = around fs ++ begun fs (before_letters before) ∷ []; word = record { bracket = b; letters = 0 }; position = position.Front } →
    state_events t ≡ front_known fs before ++ opens (front_place fs before) (depth fs + 1) ∷ [] → closed_state t ≡ t →
    Has old fs (before_letters before) → IsReady (state fs (front before)) place →
    IfOk result IsTrue → OnOk result (length old.around < DEPTH_LIMIT) →
    OnOk result (new ≡ record { around = old.around ++ old.word ∷ []; word = record { bracket = b; letters = 0 }; position = position.Front }) →
    IfErr result (λ f. (f.place ≡ place) × (f.cause ≡ cause.TooMany) × (DEPTH_LIMIT ≤ length old.around)) →
    Brings (front_known fs before) (Some t) place old new result
opened_brings fs before b t place old new (Ok true) keeps adds at_front has ready taken room opened fault =
    let deep = ap length has.0 ∙ depth_around fs in
    record {
      next = t;
      takes = refl;
      keeps = cc;
      within = subst AreWithin (sym adds) (within_push (front_known fs before) (opens (front_place fs before) (depth fs + 1)) ready.1 (omega arith));
    }
opened_brings fs before b t place old new (Ok false) keeps adds at_front has ready taken room opened fault = absurd (let never : false ≡ true = taken in cc)
opened_brings fs before b t place old new (Err f) keeps adds at_front has ready taken room opened fault =
    let deep = ap length has.0 ∙ depth_around fs in
    let over = fault.2 in
    let here : front_place fs before ≡ place = sym (length-append (frames_lexemes fs) (before_lexemes before)) ∙ ready.0 in (
      fault.0,
      inr (
        fault.1,
        record {
          next = t;
          takes = refl;
          depth = depth fs + 1;
          adds = adds ∙ ap (λ p. front_known fs before ++ opens p (depth fs + 1) ∷ []) here;
          at_front = at_front;
          deep = omega arith;
        },
      ),
    )

-- a bracket is closed: what its word leaves
abbrev Closes : Reader → Reader → ℕ → Type 0
Closes old new letters = (outer : List Begun) (word : Begun) → old.around ≡ outer ++ word ∷ [] → new ≡ record { around = outer; word = word; position = position.Base letters }

pub round_taken : (fs : List Frame) (w : Word) (old new : Reader) → Has old fs (word_letters w) → old.word.bracket ≡ bracket.Round → Closes old new old.word.letters → AreWithin (whole_known fs w) →
    Takes (round_step fs w) new
round_taken [] w old new has is closes within = absurd (let outer = ap (λ b. b.bracket) has.1 in cc)
round_taken (frame before in_round ∷ fs) w old new has is closes within =
    let letters = ap (λ (b : Begun). b.letters) has.1 in
    record {
      next = state fs (behind before (round w));
      takes = refl;
      keeps = sym (closes (around fs) (begun fs (before_letters before)) has.0 ∙ ap (λ (n : ℕ). record { around = around fs; word = begun fs (before_letters before); position = position.Base n }) letters);
      within = subst AreWithin (sym (round_added fs before w))
          (within_push (whole_known (frame before in_round ∷ fs) w) (base_end (front_place fs before) (round w)) within (whole_within (frame before in_round ∷ fs) w within));
    }
round_taken (frame before in_left ∷ fs) w old new has is closes within = absurd (let left = ap (λ b. b.bracket) has.1 in cc)
round_taken (frame before (in_right u) ∷ fs) w old new has is closes within = absurd (let right = ap (λ b. b.bracket) has.1 in cc)

-- the letters of a commutator that is closed
pub square_letters : (fs : List Frame) (w : Word) (old : Reader) (left : ℕ) → Has old fs (word_letters w) → old.word.bracket ≡ bracket.Right left →
    (before : Before) × (u : Word) × (gs : List Frame) × (fs ≡ frame before (in_right u) ∷ gs) × (2 * (left + old.word.letters) ≡ base_letters (commutator u w))
square_letters [] w old left has is = absurd (let outer = ap (λ b. b.bracket) has.1 in cc)
square_letters (frame before in_round ∷ fs) w old left has is = absurd (let round = ap (λ b. b.bracket) has.1 in cc)
square_letters (frame before in_left ∷ fs) w old left has is = absurd (let left = ap (λ b. b.bracket) has.1 in cc)
square_letters (frame before (in_right u) ∷ fs) w old left has is =
    let right : bracket.Right left ≡ bracket.Right (word_letters u) = sym is ∙ ap (λ (b : Begun). b.bracket) has.1 in
    let same : left ≡ word_letters u = cc in
    let letters = ap (λ (b : Begun). b.letters) has.1 in
    (before, u, fs, refl, omega arith)

square_closed : (fs : List Frame) (before : Before) (u w : Word) (old new : Reader) (letters : ℕ) → old.around ≡ around (frame before (in_right u) ∷ fs) → Closes old new letters → letters ≡ base_letters (commutator u w) → letters ≤ WORD_LIMIT → AreWithin (whole_known (frame before (in_right u) ∷ fs) w) →
    Takes (square_step (frame before (in_right u) ∷ fs) w) new
square_closed fs before u w old new letters has closes same short within = record {
  next = state fs (behind before (commutator u w));
  takes = refl;
  keeps = sym (closes (around fs) (begun fs (before_letters before)) has ∙ ap (λ (n : ℕ). record { around = around fs; word = begun fs (before_letters before); position = position.Base n }) same);
  within = subst AreWithin (sym (square_added fs before u w))
      (within_push (whole_known (frame before (in_right u) ∷ fs) w) (base_end (front_place fs before) (commutator u w)) within (subst (λ n. n ≤ WORD_LIMIT) same short));
}

pub square_taken : (fs : List Frame) (w : Word) (old new : Reader) (left letters : ℕ) → Has old fs (word_letters w) → old.word.bracket ≡ bracket.Right left → letters ≡ 2 * (left + old.word.letters) → letters ≤ WORD_LIMIT → Closes old new letters → AreWithin (whole_known fs w) →
    Takes (square_step fs w) new
square_taken fs w old new left letters has is sum short closes within =
    let h = square_letters fs w old left has is in
    let fit = subst (λ gs. old.around ≡ around gs) h.3 has.0 in
    subst (λ gs. Takes (square_step gs w) new) (sym h.3)
    (square_closed h.2 h.0 h.1 w old new letters fit closes (sum ∙ h.4) short (subst (λ gs. AreWithin (whole_known gs w)) h.3 within))

pub square_breaks : (fs : List Frame) (before : Before) (u w : Word) (place : ℕ) → length (state_lexemes (state (frame before (in_right u) ∷ fs) (whole w))) ≡ place → WORD_LIMIT < base_letters (commutator u w) →
    TakesLong (square_step (frame before (in_right u) ∷ fs) w) place
square_breaks fs before u w place here long =
    let letters = base_letters (commutator u w) in
    let e = base_end (front_place fs before) (commutator u w) in
    let read = simp length-append at here in
    let count : front_place fs before + length (base_lexemes (commutator u w)) ≡ place + 1 = simp length-append (omega arith) in
    record {
      next = state fs (behind before (commutator u w));
      takes = refl;
      letters = letters;
      among = subst (λ n. Contains (state_events (state fs (behind before (commutator u w)))) (ends n letters)) count
          (subst (λ es. Contains es e) (sym (square_added fs before u w)) (Contains-push (whole_known (frame before (in_right u) ∷ fs) w) e));
      long = long;
    }

pub square_long : (fs : List Frame) (w : Word) (old : Reader) (left place : ℕ) → Has old fs (word_letters w) → old.word.bracket ≡ bracket.Right left → WORD_LIMIT < 2 * (left + old.word.letters) → length (state_lexemes (state fs (whole w))) ≡ place →
    TakesLong (square_step fs w) place
square_long fs w old left place has is long here =
    let h = square_letters fs w old left has is in
    subst (λ gs. TakesLong (square_step gs w) place) (sym h.3)
    (square_breaks h.2 h.0 h.1 w place (subst (λ gs. length (state_lexemes (state gs (whole w))) ≡ place) h.3 here) (subst (λ n. WORD_LIMIT < n) h.4 long))

-- the number of an exponent
pub joined_letters : (before : Before) (f : Factor) → word_letters (joined before f) ≡ before_letters before + factor_letters f
joined_letters none f = omega arith
joined_letters (after w star) f = refl

grown_letters : (fs : List Frame) (before : Before) (b : Base) (negative : Bool) (n base : ℕ) (old : Reader) → Has old fs (before_letters before) → base ≡ base_letters b →
    old.word.letters + base * n ≡ word_letters (joined before (power b negative n))
grown_letters fs before b negative n base old has same =
    let letters = ap (λ (b : Begun). b.letters) has.1 in
    ap (λ m. m + base * n) letters ∙ ap (λ m. before_letters before + m * n) same ∙ sym (joined_letters before (power b negative n))

pub number_taken : (fs : List Frame) (before : Before) (b : Base) (negative : Bool) (n base : ℕ) (old new : Reader) → Has old fs (before_letters before) → base ≡ base_letters b →
    old.word.letters + base * n ≤ WORD_LIMIT →
    new ≡ record { around = old.around; word = record { bracket = old.word.bracket; letters = old.word.letters + base * n }; position = position.Whole } →
    AreWithin (state_events (state fs (behind before b))) → Takes (Some (state fs (whole (joined before (power b negative n))))) new
number_taken fs before b negative n base old new has same short grown within =
    let f : Factor = power b negative n in
    let w : Word = joined before f in
    let letters = grown_letters fs before b negative n base old has same in
    let sum = joined_letters before f in
    let whole_short : word_letters w ≤ WORD_LIMIT = omega arith in
    let factor_short : factor_letters f ≤ WORD_LIMIT = omega arith in
    let bracket = ap (λ (b : Begun). b.bracket) has.1 in
    record {
      next = state fs (whole w);
      takes = refl;
      keeps = cc;
      within = subst AreWithin (sym (number_added fs before b negative n))
          (all_append IsWithin (state_events (state fs (behind before b))) (factor_end (front_place fs before) f ∷ word_end (length (frames_lexemes fs)) w ∷ []) within (factor_short, (whole_short, tt)));
    }

pub number_long : (fs : List Frame) (before : Before) (b : Base) (negative : Bool) (n place : ℕ) → number_count fs before b negative ≡ place → WORD_LIMIT < word_letters (joined before (power b negative n)) →
    TakesLong (Some (state fs (whole (joined before (power b negative n))))) place
number_long fs before b negative n place here long =
    let f : Factor = power b negative n in
    let w : Word = joined before f in
    let known = state_events (state fs (behind before b)) in
    let added : List Event = factor_end (front_place fs before) f ∷ word_end (length (frames_lexemes fs)) w ∷ [] in
    let e = word_end (length (frames_lexemes fs)) w in
    let last : Contains added e = (1, omega arith, refl) in
    let count : length (frames_lexemes fs) + length (word_lexemes w) ≡ place + 1 = number_length fs before b negative n ∙ ap (λ m. m + 1) here in
    record {
      next = state fs (whole w);
      takes = refl;
      letters = word_letters w;
      among = subst (λ m. Contains (state_events (state fs (whole w))) (ends m (word_letters w))) count
          (subst (λ es. Contains es e) (sym (number_added fs before b negative n)) (Contains-append_right known added e last));
      long = long;
    }

pub number_breaks : (fs : List Frame) (before : Before) (b : Base) (negative : Bool) (n base place : ℕ) (old new : Reader) (f : WordFault) (x : Lexeme) → x ≡ lexeme.Number n → Has old fs (before_letters before) → base ≡ base_letters b →
    number_count fs before b negative ≡ place →
    (f.place ≡ place) × (f.cause ≡ cause.WordTooLong) × (WORD_LIMIT < old.word.letters + base * n) →
    Brings (state_events (state fs (behind before b))) (number_step fs before b negative x) place old new (Err f)
number_breaks fs before b negative n base place old new f x read has same here fault =
    let long = subst (λ m. WORD_LIMIT < m) (grown_letters fs before b negative n base old has same) fault.2 in
    (fault.0, inl (fault.1, subst (λ y. TakesLong (number_step fs before b negative y) place) (sym read) (number_long fs before b negative n place here long)))

-- behind a whole word, and what is neither a star nor closes it, a factor begins
other_step : (fs : List Frame) (w : Word) (x : Lexeme) → x ≢ lexeme.Mark mark.Star → x ≢ lexeme.Mark mark.CloseRound → x ≢ lexeme.Mark mark.Comma → x ≢ lexeme.Mark mark.CloseSquare →
    whole_step fs w x ≡ begin_step fs (after w false) x
other_step fs w (lexeme.Mark mark.Star) no_star no_round no_comma no_square = absurd (no_star refl)
other_step fs w (lexeme.Mark mark.CloseRound) no_star no_round no_comma no_square = absurd (no_round refl)
other_step fs w (lexeme.Mark mark.Comma) no_star no_round no_comma no_square = absurd (no_comma refl)
other_step fs w (lexeme.Mark mark.CloseSquare) no_star no_round no_comma no_square = absurd (no_square refl)
other_step fs w x no_star no_round no_comma no_square = refl

pub is_not : {A : Type 0} (r : Bool) → r ≡ false → IsTrue r ↔ A → A → ⊥
is_not r off says a = let on : r ≡ true = says.1 a in cc

pub whole_ready : (fs : List Frame) (w : Word) (place : ℕ) → IsReady (state fs (whole w)) place → IsReady (state fs (front (after w false))) place
whole_ready fs w place ready = (ap (λ xs. length (frames_lexemes fs ++ xs)) (append-nil (word_lexemes w)) ∙ ready.0, ready.1)

pub begin_brings : (fs : List Frame) (w : Word) (x : Lexeme) (place : ℕ) (old new : Reader) (result : Result Bool WordFault) →
    x ≢ lexeme.Mark mark.Star → x ≢ lexeme.Mark mark.CloseRound → x ≢ lexeme.Mark mark.Comma → x ≢ lexeme.Mark mark.CloseSquare →
    Brings (whole_known fs w) (begin_step fs (after w false) x) place old new result → Brings (whole_known fs w) (whole_step fs w x) place old new result
begin_brings fs w x place old new result no_star no_round no_comma no_square brings =
    subst (λ o. Brings (whole_known fs w) o place old new result) (sym (other_step fs w x no_star no_round no_comma no_square)) brings

-- a base at the end is closed
pub record IsClosed (fs : List Frame) (before : Before) (b : Base) (grown : Reader) : Type 0 where
  pub keeps : kept (state fs (whole (joined before (bare b)))) ≡ grown
  pub within : AreWithin (whole_known fs (joined before (bare b)))

pub base_closed : (fs : List Frame) (before : Before) (b : Base) (base : ℕ) (old grown : Reader) → Has old fs (before_letters before) → base ≡ base_letters b →
    old.word.letters + base * 1 ≤ WORD_LIMIT →
    grown ≡ record { around = old.around; word = record { bracket = old.word.bracket; letters = old.word.letters + base * 1 }; position = position.Whole } →
    AreWithin (state_events (state fs (behind before b))) → IsClosed fs before b grown
base_closed fs before b base old grown has same short grows within =
    let w : Word = joined before (bare b) in
    let s : State = state fs (behind before b) in
    let old_letters = ap (λ (b : Begun). b.letters) has.1 in
    let bracket = ap (λ (b : Begun). b.bracket) has.1 in
    let sum = joined_letters before (bare b) in
    let letters : old.word.letters + base * 1 ≡ word_letters w = omega arith in
    let word_short : word_letters w ≤ WORD_LIMIT = omega arith in
    record {
      keeps = cc;
      within = subst AreWithin (sym (closed_adds s)) (within_push (state_events s) (word_end (length (frames_lexemes fs)) w) within word_short);
    }

pub closed_steps : (fs : List Frame) (before : Before) (b : Base) (x : Lexeme) (place : ℕ) (grown new : Reader) (result : Result Bool WordFault) → x ≢ lexeme.Mark mark.Caret → IsClosed fs before b grown →
    Brings (whole_known fs (joined before (bare b))) (whole_step fs (joined before (bare b)) x) place grown new result → Steps (state fs (behind before b)) x place new result
closed_steps fs before b x place grown new (Ok true) other is_closed brings =
    subst (λ o. Takes o new) (sym (closed_step fs (behind before b) x other)) brings
closed_steps fs before b x place grown new (Ok false) other is_closed brings =
    (closed_step fs (behind before b) x other ∙ brings.0, is_closed.keeps ∙ sym brings.1, is_closed.within)
closed_steps fs before b x place grown new (Err f) other is_closed brings =
    inr (is_closed.within, subst (λ o. Breaks (whole_known fs (joined before (bare b))) o place f) (sym (closed_step fs (behind before b) x other)) brings)

-- a state without a base at its end
pub open_steps : (s : State) (x : Lexeme) (place : ℕ) (old new : Reader) (result : Result Bool WordFault) → closed_state s ≡ s → kept s ≡ old → AreWithin (state_events s) →
    Brings (state_events s) (step s x) place old new result → Steps s x place new result
open_steps s x place old new (Ok true) same keeps within brings = brings
open_steps s x place old new (Ok false) same keeps within brings =
    (brings.0, ap kept same ∙ keeps ∙ sym brings.1, subst (λ t. AreWithin (state_events t)) (sym same) within)
open_steps s x place old new (Err f) same keeps within brings =
    inr (subst (λ t. AreWithin (state_events t) × Breaks (state_events t) (step s x) place f) (sym same) (within, brings))

-- the state by its position
pub record IsMinus (s : State) (base : ℕ) (old : Reader) : Type 0 where
  pub frames : List Frame
  pub before : Before
  pub base_before : Base
  pub is : s ≡ state frames (minus before base_before)
  pub letters : base ≡ base_letters base_before
  pub has : Has old frames (before_letters before)

pub is_minus : (s : State) (old : Reader) (base : ℕ) → kept s ≡ old → old.position ≡ position.Minus base → IsMinus s base old
is_minus (state fs (minus before b)) old base keeps at_minus =
    let here = ap (λ (r : Reader). r.position) keeps ∙ at_minus in
    record {
      frames = fs;
      before = before;
      base_before = b;
      is = refl;
      letters = cc;
      has = (sym (ap (λ (r : Reader). r.around) keeps), sym (ap (λ (r : Reader). r.word) keeps));
    }
is_minus (state fs (front before)) old base keeps at_minus = absurd (let here = ap (λ (r : Reader). r.position) keeps ∙ at_minus in cc)
is_minus (state fs (behind before b)) old base keeps at_minus = absurd (let here = ap (λ (r : Reader). r.position) keeps ∙ at_minus in cc)
is_minus (state fs (caret before b)) old base keeps at_minus = absurd (let here = ap (λ (r : Reader). r.position) keeps ∙ at_minus in cc)
is_minus (state fs (whole w)) old base keeps at_minus = absurd (let here = ap (λ (r : Reader). r.position) keeps ∙ at_minus in cc)

minus_brings : (fs : List Frame) (before : Before) (b : Base) (x : Lexeme) (place base : ℕ) (old new : Reader) (result : Result Bool WordFault) → kept (state fs (minus before b)) ≡ old → IsReady (state fs (minus before b)) place →
    base ≡ base_letters b → Has old fs (before_letters before) →
    ((gs : List Frame) (outer : Before) (c : Base) (negative : Bool) → Has old gs (before_letters outer) → base ≡ base_letters c → number_count gs outer c negative ≡ place → AreWithin (state_events (state gs (behind outer c))) →
    Brings (state_events (state gs (behind outer c))) (number_step gs outer c negative x) place old new result) →
    Steps (state fs (minus before b)) x place new result
minus_brings fs before b x place base old new result keeps ready same has brings =
    open_steps (state fs (minus before b)) x place old new result refl keeps ready.1 (brings fs before b true has same ready.0 ready.1)

pub minus_steps : (s : State) (x : Lexeme) (place base : ℕ) (old new : Reader) (result : Result Bool WordFault) → kept s ≡ old → IsReady s place → old.position ≡ position.Minus base →
    ((gs : List Frame) (outer : Before) (c : Base) (negative : Bool) → Has old gs (before_letters outer) → base ≡ base_letters c → number_count gs outer c negative ≡ place → AreWithin (state_events (state gs (behind outer c))) →
    Brings (state_events (state gs (behind outer c))) (number_step gs outer c negative x) place old new result) →
    Steps s x place new result
minus_steps s x place base old new result keeps ready at_minus brings =
    let h = is_minus s old base keeps at_minus in
    subst (λ t. Steps t x place new result) (sym h.is)
    (minus_brings h.frames h.before h.base_before x place base old new result (ap kept (sym h.is) ∙ keeps) (subst (λ t. IsReady t place) h.is ready) h.letters h.has brings)

-- behind a caret and no minus sign comes the number
pub caret_brings : (fs : List Frame) (before : Before) (b : Base) (x : Lexeme) (place : ℕ) (old new : Reader) (result : Result Bool WordFault) → x ≢ lexeme.Mark mark.Minus →
    Brings (state_events (state fs (behind before b))) (number_step fs before b false x) place old new result →
    Brings (state_events (state fs (caret before b))) (step (state fs (caret before b)) x) place old new result
caret_brings fs before b (lexeme.Mark mark.Minus) place old new result other brings = absurd (other refl)
caret_brings fs before b x place old new result other brings = brings

pub kept_has : (fs : List Frame) (w : Word) (r : Reader) → kept (state fs (whole w)) ≡ r → Has r fs (word_letters w)
kept_has fs w r keeps = (sym (ap (λ (r : Reader). r.around) keeps), sym (ap (λ (r : Reader). r.word) keeps))

pub closed_ready : (fs : List Frame) (before : Before) (b : Base) (place : ℕ) → IsReady (state fs (behind before b)) place → AreWithin (whole_known fs (joined before (bare b))) → IsReady (state fs (whole (joined before (bare b)))) place
closed_ready fs before b place ready within = (ap length (closed_lexemes (state fs (behind before b))) ∙ ready.0, within)

-- the state whose base is at the end
pub record IsBehind (s : State) (base : ℕ) (old : Reader) : Type 0 where
  pub frames : List Frame
  pub before : Before
  pub base_before : Base
  pub is : s ≡ state frames (behind before base_before)
  pub letters : base ≡ base_letters base_before
  pub has : Has old frames (before_letters before)

pub is_behind : (s : State) (old : Reader) (base : ℕ) → kept s ≡ old → old.position ≡ position.Base base → IsBehind s base old
is_behind (state fs (behind before b)) old base keeps at_base =
    let here = ap (λ (r : Reader). r.position) keeps ∙ at_base in
    record {
      frames = fs;
      before = before;
      base_before = b;
      is = refl;
      letters = cc;
      has = (sym (ap (λ (r : Reader). r.around) keeps), sym (ap (λ (r : Reader). r.word) keeps));
    }
is_behind (state fs (front before)) old base keeps at_base = absurd (let here = ap (λ (r : Reader). r.position) keeps ∙ at_base in cc)
is_behind (state fs (minus before b)) old base keeps at_base = absurd (let here = ap (λ (r : Reader). r.position) keeps ∙ at_base in cc)
is_behind (state fs (caret before b)) old base keeps at_base = absurd (let here = ap (λ (r : Reader). r.position) keeps ∙ at_base in cc)
is_behind (state fs (whole w)) old base keeps at_base = absurd (let here = ap (λ (r : Reader). r.position) keeps ∙ at_base in cc)

pub base_some : (b : Base) → 1 ≤ length (base_lexemes b)
base_some name = omega arith
base_some one = omega arith
base_some (round w) = omega arith
base_some (commutator u v) = omega arith

-- a base has been read
pub behind_some : (s : State) (old : Reader) (base : ℕ) → kept s ≡ old → old.position ≡ position.Base base → 1 ≤ length (state_lexemes s)
behind_some s old base keeps at_base =
    let h = is_behind s old base keeps at_base in
    let some = base_some h.base_before in
    subst (λ t. 1 ≤ length (state_lexemes t)) (sym h.is) (simp length-append (omega arith))

closed_ends : (fs : List Frame) (w : Word) (before : Before) (b : Base) (place : ℕ) (result : Result ℕ WordFault) → w ≡ joined before (bare b) → Ends (state fs (whole w)) place result → Ends (state fs (behind before b)) place result
closed_ends fs w before b place (Ok letters) same outcome = subst (λ v. Ends (state fs (whole v)) place (Ok letters)) same outcome
closed_ends fs w before b place (Err f) same outcome =
    ⊎_elim (λ never. absurd never.1) (λ stops. inr (subst (λ v. (f.place ≡ place) × (f.cause ≡ cause.Unexpected) × AreWithin (whole_known fs v) × ((w : Word) → IsWhole (state fs (whole v)) w → ⊥)) same stops)) outcome

behind_ends : (fs : List Frame) (before : Before) (b : Base) (place base : ℕ) (old grown : Reader) (result : Result ℕ WordFault) → IsReady (state fs (behind before b)) place → base ≡ base_letters b → Has old fs (before_letters before) →
    old.word.letters + base * 1 ≤ WORD_LIMIT →
    grown ≡ record { around = old.around; word = record { bracket = old.word.bracket; letters = old.word.letters + base * 1 }; position = position.Whole } →
    ((t : State) → kept t ≡ grown → closed_state t ≡ t → AreWithin (state_events t) → Ends t place result) → Ends (state fs (behind before b)) place result
behind_ends fs before b place base old grown result ready same has short grows outcome =
    let w : Word = joined before (bare b) in
    let is_closed = base_closed fs before b base old grown has same short grows ready.1 in
    closed_ends fs w before b place result refl (outcome (state fs (whole w)) is_closed.keeps refl is_closed.within)

pub base_ends : (s : State) (place base : ℕ) (old grown : Reader) (result : Result ℕ WordFault) → kept s ≡ old → IsReady s place → old.position ≡ position.Base base →
    old.word.letters + base * 1 ≤ WORD_LIMIT →
    grown ≡ record { around = old.around; word = record { bracket = old.word.bracket; letters = old.word.letters + base * 1 }; position = position.Whole } →
    ((t : State) → kept t ≡ grown → closed_state t ≡ t → AreWithin (state_events t) → Ends t place result) → Ends s place result
base_ends s place base old grown result keeps ready at_base short grows outcome =
    let h = is_behind s old base keeps at_base in
    subst (λ t. Ends t place result) (sym h.is)
    (behind_ends h.frames h.before h.base_before place base old grown result (subst (λ t. IsReady t place) h.is ready) h.letters h.has short grows outcome)
