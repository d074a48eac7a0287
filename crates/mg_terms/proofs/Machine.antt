-- Reading follows the grammar: what is read is what the state says, and a whole word is read as itself.
use Rattle.std.proofs.Common.{◌≡◌, ℕ, zero, suc, Bool, true, false, List, [], ◌∷◌, ◌++◌, Option, Some, ◌≢◌, refl, sym, ap, subst, ◌∙◌, append_assoc, append-nil, IfSome, option_and_then}
use Rattle.mg_lex.specs.declared.mark.Mark.TheVariants as mark
use Rattle.mg_terms.specs.declared.lexeme.Lexeme.{Lexeme}
use Rattle.mg_terms.specs.declared.lexeme.Lexeme.TheVariants as lexeme
use Rattle.mg_terms.specs.Word.{Base, name, one, round, commutator, Factor, bare, power, Word, single, times, minus_lexemes, star_lexemes, base_lexemes, factor_lexemes, word_lexemes}
use Rattle.mg_terms.specs.Reading.{Before, none, after, in_round, in_left, in_right, Frame, frame, Stand, front, behind, caret, minus, whole, State, state, joined, begin_step, round_step, comma_step, square_step, whole_step, number_step, step, run, before_lexemes, frames_lexemes, state_lexemes, closed}

pub joined_lexemes : (before : Before) (f : Factor) → word_lexemes (joined before f) ≡ before_lexemes before ++ factor_lexemes f
joined_lexemes none f = refl
joined_lexemes (after w star) f = sym (append_assoc (word_lexemes w) (star_lexemes star) (factor_lexemes f))

-- the state after a lexeme has read one lexeme more
abbrev Reads : List Lexeme → Lexeme → Option State → Type 0
Reads read x o = IfSome o (λ t. state_lexemes t ≡ read ++ x ∷ [])

begin_reads : (fs : List Frame) (before : Before) (x : Lexeme) → Reads (frames_lexemes fs ++ before_lexemes before) x (begin_step fs before x)
begin_reads fs before lexeme.Name = simp append_assoc
begin_reads fs before (lexeme.Number (suc zero)) = simp append_assoc
begin_reads fs before (lexeme.Mark mark.OpenRound) = simp (append_assoc, append-nil)
begin_reads fs before (lexeme.Mark mark.OpenSquare) = simp (append_assoc, append-nil)
begin_reads fs before _ = tt

round_reads : (fs : List Frame) (w : Word) → Reads (frames_lexemes fs ++ word_lexemes w) (lexeme.Mark mark.CloseRound) (round_step fs w)
round_reads (frame before in_round ∷ fs) w = simp append_assoc
round_reads _ w = tt

comma_reads : (fs : List Frame) (w : Word) → Reads (frames_lexemes fs ++ word_lexemes w) (lexeme.Mark mark.Comma) (comma_step fs w)
comma_reads (frame before in_left ∷ fs) w = simp (append_assoc, append-nil)
comma_reads _ w = tt

square_reads : (fs : List Frame) (w : Word) → Reads (frames_lexemes fs ++ word_lexemes w) (lexeme.Mark mark.CloseSquare) (square_step fs w)
square_reads (frame before (in_right u) ∷ fs) w = simp append_assoc
square_reads _ w = tt

begin_reads_after : (fs : List Frame) (w : Word) (x : Lexeme) → Reads (frames_lexemes fs ++ word_lexemes w) x (begin_step fs (after w false) x)
begin_reads_after fs w x = simp append-nil at (begin_reads fs (after w false) x)

whole_reads : (fs : List Frame) (w : Word) (x : Lexeme) → Reads (frames_lexemes fs ++ word_lexemes w) x (whole_step fs w x)
whole_reads fs w (lexeme.Mark mark.Star) = simp append_assoc
whole_reads fs w (lexeme.Mark mark.CloseRound) = round_reads fs w
whole_reads fs w (lexeme.Mark mark.Comma) = comma_reads fs w
whole_reads fs w (lexeme.Mark mark.CloseSquare) = square_reads fs w
whole_reads fs w x = begin_reads_after fs w x

-- behind an exponent's marks
number_reads : (fs : List Frame) (before : Before) (b : Base) (negative : Bool) (x : Lexeme) →
    Reads (frames_lexemes fs ++ (before_lexemes before ++ (base_lexemes b ++ lexeme.Mark mark.Caret ∷ minus_lexemes negative))) x (number_step fs before b negative x)
number_reads fs before b negative (lexeme.Number n) =
    ap (λ xs. frames_lexemes fs ++ xs) (joined_lexemes before (power b negative n)) ∙ simp append_assoc
number_reads fs before b negative _ = tt

pub step_reads : (s : State) (x : Lexeme) → Reads (state_lexemes s) x (step s x)
step_reads (state fs (front before)) x = begin_reads fs before x
step_reads (state fs (behind before b)) (lexeme.Mark mark.Caret) = simp append_assoc
step_reads (state fs (behind before b)) x =
    subst (λ xs. Reads (frames_lexemes fs ++ xs) x (whole_step fs (joined before (bare b)) x)) (joined_lexemes before (bare b)) (whole_reads fs (joined before (bare b)) x)
step_reads (state fs (caret before b)) (lexeme.Mark mark.Minus) = simp append_assoc
step_reads (state fs (caret before b)) x = number_reads fs before b false x
step_reads (state fs (minus before b)) x = number_reads fs before b true x
step_reads (state fs (whole w)) x = whole_reads fs w x

-- what holds of a value holds of the value of an option that is Some of it
pub if_some : {A : Type 0} (P : A → Type 0) (o : Option A) (a : A) → o ≡ Some a → IfSome o P → P a
if_some P o a e h = let k = subst (λ v. IfSome v P) e h in k

-- a lexeme other than a caret closes it
pub closed_step : (fs : List Frame) (s : Stand) (x : Lexeme) → x ≢ lexeme.Mark mark.Caret → step (state fs s) x ≡ step (state fs (closed s)) x
closed_step fs (behind before b) (lexeme.Mark mark.Caret) other = absurd (other refl)
closed_step fs (behind before b) x other = refl
closed_step fs (front before) x other = refl
closed_step fs (caret before b) x other = refl
closed_step fs (minus before b) x other = refl
closed_step fs (whole w) x other = refl

-- where one stands behind a factor, and behind a word
abbrev pub done : Before → Factor → Stand
done before (bare b) = behind before b
done before (power b negative n) = whole (joined before (power b negative n))

abbrev pub ended : Word → Stand
ended (single f) = done none f
ended (times w star f) = done (after w star) f

closed_done : (before : Before) (f : Factor) → closed (done before f) ≡ whole (joined before f)
closed_done before (bare b) = refl
closed_done before (power b negative n) = refl

pub closed_ended : (w : Word) → closed (ended w) ≡ whole w
closed_ended (single f) = closed_done none f
closed_ended (times w star f) = closed_done (after w star) f

pub ended_step : (fs : List Frame) (w : Word) (x : Lexeme) → x ≢ lexeme.Mark mark.Caret → step (state fs (ended w)) x ≡ whole_step fs w x
ended_step fs w x other = closed_step fs (ended w) x other ∙ ap (λ s. step (state fs s) x) (closed_ended w)

-- the lexemes of a base are read behind a word as behind its front
base_at_whole : (fs : List Frame) (w : Word) (b : Base) (rest : List Lexeme) → run (state fs (whole w)) (base_lexemes b ++ rest) ≡ run (state fs (front (after w false))) (base_lexemes b ++ rest)
base_at_whole fs w name rest = refl
base_at_whole fs w one rest = refl
base_at_whole fs w (round u) rest = refl
base_at_whole fs w (commutator u v) rest = refl

base_at_closed : (fs : List Frame) (s : Stand) (b : Base) (rest : List Lexeme) → run (state fs s) (base_lexemes b ++ rest) ≡ run (state fs (closed s)) (base_lexemes b ++ rest)
base_at_closed fs (behind before c) name rest = refl
base_at_closed fs (behind before c) one rest = refl
base_at_closed fs (behind before c) (round u) rest = refl
base_at_closed fs (behind before c) (commutator u v) rest = refl
base_at_closed fs (front before) b rest = refl
base_at_closed fs (caret before c) b rest = refl
base_at_closed fs (minus before c) b rest = refl
base_at_closed fs (whole w) b rest = refl

base_at_ended : (fs : List Frame) (w : Word) (b : Base) (rest : List Lexeme) → run (state fs (ended w)) (base_lexemes b ++ rest) ≡ run (state fs (front (after w false))) (base_lexemes b ++ rest)
base_at_ended fs w b rest =
    base_at_closed fs (ended w) b rest ∙ ap (λ s. run (state fs s) (base_lexemes b ++ rest)) (closed_ended w) ∙ base_at_whole fs w b rest

factor_at_ended : (fs : List Frame) (w : Word) (f : Factor) (rest : List Lexeme) → run (state fs (ended w)) (factor_lexemes f ++ rest) ≡ run (state fs (front (after w false))) (factor_lexemes f ++ rest)
factor_at_ended fs w (bare b) rest = base_at_ended fs w b rest
factor_at_ended fs w (power b negative n) rest =
    let tail : List Lexeme = lexeme.Mark mark.Caret ∷ (minus_lexemes negative ++ lexeme.Number n ∷ []) in
    subst (λ xs. run (state fs (ended w)) xs ≡ run (state fs (front (after w false))) xs) (sym (append_assoc (base_lexemes b) tail rest)) (base_at_ended fs w b (tail ++ rest))

exponent_runs : (fs : List Frame) (before : Before) (b : Base) (negative : Bool) (n : ℕ) (rest : List Lexeme) →
    run (state fs (behind before b)) (lexeme.Mark mark.Caret ∷ ((minus_lexemes negative ++ lexeme.Number n ∷ []) ++ rest)) ≡ run (state fs (whole (joined before (power b negative n)))) rest
exponent_runs fs before b true n rest = refl
exponent_runs fs before b false n rest = refl

-- a base, a factor and a word are read as themselves
mutual
  pub base_runs : (b : Base) (fs : List Frame) (before : Before) (rest : List Lexeme) → run (state fs (front before)) (base_lexemes b ++ rest) ≡ run (state fs (behind before b)) rest
  base_runs name fs before rest = refl
  base_runs one fs before rest = refl
  base_runs (round w) fs before rest =
      let gs : List Frame = frame before in_round ∷ fs in
      ap (run (state gs (front none))) (append_assoc (word_lexemes w) (lexeme.Mark mark.CloseRound ∷ []) rest)
      ∙ word_runs w gs (lexeme.Mark mark.CloseRound ∷ rest)
      ∙ ap (option_and_then (λ t. run t rest)) (ended_step gs w (lexeme.Mark mark.CloseRound) (λ e. cc))
  base_runs (commutator u v) fs before rest =
      let gs : List Frame = frame before in_left ∷ fs in
      let hs : List Frame = frame before (in_right u) ∷ fs in
      let tail : List Lexeme = word_lexemes v ++ lexeme.Mark mark.CloseSquare ∷ [] in
      ap (run (state gs (front none))) (append_assoc (word_lexemes u) (lexeme.Mark mark.Comma ∷ tail) rest)
      ∙ word_runs u gs (lexeme.Mark mark.Comma ∷ (tail ++ rest))
      ∙ ap (option_and_then (λ t. run t (tail ++ rest))) (ended_step gs u (lexeme.Mark mark.Comma) (λ e. cc))
      ∙ ap (run (state hs (front none))) (append_assoc (word_lexemes v) (lexeme.Mark mark.CloseSquare ∷ []) rest)
      ∙ word_runs v hs (lexeme.Mark mark.CloseSquare ∷ rest)
      ∙ ap (option_and_then (λ t. run t rest)) (ended_step hs v (lexeme.Mark mark.CloseSquare) (λ e. cc))

  pub factor_runs : (f : Factor) (fs : List Frame) (before : Before) (rest : List Lexeme) → run (state fs (front before)) (factor_lexemes f ++ rest) ≡ run (state fs (done before f)) rest
  factor_runs (bare b) fs before rest = base_runs b fs before rest
  factor_runs (power b negative n) fs before rest =
      let tail : List Lexeme = lexeme.Mark mark.Caret ∷ (minus_lexemes negative ++ lexeme.Number n ∷ []) in
      ap (run (state fs (front before))) (append_assoc (base_lexemes b) tail rest)
      ∙ base_runs b fs before (tail ++ rest)
      ∙ exponent_runs fs before b negative n rest

  pub word_runs : (w : Word) (fs : List Frame) (rest : List Lexeme) → run (state fs (front none)) (word_lexemes w ++ rest) ≡ run (state fs (ended w)) rest
  word_runs (single f) fs rest = factor_runs f fs none rest
  word_runs (times w true f) fs rest =
      ap (run (state fs (front none))) (append_assoc (word_lexemes w) (lexeme.Mark mark.Star ∷ factor_lexemes f) rest)
      ∙ word_runs w fs (lexeme.Mark mark.Star ∷ (factor_lexemes f ++ rest))
      ∙ ap (option_and_then (λ t. run t (factor_lexemes f ++ rest))) (ended_step fs w (lexeme.Mark mark.Star) (λ e. cc))
      ∙ factor_runs f fs (after w true) rest
  word_runs (times w false f) fs rest =
      ap (run (state fs (front none))) (append_assoc (word_lexemes w) (factor_lexemes f) rest)
      ∙ word_runs w fs (factor_lexemes f ++ rest)
      ∙ factor_at_ended fs w f rest
      ∙ factor_runs f fs (after w false) rest
