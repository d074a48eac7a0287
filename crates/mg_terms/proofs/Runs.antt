-- The events of a word are those of a beginning of it, and then only such as come later.
use Rattle.std.proofs.Common.{◌≡◌, ◌⊎◌, inl, inr, ⊎_elim, ℕ, ◌+◌, ◌≤◌, List, [], ◌∷◌, ◌++◌, length, Some, option_and_then, sym, ap, subst, ◌∙◌, arith, append_assoc, append-nil, length-append}
use Rattle.std.specs.List.{AllByRecursion}
use Rattle.mg_lex.specs.declared.mark.Mark.TheVariants as mark
use Rattle.mg_terms.specs.declared.lexeme.Lexeme.{Lexeme}
use Rattle.mg_terms.specs.declared.lexeme.Lexeme.TheVariants as lexeme
use Rattle.mg_terms.specs.Word.{bare, Word, word_lexemes}
use Rattle.mg_terms.specs.Event.{Event, opens, ends, word_events}
use Rattle.mg_terms.specs.Reading.{front, behind, caret, minus, whole, State, state, joined, step, run, start, frames_lexemes, state_lexemes, closed_state, state_events, NoCaret}
use Rattle.mg_terms.proofs.Machine.{step_reads, if_some, ended, closed_ended}
use Rattle.mg_terms.proofs.Unique.{word_reads}
use Rattle.mg_terms.proofs.Beginnings.{chained, run_append}
use Rattle.mg_terms.proofs.Adding.{IsFresh, Adds, closing_events, closed_adds, closed_lexemes, step_adds, caret_adds}

pub all_append : (P : Event → Type 0) (xs ys : List Event) → AllByRecursion P xs → AllByRecursion P ys → AllByRecursion P (xs ++ ys)
all_append P [] ys all more = more
all_append P (x ∷ xs) ys all more = (all.0, all_append P xs ys all.1 more)

pub all_left : (P : Event → Type 0) (xs ys : List Event) → AllByRecursion P (xs ++ ys) → AllByRecursion P xs
all_left P [] ys all = tt
all_left P (x ∷ xs) ys all = (all.0, all_left P xs ys all.1)

pub all_weaker : (P Q : Event → Type 0) → ((e : Event) → P e → Q e) → (xs : List Event) → AllByRecursion P xs → AllByRecursion Q xs
all_weaker P Q weaker [] all = tt
all_weaker P Q weaker (x ∷ xs) all = (weaker x all.0, all_weaker P Q weaker xs all.1)

-- the event comes with the lexeme at place k or later, or is the end of a part there
abbrev pub IsLate : ℕ → Event → Type 0
IsLate k (opens place d) = k ≤ place
IsLate k (ends count letters) = k ≤ count

pub record Grows (known : List Event) (k : ℕ) (events : List Event) : Type 0 where
  pub more : List Event
  pub all : events ≡ known ++ more
  pub later : AllByRecursion (IsLate k) more

fresh_late : (k : ℕ) (e : Event) → IsFresh k e → IsLate k e
fresh_late k (opens place d) h = h
fresh_late k (ends count letters) h = omega arith

late_fresh : (k : ℕ) (e : Event) → IsLate (k + 1) e → IsFresh k e
late_fresh k (opens place d) h = omega arith
late_fresh k (ends count letters) h = omega arith

closing_late : (s : State) → AllByRecursion (IsLate (length (state_lexemes s))) (closing_events s)
closing_late (state fs (behind before b)) =
    (omega (arith, ap length (closed_lexemes (state fs (behind before b))), length-append (frames_lexemes fs) (word_lexemes (joined before (bare b)))), tt)
closing_late (state fs (front before)) = tt
closing_late (state fs (caret before b)) = tt
closing_late (state fs (minus before b)) = tt
closing_late (state fs (whole w)) = tt

closed_grows : (s : State) → Grows (state_events s) (length (state_lexemes s)) (state_events (closed_state s))
closed_grows s = record { more = closing_events s; all = closed_adds s; later = closing_late s }

-- what one lexeme adds
adds_grows : (s : State) (es : List Event) → Adds (state_events (closed_state s)) (length (state_lexemes s)) es → Grows (state_events s) (length (state_lexemes s)) es
adds_grows s es adds =
    let k = length (state_lexemes s) in
    record {
      more = closing_events s ++ adds.fresh;
      all = adds.all ∙ ap (λ xs. xs ++ adds.fresh) (closed_adds s) ∙ append_assoc (state_events s) (closing_events s) adds.fresh;
      later = all_append (IsLate k) (closing_events s) adds.fresh (closing_late s) (all_weaker (IsFresh k) (IsLate k) (fresh_late k) adds.fresh adds.later);
    }

step_grows : (s : State) (x : Lexeme) (t : State) → step s x ≡ Some t → Grows (state_events s) (length (state_lexemes s)) (state_events t)
step_grows s (lexeme.Mark mark.Caret) t e =
    let same = if_some (λ t. (state_events t ≡ state_events s) × (closed_state t ≡ t)) (step s (lexeme.Mark mark.Caret)) t e (caret_adds s) in
    record { more = []; all = same.0 ∙ sym (append-nil (state_events s)); later = tt }
step_grows s x t e =
    adds_grows s (state_events t) (if_some (λ t. Adds (state_events (closed_state s)) (length (state_lexemes s)) (state_events t)) (step s x) t e (step_adds s x (λ same. cc)))

pub step_count : (s : State) (x : Lexeme) (t : State) → step s x ≡ Some t → length (state_lexemes t) ≡ length (state_lexemes s) + 1
step_count s x t e =
    ap length (if_some (λ t. state_lexemes t ≡ state_lexemes s ++ x ∷ []) (step s x) t e (step_reads s x)) ∙ length-append (state_lexemes s) (x ∷ [])

-- what a run to the end adds
pub run_grows : (xs : List Lexeme) (s u : State) → run s xs ≡ Some u → Grows (state_events s) (length (state_lexemes s)) (state_events (closed_state u))
run_grows [] s u e = let same : s ≡ u = cc in subst (λ v. Grows (state_events s) (length (state_lexemes s)) (state_events (closed_state v))) same (closed_grows s)
run_grows (x ∷ xs) s u e =
    let next = chained (λ v. run v xs) (step s x) u e in
    let t = next.0 in
    let k = length (state_lexemes s) in
    let one = step_grows s x t next.1 in
    let rest = subst (λ n. Grows (state_events t) n (state_events (closed_state u))) (step_count s x t next.1) (run_grows xs t u next.2) in
    record {
      more = one.more ++ rest.more;
      all = rest.all ∙ ap (λ ys. ys ++ rest.more) one.all ∙ append_assoc (state_events s) one.more rest.more;
      later = all_append (IsLate k) one.more rest.more one.later (all_weaker (IsLate (k + 1)) (IsLate k) (λ e h. fresh_late k e (late_fresh k e h)) rest.more rest.later);
    }

-- a run to the end that doesn't begin with a caret closes first
run_adds : (xs : List Lexeme) (s u : State) → NoCaret xs → run s xs ≡ Some u → Adds (state_events (closed_state s)) (length (state_lexemes s)) (state_events (closed_state u))
run_adds [] s u other e =
    let same : s ≡ u = cc in
    record { fresh = []; all = ap (λ v. state_events (closed_state v)) (sym same) ∙ sym (append-nil (state_events (closed_state s))); later = tt }
run_adds (x ∷ xs) s u other e =
    let next = chained (λ v. run v xs) (step s x) u e in
    let t = next.0 in
    let k = length (state_lexemes s) in
    let known = state_events (closed_state s) in
    let one = if_some (λ t. Adds known k (state_events t)) (step s x) t next.1 (step_adds s x other) in
    let rest = subst (λ n. Grows (state_events t) n (state_events (closed_state u))) (step_count s x t next.1) (run_grows xs t u next.2) in
    record {
      fresh = one.fresh ++ rest.more;
      all = rest.all ∙ ap (λ ys. ys ++ rest.more) one.all ∙ append_assoc known one.fresh rest.more;
      later = all_append (IsFresh k) one.fresh rest.more one.later (all_weaker (IsLate (k + 1)) (IsFresh k) (late_fresh k) rest.more rest.later);
    }

-- the rest of a word runs to its end
pub rest_runs : (w : Word) (xs rest : List Lexeme) (s : State) → word_lexemes w ≡ xs ++ rest → run start xs ≡ Some s → run s rest ≡ Some (state [] (ended w))
rest_runs w xs rest s e f =
    sym (ap (option_and_then (λ t. run t rest)) f) ∙ sym (run_append xs rest start) ∙ ap (run start) (sym e) ∙ word_reads w

pub ended_events : (w : Word) → state_events (closed_state (state [] (ended w))) ≡ word_events 0 0 w
ended_events w = ap (λ s. state_events (state [] s)) (closed_ended w)

pub word_grows : (w : Word) (rest : List Lexeme) (s : State) → run s rest ≡ Some (state [] (ended w)) → Grows (state_events s) (length (state_lexemes s)) (word_events 0 0 w)
word_grows w rest s e = subst (λ es. Grows (state_events s) (length (state_lexemes s)) es) (ended_events w) (run_grows rest s (state [] (ended w)) e)

pub word_adds : (w : Word) (rest : List Lexeme) (s : State) → NoCaret rest → run s rest ≡ Some (state [] (ended w)) → Adds (state_events (closed_state s)) (length (state_lexemes s)) (word_events 0 0 w)
word_adds w rest s other e = subst (λ es. Adds (state_events (closed_state s)) (length (state_lexemes s)) es) (ended_events w) (run_adds rest s (state [] (ended w)) other e)

-- what holds of the events of what is read holds of all that come no later
abbrev pub OrFresh : (Event → Type 0) → ℕ → Event → Type 0
OrFresh Q k e = Q e ⊎ IsFresh k e

abbrev pub OrLate : (Event → Type 0) → ℕ → Event → Type 0
OrLate Q k e = Q e ⊎ IsLate k e

module _ (Q : Event → Type 0) where
  pub late_events : (w : Word) (rest : List Lexeme) (s : State) → run s rest ≡ Some (state [] (ended w)) → AllByRecursion Q (state_events s) → AllByRecursion (OrLate Q (length (state_lexemes s))) (word_events 0 0 w)
  late_events w rest s e holds =
      let k = length (state_lexemes s) in
      let grows = word_grows w rest s e in
      subst (AllByRecursion (OrLate Q k)) (sym grows.all)
      (all_append (OrLate Q k) (state_events s) grows.more
      (all_weaker Q (OrLate Q k) (λ e h. inl h) (state_events s) holds)
      (all_weaker (IsLate k) (OrLate Q k) (λ e h. inr h) grows.more grows.later))

  closed_fresh : (w : Word) (rest : List Lexeme) (s : State) → NoCaret rest → run s rest ≡ Some (state [] (ended w)) → AllByRecursion Q (state_events (closed_state s)) → AllByRecursion (OrFresh Q (length (state_lexemes s))) (word_events 0 0 w)
  closed_fresh w rest s other e holds =
      let k = length (state_lexemes s) in
      let adds = word_adds w rest s other e in
      subst (AllByRecursion (OrFresh Q k)) (sym adds.all)
      (all_append (OrFresh Q k) (state_events (closed_state s)) adds.fresh
      (all_weaker Q (OrFresh Q k) (λ e h. inl h) (state_events (closed_state s)) holds)
      (all_weaker (IsFresh k) (OrFresh Q k) (λ e h. inr h) adds.fresh adds.later))

  open_fresh : (w : Word) (rest : List Lexeme) (s : State) → run s (lexeme.Mark mark.Caret ∷ rest) ≡ Some (state [] (ended w)) → AllByRecursion Q (state_events s) → AllByRecursion (OrFresh Q (length (state_lexemes s))) (word_events 0 0 w)
  open_fresh w rest s e holds =
      let k = length (state_lexemes s) in
      let next = chained (λ v. run v rest) (step s (lexeme.Mark mark.Caret)) (state [] (ended w)) e in
      let t = next.0 in
      let same = if_some (λ t. (state_events t ≡ state_events s) × (closed_state t ≡ t)) (step s (lexeme.Mark mark.Caret)) t next.1 (caret_adds s) in
      let late = subst (λ n. AllByRecursion (OrLate Q n) (word_events 0 0 w)) (step_count s (lexeme.Mark mark.Caret) t next.1)
      (late_events w rest t next.2 (subst (AllByRecursion Q) (sym same.0) holds)) in
      all_weaker (OrLate Q (k + 1)) (OrFresh Q k) (λ e h. ⊎_elim (λ a. inl a) (λ b. inr (late_fresh k e b)) h) (word_events 0 0 w) late

  pub fresh_events : (w : Word) (rest : List Lexeme) (s : State) → run s rest ≡ Some (state [] (ended w)) → AllByRecursion Q (state_events (closed_state s)) → AllByRecursion (OrFresh Q (length (state_lexemes s))) (word_events 0 0 w)
  fresh_events w [] s e holds = closed_fresh w [] s tt e holds
  fresh_events w (lexeme.Mark mark.Caret ∷ rest) s e holds =
      open_fresh w rest s e (all_left Q (state_events s) (closing_events s) (subst (AllByRecursion Q) (closed_adds s) holds))
  fresh_events w (x ∷ rest) s e holds = closed_fresh w (x ∷ rest) s (λ same. cc) e holds
