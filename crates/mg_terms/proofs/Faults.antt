-- The first cause that stands in a list, by where reading comes to.
use Rattle.std.proofs.Common.{◌≡◌, ◌⊎◌, inl, inr, ⊎_elim, ℕ, suc, ◌+◌, ◌-◌, ◌<◌, ◌≤◌, List, [], ◌∷◌, ◌++◌, length, take, get_or, Some, refl, sym, ap, subst, ◌∙◌, arith, append_assoc, length-append}
use Rattle.std.specs.List.{AllByRecursion, Contains}
use Rattle.std.proofs.Math.Seq.{take-append_seam}
use Rattle.std.proofs.lemmas.Bool.{cases_lt}
use Rattle.std.proofs.lemmas.List.Elements.{All-from_recursion, All-contains, Contains-append_left, Contains-push}
use Rattle.mg_lex.specs.declared.refusal.Cause.{Cause}
use Rattle.mg_lex.specs.declared.refusal.Cause.TheVariants as cause
use Rattle.mg_lex.specs.Cause.{cause_number}
use Rattle.mg_terms.specs.declared.lexeme.Lexeme.{Lexeme}
use Rattle.mg_terms.specs.Word.{Base, bare, Word, word_lexemes, word_letters}
use Rattle.mg_terms.specs.Event.{Event, opens, ends, word_events, IsWithin, AreWithin}
use Rattle.mg_terms.specs.Cause.{IsReach, Agrees, Shows, IsShown, Stands, IsFaultless, IsFirstCause}
use Rattle.mg_terms.specs.Reading.{Before, in_round, in_left, in_right, Frame, frame, behind, whole, State, state, joined, step, run, start, frames_lexemes, state_lexemes, closed_state, state_events, StopsAt, NoCaret, ClosesLong, TakesLong, TakesDeep}
use Rattle.mg_terms.proofs.Machine.{ended, closed_ended}
use Rattle.mg_terms.proofs.Unique.{word_reads}
use Rattle.mg_terms.proofs.Beginnings.{run_reads, read_more, completed, completing, completed_lexemes}
use Rattle.mg_terms.proofs.Adding.{IsFresh, closed_adds, closed_lexemes}
use Rattle.mg_terms.proofs.Runs.{IsLate, OrFresh, OrLate, late_events, fresh_events, rest_runs, word_grows, word_adds, step_count}
use Rattle.mg_terms.proofs.Reaches.{one_reach, stop_reach, reach_of, read_shared, reach_front, agrees_front}

within_shows : (e : Event) (q : ℕ) (d : Cause) → IsWithin e → Shows e q d → ⊥
within_shows (opens place depth) q d within shows = omega (arith, shows.2)
within_shows (ends count letters) q d within shows = omega (arith, shows.2)

late_shows : (k : ℕ) (e : Event) (q : ℕ) (d : Cause) → IsLate k e → Shows e q d → k ≤ q + 1
late_shows k (opens place depth) q d late shows = omega (arith, shows.1)
late_shows k (ends count letters) q d late shows = omega (arith, shows.1)

fresh_shows : (k : ℕ) (e : Event) (q : ℕ) (d : Cause) → IsFresh k e → Shows e q d → k ≤ q
fresh_shows k (opens place depth) q d fresh shows = omega (arith, shows.1)
fresh_shows k (ends count letters) q d fresh shows = omega (arith, shows.1)

-- what an event shows comes behind what is unexpected in the order of causes
number_shows : (e : Event) (q : ℕ) (d : Cause) → Shows e q d → 6 ≤ cause_number d
number_shows (opens place depth) q d shows = subst (λ c. 6 ≤ cause_number c) (sym shows.0) (omega arith)
number_shows (ends count letters) q d shows = subst (λ c. 6 ≤ cause_number c) (sym shows.0) (omega arith)

number_shown : (xs : List Lexeme) (q : ℕ) (d : Cause) → IsShown xs q d → 6 ≤ cause_number d
number_shown xs q d shown = number_shows shown.event q d shown.shows

all_among : (P : Event → Type 0) (es : List Event) (e : Event) → AllByRecursion P es → Contains es e → P e
all_among P es e all among = All-contains P es e (All-from_recursion P es all) among

pub count_read : (front : List Lexeme) (s : State) → run start front ≡ Some s → length (state_lexemes s) ≡ length front
count_read front s e = ap length (run_reads front start s e)

-- the first place that can show a cause, behind what was read within the limits
module _ (front ys : List Lexeme) (s : State) (reads : run start front ≡ Some s) where
  shown_runs : (q : ℕ) (d : Cause) (shown : IsShown (front ++ ys) q d) → (rest : List Lexeme) × (run s rest ≡ Some (state [] (ended shown.word)))
  shown_runs q d shown =
      let h = agrees_front front ys s reads shown.shared shown.word shown.agrees in
      (h.0, rest_runs shown.word front h.0 s h.1 reads)

  shown_late : AreWithin (state_events s) → (q : ℕ) (d : Cause) → IsShown (front ++ ys) q d → length front ≤ q + 1
  shown_late within q d shown =
      let h = shown_runs q d shown in
      let k = length (state_lexemes s) in
      let events = late_events IsWithin shown.word h.0 s h.1 within in
      let count = count_read front s reads in
      ⊎_elim (λ small. absurd (within_shows shown.event q d small shown.shows))
      (λ late. let far = late_shows k shown.event q d late shown.shows in omega arith)
      (all_among (OrLate IsWithin k) (word_events 0 0 shown.word) shown.event events shown.among)

  shown_fresh : AreWithin (state_events (closed_state s)) → (q : ℕ) (d : Cause) → IsShown (front ++ ys) q d → length front ≤ q
  shown_fresh within q d shown =
      let h = shown_runs q d shown in
      let k = length (state_lexemes s) in
      let events = fresh_events IsWithin shown.word h.0 s h.1 within in
      let count = count_read front s reads in
      ⊎_elim (λ small. absurd (within_shows shown.event q d small shown.shows))
      (λ fresh. let far = fresh_shows k shown.event q d fresh shown.shows in omega arith)
      (all_among (OrFresh IsWithin k) (word_events 0 0 shown.word) shown.event events shown.among)

  -- a place that is not before p, where the cause has the number of one that an event shows or more
  no_earlier : (p : ℕ) (c : Cause) → cause_number c ≤ 6 → p ≤ length front → ((q : ℕ) (d : Cause) → IsShown (front ++ ys) q d → p ≤ q) → ((n : ℕ) → IsReach (front ++ ys) n → p < n) →
      (q : ℕ) (d : Cause) → Stands (front ++ ys) q d → (p < q) ⊎ ((p ≡ q) × (cause_number c ≤ cause_number d))
  no_earlier p c low near shown_from reach_from q d stands =
      ⊎_elim (λ unexpected. inl (reach_from q unexpected.1))
      (λ shown.
      let from = shown_from q d shown in
      let number = number_shown (front ++ ys) q d shown in
      ⊎_elim (λ less. inl less) (λ more. inr (omega arith, omega arith)) (cases_lt p q))
      stands

-- where reading stops within the limits, no event shows a cause
stop_shown : (front ys : List Lexeme) (s : State) → run start front ≡ Some s → StopsAt s ys → AreWithin (state_events (closed_state s)) → (q : ℕ) (d : Cause) → IsShown (front ++ ys) q d → ⊥
stop_shown front ys s reads stops within q d shown =
    let same = one_reach (front ++ ys) shown.shared (length front) shown.agrees.reach (stop_reach front ys s reads stops) in
    let from = shown_fresh front ys s reads within q d shown in
    let inside = shown.within in
    omega arith

-- where it stops at a whole word without an open bracket, that word is read
whole_lexemes : (front : List Lexeme) (s : State) (w : Word) → run start front ≡ Some s → closed_state s ≡ state [] (whole w) → word_lexemes w ≡ front
whole_lexemes front s w reads at_end =
    ap state_lexemes (sym at_end) ∙ closed_lexemes s ∙ run_reads front start s reads

pub word_stops : (front ys : List Lexeme) (s : State) (w : Word) → run start front ≡ Some s → StopsAt s ys → AreWithin (state_events (closed_state s)) → closed_state s ≡ state [] (whole w) →
    (word_lexemes w ≡ front) × IsReach (front ++ ys) (length front) × IsFaultless (front ++ ys)
word_stops front ys s w reads stops within at_end =
    let lexemes = whole_lexemes front s w reads at_end in
    let reach = stop_reach front ys s reads stops in (
      lexemes,
      reach,
      λ p c stands. ⊎_elim
          (λ unexpected.
          let same = one_reach (front ++ ys) (length front) p reach unexpected.1 in
          unexpected.2 (w, lexemes ∙ sym (take-append_seam front ys) ∙ ap (λ n. take n (front ++ ys)) same))
          (stop_shown front ys s reads stops within p c) stands,
    )

-- elsewhere what comes next is unexpected
word_state : (front : List Lexeme) (s : State) (w : Word) → run start front ≡ Some s → word_lexemes w ≡ front → closed_state s ≡ state [] (whole w)
word_state front s w reads lexemes =
    let same : Some s ≡ Some (state [] (ended w)) = sym reads ∙ ap (run start) (sym lexemes) ∙ word_reads w in
    let states : s ≡ state [] (ended w) = cc in
    ap closed_state states ∙ ap (λ t. state [] t) (closed_ended w)

pub unexpected_first : (front ys : List Lexeme) (s : State) → run start front ≡ Some s → StopsAt s ys → AreWithin (state_events (closed_state s)) → ((w : Word) → closed_state s ≡ state [] (whole w) → ⊥) →
    IsFirstCause (front ++ ys) (length front) cause.Unexpected
unexpected_first front ys s reads stops within open_end =
    let reach = stop_reach front ys s reads stops in
    record {
      stands = inl (refl, reach, λ word. open_end word.0 (word_state front s word.0 reads (word.1 ∙ take-append_seam front ys)));
      first = λ q d stands. ⊎_elim
          (λ unexpected. inr (one_reach (front ++ ys) (length front) q reach unexpected.1, subst (λ c. 3 ≤ cause_number c) (sym unexpected.0) (omega arith)))
          (λ shown. absurd (stop_shown front ys s reads stops within q d shown)) stands;
    }

-- a word that agrees with the list and doesn't go on with a caret behind what was read
pub record Closes (front ys : List Lexeme) : Type 0 where
  pub reach : ℕ
  pub word : Word
  pub agrees : Agrees (front ++ ys) reach word
  pub rest : List Lexeme
  pub lexemes : word_lexemes word ≡ front ++ rest
  pub no_caret : NoCaret rest

completing_no_caret : (fs : List Frame) (before : Before) (b : Base) → NoCaret (completing (state fs (behind before b)))
unfolding completing
completing_no_caret [] before b = tt
completing_no_caret (frame outer in_round ∷ fs) before b = λ e. cc
completing_no_caret (frame outer in_left ∷ fs) before b = λ e. cc
completing_no_caret (frame outer (in_right u) ∷ fs) before b = λ e. cc

closes_here : (front ys : List Lexeme) (fs : List Frame) (before : Before) (b : Base) → run start front ≡ Some (state fs (behind before b)) → IsReach (front ++ ys) (length front) → Closes front ys
closes_here front ys fs before b reads reach =
    let s = state fs (behind before b) in
    let lexemes = completed_lexemes s ∙ ap (λ xs. xs ++ completing s) (run_reads front start s reads) in
    record {
      reach = length front;
      word = completed s;
      agrees = record { reach = reach; rest = completing s; shared = lexemes ∙ ap (λ xs. xs ++ completing s) (sym (take-append_seam front ys)) };
      rest = completing s;
      lexemes = lexemes;
      no_caret = completing_no_caret fs before b;
    }

closes_later : (front ys : List Lexeme) (n : ℕ) → NoCaret ys → IsReach (front ++ ys) n → length front < n → Closes front ys
closes_later front [] n other reach past = absurd (omega (arith, length-append front [], reach.within))
closes_later front (y ∷ ys) n other reach past =
    let m = n - length front - 1 in
    let count : n - length front ≡ suc m = omega arith in
    let shared = reach_front front (y ∷ ys) n (omega arith) ∙ ap (λ j. front ++ take j (y ∷ ys)) count in
    let word = reach.begins in
    record {
      reach = n;
      word = word.0;
      agrees = record { reach = reach; rest = word.1; shared = word.2 };
      rest = y ∷ (take m ys ++ word.1);
      lexemes = word.2 ∙ ap (λ xs. xs ++ word.1) shared ∙ append_assoc front (y ∷ take m ys) word.1;
      no_caret = other;
    }

closes : (front ys : List Lexeme) (fs : List Frame) (before : Before) (b : Base) → run start front ≡ Some (state fs (behind before b)) → NoCaret ys → Closes front ys
closes front ys fs before b reads other =
    let s = state fs (behind before b) in
    let h = reach_of ys front s reads in
    let past = read_shared front ys s reads h.0 h.1 in
    ⊎_elim (λ less. closes_later front ys h.0 other h.1 less)
    (λ same. let here : h.0 ≡ length front = omega arith in closes_here front ys fs before b reads (subst (IsReach (front ++ ys)) here h.1))
    (cases_lt (length front) h.0)

pub closes_long : (front ys : List Lexeme) (s : State) (p : ℕ) → run start front ≡ Some s → AreWithin (state_events s) → NoCaret ys → ClosesLong s p → IsFirstCause (front ++ ys) p cause.WordTooLong
closes_long front ys (state fs (behind before b)) p reads within other long =
    let s = state fs (behind before b) in
    let w = joined before (bare b) in
    let count = count_read front s reads in
    let place : p + 1 ≡ length front = long.0 ∙ count in
    let h = closes front ys fs before b reads other in
    let adds = word_adds h.word h.rest s h.no_caret (rest_runs h.word front h.rest s h.lexemes reads) in
    let e = ends (length (frames_lexemes fs) + length (word_lexemes w)) (word_letters w) in
    let among : Contains (state_events (closed_state s)) e = subst (λ es. Contains es e) (sym (closed_adds s)) (Contains-push (state_events s) e) in
    let far = read_shared front ys s reads h.reach h.agrees.reach in
    record {
      stands = inr (record {
        word = h.word;
        shared = h.reach;
        agrees = h.agrees;
        within = omega arith;
        event = e;
        among = subst (λ es. Contains es e) (sym adds.all) (Contains-append_left (state_events (closed_state s)) adds.fresh e among);
        shows = (refl, long.0 ∙ sym (ap length (closed_lexemes s)) ∙ length-append (frames_lexemes fs) (word_lexemes w), long.1);
      });
      first = no_earlier front ys s reads p cause.WordTooLong (omega arith) (omega arith)
          (λ q d shown. let from = shown_late front ys s reads within q d shown in omega arith)
          (λ n reach. let from = read_shared front ys s reads n reach in omega arith);
    }
closes_long front ys _ p reads within other long = absurd long

-- the cause that a lexeme brings
module _ (front : List Lexeme) (x : Lexeme) (ys : List Lexeme) (s t : State) (reads : run start front ≡ Some s) (takes : step s x ≡ Some t) where
  next_reads : run start (front ++ x ∷ []) ≡ Some t
  next_reads = read_more front x s t reads takes

  next_list : (front ++ x ∷ []) ++ ys ≡ front ++ x ∷ ys
  next_list = append_assoc front (x ∷ []) ys

  next_length : length (front ++ x ∷ []) ≡ length front + 1
  next_length = length-append front (x ∷ [])

  next_reach : (n : ℕ) → IsReach (front ++ x ∷ ys) n → length front < n
  next_reach n reach =
      let far = read_shared (front ++ x ∷ []) ys t next_reads n (subst (λ xs. IsReach xs n) (sym next_list) reach) in
      let count = next_length in
      omega arith

  -- an event that is among those of what is read with it is shown
  next_shown : (e : Event) (c : Cause) → Contains (state_events t) e → Shows e (length front) c → IsShown (front ++ x ∷ ys) (length front) c
  next_shown e c among shows =
      let h = reach_of ys (front ++ x ∷ []) t next_reads in
      let reach = subst (λ xs. IsReach xs h.0) next_list h.1 in
      let word = reach.begins in
      let agrees : Agrees (front ++ x ∷ ys) h.0 word.0 = record { reach = reach; rest = word.1; shared = word.2 } in
      let rest = agrees_front (front ++ x ∷ []) ys t next_reads h.0 word.0 (subst (λ xs. Agrees xs h.0 word.0) (sym next_list) agrees) in
      let grows = word_grows word.0 rest.0 t (rest_runs word.0 (front ++ x ∷ []) rest.0 t rest.1 next_reads) in
      record {
        word = word.0;
        shared = h.0;
        agrees = agrees;
        within = next_reach h.0 reach;
        event = e;
        among = subst (λ es. Contains es e) (sym grows.all) (Contains-append_left (state_events t) grows.more e among);
        shows = shows;
      }

pub takes_long : (front : List Lexeme) (x : Lexeme) (ys : List Lexeme) (s : State) → run start front ≡ Some s → AreWithin (state_events (closed_state s)) → TakesLong (step s x) (length front) → IsFirstCause (front ++ x ∷ ys) (length front) cause.WordTooLong
takes_long front x ys s reads within long =
    record {
      stands = inr (next_shown front x ys s long.next reads long.takes (ends (length front + 1) long.letters) cause.WordTooLong long.among (refl, refl, long.long));
      first = no_earlier front (x ∷ ys) s reads (length front) cause.WordTooLong (omega arith) (omega arith)
          (shown_fresh front (x ∷ ys) s reads within)
          (next_reach front x ys s long.next reads long.takes);
    }

-- an event that is within the limits or is the bracket that is one too many
OrDeep : ℕ → ℕ → Event → Type 0
OrDeep p depth e = IsWithin e ⊎ (e ≡ opens p depth)

deep_shows : (p depth k : ℕ) (e : Event) (q : ℕ) (d : Cause) → OrFresh (OrDeep p depth) k e → Shows e q d → p < k → (p < q) ⊎ ((p ≡ q) × (cause_number cause.TooMany ≤ cause_number d))
unfolding OrDeep
deep_shows p depth k e q d from shows before =
    ⊎_elim
    (λ old. ⊎_elim (λ small. absurd (within_shows e q d small shows))
    (λ deep. let same = subst (λ f. Shows f q d) deep shows in inr (sym same.1, subst (λ c. 7 ≤ cause_number c) (sym same.0) (omega arith))) old)
    (λ fresh. let far = fresh_shows k e q d fresh shows in inl (omega arith)) from

all_or_deep : (p depth : ℕ) (es : List Event) → AreWithin es → AllByRecursion (OrDeep p depth) (es ++ opens p depth ∷ [])
unfolding OrDeep
all_or_deep p depth [] within = (inr refl, tt)
all_or_deep p depth (e ∷ es) within = (inl within.0, all_or_deep p depth es within.1)

pub takes_deep : (front : List Lexeme) (x : Lexeme) (ys : List Lexeme) (s : State) → run start front ≡ Some s → AreWithin (state_events (closed_state s)) → TakesDeep (state_events (closed_state s)) (step s x) (length front) → IsFirstCause (front ++ x ∷ ys) (length front) cause.TooMany
takes_deep front x ys s reads within deep =
    let p = length front in
    let t = deep.next in
    let more = next_reads front x ys s t reads deep.takes in
    let list = next_list front x ys s t reads deep.takes in
    let e = opens p deep.depth in
    let among : Contains (state_events t) e = subst (λ es. Contains es e) (sym deep.adds) (Contains-push (state_events (closed_state s)) e) in
    let events : AllByRecursion (OrDeep p deep.depth) (state_events (closed_state t)) =
    subst (λ u. AllByRecursion (OrDeep p deep.depth) (state_events u)) (sym deep.at_front)
    (subst (AllByRecursion (OrDeep p deep.depth)) (sym deep.adds) (all_or_deep p deep.depth (state_events (closed_state s)) within)) in
    record {
      stands = inr (next_shown front x ys s t reads deep.takes e cause.TooMany among (refl, refl, deep.deep));
      first = λ q d stands. ⊎_elim
          (λ unexpected. inl (next_reach front x ys s t reads deep.takes q unexpected.1))
          (λ shown.
          let rest = agrees_front (front ++ x ∷ []) ys t more shown.shared shown.word (subst (λ xs. Agrees xs shown.shared shown.word) (sym list) shown.agrees) in
          let all = fresh_events (OrDeep p deep.depth) shown.word rest.0 t (rest_runs shown.word (front ++ x ∷ []) rest.0 t rest.1 more) events in
          let count = step_count s x t deep.takes in
          let read = count_read front s reads in
          deep_shows p deep.depth (length (state_lexemes t)) shown.event q d
          (all_among (OrFresh (OrDeep p deep.depth) (length (state_lexemes t))) (word_events 0 0 shown.word) shown.event all shown.among) shown.shows (omega arith))
          stands;
    }

-- a cause of words is known by its number
abbrev word_cause : ℕ → Cause
word_cause n = get_or (cause.Unexpected ∷ cause.Unexpected ∷ cause.Unexpected ∷ cause.WordTooLong ∷ cause.TooMany ∷ []) (n - 3) cause.Unexpected

event_number : (e : Event) (p : ℕ) (c : Cause) → Shows e p c → word_cause (cause_number c) ≡ c
event_number (opens place depth) p c shows = subst (λ d. word_cause (cause_number d) ≡ d) (sym shows.0) refl
event_number (ends count letters) p c shows = subst (λ d. word_cause (cause_number d) ≡ d) (sym shows.0) refl

number_back : (xs : List Lexeme) (p : ℕ) (c : Cause) → Stands xs p c → word_cause (cause_number c) ≡ c
number_back xs p c stands =
    ⊎_elim (λ unexpected. subst (λ d. word_cause (cause_number d) ≡ d) (sym unexpected.0) refl)
    (λ shown. event_number shown.event p c shown.shows) stands

pub one_first : (xs : List Lexeme) (p q : ℕ) (c d : Cause) → IsFirstCause xs p c → IsFirstCause xs q d → (p ≡ q) × (c ≡ d)
one_first xs p q c d a b =
    let up = a.first q d b.stands in
    let down = b.first p c a.stands in
    ⊎_elim (λ less. ⊎_elim (λ more. absurd (omega arith)) (λ same. absurd (omega (arith, same.0))) down)
    (λ same. ⊎_elim (λ more. absurd (omega (arith, same.0)))
    (λ back.
    let numbers : cause_number c ≡ cause_number d = omega (arith, same.1, back.1) in
    (same.0, sym (number_back xs p c a.stands) ∙ ap word_cause numbers ∙ number_back xs q d b.stands))
    down)
    up
