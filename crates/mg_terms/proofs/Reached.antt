-- What the loop over the lexemes keeps, and what follows where it ends.
use Rattle.std.proofs.Common.{◌≡◌, inl, inr, ⊎_elim, ℕ, ◌+◌, ◌<◌, ◌≤◌, Bool, true, false, List, [], ◌∷◌, ◌++◌, length, take, drop, Result, Ok, Err, Some, None, get_or, refl, sym, ap, subst, ◌∙◌, arith}
use Rattle.std.proofs.lemmas.List.{take-append-drop, length-take-le, take_more, drop_more, drop_all}
use Rattle.mg_lex.specs.declared.refusal.Cause.TheVariants as cause
use Rattle.mg_terms.specs.declared.lexeme.Lexeme.{Lexeme}
use Rattle.mg_terms.specs.declared.lexeme.Lexeme.TheVariants as lexeme
use Rattle.mg_terms.specs.declared.limits.TheConstants.{WORD_LIMIT}
use Rattle.mg_terms.specs.declared.reader.Position.TheVariants as position
use Rattle.mg_terms.specs.declared.reader.Reader.{Reader}
use Rattle.mg_terms.specs.declared.fault.WordFault.{WordFault}
use Rattle.mg_terms.specs.Word.{Word}
use Rattle.mg_terms.specs.Cause.{IsReach, IsFaultless, IsFirstCause}
use Rattle.mg_terms.specs.Read.{IsRead}
use Rattle.mg_terms.specs.Event.{AreWithin}
use Rattle.mg_terms.specs.Reading.{behind, front, caret, minus, whole, State, state, step, run, start, closed_state, state_events, StopsAt, NoCaret, ClosesLong, TakesLong, TakesDeep}
use Rattle.mg_terms.specs.Reader.{kept, IsReady, Takes, Steps, IsWhole, Ends, HasStopped}
use Rattle.mg_terms.proofs.Beginnings.{read_more}
use Rattle.mg_terms.proofs.Adding.{closed_lexemes}
use Rattle.mg_terms.proofs.Faults.{count_read, word_stops, unexpected_first, closes_long, takes_long, takes_deep}
use Rattle.mg_terms.proofs.Taking.{behind_some, whole_within}

-- the reader has read these lexemes, within the limits
pub record HasRead (read : List Lexeme) (r : Reader) : Type 0 where
  pub reached : State
  pub runs : run start read ≡ Some reached
  pub keeps : kept reached ≡ r
  pub within : AreWithin (state_events reached)

-- so many are read
pub read_ready : (xs : List Lexeme) (k : ℕ) (r : Reader) → k ≤ length xs → (has : HasRead (take k xs) r) → IsReady has.reached k
read_ready xs k r inside has = (count_read (take k xs) has.reached has.runs ∙ length-take-le k xs inside, has.within)

pub read_past : (xs : List Lexeme) (k base : ℕ) (r : Reader) → k < length xs → HasRead (take k xs) r → r.position ≡ position.Base base → 1 ≤ k
read_past xs k base r inside has at_base =
    let some = behind_some has.reached r base has.keeps at_base in
    let ready = read_ready xs k r (omega arith) has in
    let count = ready.0 in
    omega arith

-- the list in two parts
split_here : (xs : List Lexeme) (k : ℕ) (d : Lexeme) → k < length xs → take k xs ++ get_or xs k d ∷ drop (k + 1) xs ≡ xs
split_here xs k d inside = ap (λ ys. take k xs ++ ys) (sym (drop_more xs k d inside)) ∙ take-append-drop k xs

-- what the next step brings, whichever state has been read
abbrev Brought : List Lexeme → ℕ → Reader → Reader → Result Bool WordFault → Type 0
Brought xs k r new result = (s : State) → kept s ≡ r → IsReady s k → Steps s (get_or xs k lexeme.Name) k new result

brought : (xs : List Lexeme) (k : ℕ) (r new : Reader) (result : Result Bool WordFault) → k < length xs → (has : HasRead (take k xs) r) → Brought xs k r new result → Steps has.reached (get_or xs k lexeme.Name) k new result
brought xs k r new result inside has outcome = outcome has.reached has.keeps (read_ready xs k r (omega arith) has)

-- a step goes on
going_on : (xs : List Lexeme) (k : ℕ) (r new : Reader) → k < length xs → (has : HasRead (take k xs) r) → Takes (step has.reached (get_or xs k lexeme.Name)) new → HasRead (take (k + 1) xs) new
going_on xs k r new inside has takes = record {
  reached = takes.next;
  runs = ap (run start) (take_more xs k lexeme.Name inside) ∙ read_more (take k xs) (get_or xs k lexeme.Name) has.reached takes.next has.runs takes.takes;
  keeps = takes.keeps;
  within = takes.within;
}

pub read_on : (xs : List Lexeme) (k : ℕ) (r new : Reader) (taken : Bool) → taken ≡ true → k < length xs → HasRead (take k xs) r → Brought xs k r new (Ok taken) → HasRead (take (k + 1) xs) new
read_on xs k r new taken on inside has outcome =
    going_on xs k r new inside has (subst (λ b. Steps has.reached (get_or xs k lexeme.Name) k new (Ok b)) on (brought xs k r new (Ok taken) inside has outcome))

-- a step stops
stopping : (xs : List Lexeme) (k : ℕ) (r new : Reader) → k < length xs → (has : HasRead (take k xs) r) → Steps has.reached (get_or xs k lexeme.Name) k new (Ok false) → HasStopped xs k new
stopping xs k r new inside has stops =
    let ready = read_ready xs k r (omega arith) has in
    record {
      reached = has.reached;
      inside = omega arith;
      runs = has.runs;
      stops = subst (StopsAt has.reached) (sym (drop_more xs k lexeme.Name inside)) stops.0;
      seen = closed_state has.reached;
      closes = inr refl;
      keeps = stops.1;
      ready = (ap length (closed_lexemes has.reached) ∙ ready.0, stops.2);
    }

pub read_stops : (xs : List Lexeme) (k : ℕ) (r new : Reader) (taken : Bool) → taken ≡ false → k < length xs → HasRead (take k xs) r → Brought xs k r new (Ok taken) → HasStopped xs k new
read_stops xs k r new taken stops inside has outcome =
    stopping xs k r new inside has (subst (λ b. Steps has.reached (get_or xs k lexeme.Name) k new (Ok b)) stops (brought xs k r new (Ok taken) inside has outcome))

all_read : (xs : List Lexeme) (r : Reader) → HasRead (take (length xs) xs) r → HasStopped xs (length xs) r
all_read xs r has = record {
  reached = has.reached;
  inside = omega arith;
  runs = has.runs;
  stops = subst (StopsAt has.reached) (sym (drop_all (length xs) xs (omega arith))) tt;
  seen = has.reached;
  closes = inl refl;
  keeps = has.keeps;
  ready = read_ready xs (length xs) r (omega arith) has;
}

pub read_all : (xs : List Lexeme) (k : ℕ) (r : Reader) → k ≡ length xs → HasRead (take k xs) r → HasStopped xs (length xs) r
read_all xs k r at_end has = all_read xs r (subst (λ n. HasRead (take n xs) r) at_end has)

-- a step refuses
refusing : (xs : List Lexeme) (k : ℕ) (r new : Reader) (f : WordFault) → k < length xs → (has : HasRead (take k xs) r) → Steps has.reached (get_or xs k lexeme.Name) k new (Err f) → IsFirstCause xs f.place f.cause
refusing xs k r new f inside has breaks =
    let x = get_or xs k lexeme.Name in
    let ys = drop (k + 1) xs in
    let s = has.reached in
    let count : length (take k xs) ≡ k = length-take-le k xs (omega arith) in
    subst (λ zs. IsFirstCause zs f.place f.cause) (split_here xs k lexeme.Name inside)
    (⊎_elim
    (λ closes. subst (IsFirstCause (take k xs ++ x ∷ ys) f.place) (sym closes.1) (closes_long (take k xs) (x ∷ ys) s f.place has.runs has.within closes.0 closes.2))
    (λ takes.
    let here : length (take k xs) ≡ f.place = count ∙ sym takes.1.0 in
    subst (λ p. IsFirstCause (take k xs ++ x ∷ ys) p f.cause) here
    (⊎_elim
    (λ long. subst (IsFirstCause (take k xs ++ x ∷ ys) (length (take k xs))) (sym long.0) (takes_long (take k xs) x ys s has.runs takes.0 (subst (TakesLong (step s x)) (sym count) long.1)))
    (λ deep. subst (IsFirstCause (take k xs ++ x ∷ ys) (length (take k xs))) (sym deep.0) (takes_deep (take k xs) x ys s has.runs takes.0 (subst (TakesDeep (state_events (closed_state s)) (step s x)) (sym count) deep.1)))
    takes.1.1))
    breaks)

pub step_refuses : (xs : List Lexeme) (k : ℕ) (r new : Reader) (f : WordFault) → k < length xs → HasRead (take k xs) r → Brought xs k r new (Err f) → IsFirstCause xs f.place f.cause
step_refuses xs k r new f inside has outcome = refusing xs k r new f inside has (brought xs k r new (Err f) inside has outcome)

-- where reading has stopped
closed_twice : (s : State) → closed_state (closed_state s) ≡ closed_state s
closed_twice (state fs (front before)) = refl
closed_twice (state fs (behind before b)) = refl
closed_twice (state fs (caret before b)) = refl
closed_twice (state fs (minus before b)) = refl
closed_twice (state fs (whole w)) = refl

seen_closed : (xs : List Lexeme) (count : ℕ) (r : Reader) (has : HasStopped xs count r) → closed_state has.seen ≡ closed_state has.reached
seen_closed xs count r has = ⊎_elim (λ same. ap closed_state same) (λ shut. ap closed_state shut ∙ closed_twice has.reached) has.closes

-- at a whole word
pub stopped_word : (xs : List Lexeme) (count letters : ℕ) (r : Reader) (has : HasStopped xs count r) → Ends has.seen count (Ok letters) → IsRead xs (record { count = count; letters = letters }) × IsFaultless xs × (letters ≤ WORD_LIMIT)
stopped_word xs count letters r has word =
    let w = word.0 in
    let same = seen_closed xs count r has in
    let whole_list = take-append-drop count xs in
    let h = word_stops (take count xs) (drop count xs) has.reached w has.runs has.stops (subst (λ s. AreWithin (state_events s)) same word.3) (sym same ∙ word.1) in
    let reach = subst (λ ys. IsReach ys (length (take count xs))) whole_list h.1 in
    let within = subst (λ s. AreWithin (state_events s)) word.1 word.3 in (
      record {
        word = w;
        lexemes = h.0;
        letters = word.2;
        within = within;
        reach = subst (IsReach xs) (length-take-le count xs has.inside) reach;
      },
      subst IsFaultless whole_list h.2,
      subst (λ n. n ≤ WORD_LIMIT) word.2 (whole_within [] w within),
    )

closed_short : (s : State) (p : ℕ) → ClosesLong (closed_state s) p → ⊥
closed_short (state fs (front before)) p long = long
closed_short (state fs (behind before b)) p long = long
closed_short (state fs (caret before b)) p long = long
closed_short (state fs (minus before b)) p long = long
closed_short (state fs (whole w)) p long = long

stops_no_caret : (s : State) (ys : List Lexeme) (p : ℕ) → StopsAt s ys → ClosesLong s p → NoCaret ys
stops_no_caret s [] p stops long = tt
stops_no_caret (state fs (behind before b)) (y ∷ ys) p stops long = λ is_caret. let goes = subst (λ x. step (state fs (behind before b)) x ≡ None) is_caret stops in cc
stops_no_caret (state fs (front before)) (y ∷ ys) p stops long = absurd long
stops_no_caret (state fs (caret before b)) (y ∷ ys) p stops long = absurd long
stops_no_caret (state fs (minus before b)) (y ∷ ys) p stops long = absurd long
stops_no_caret (state fs (whole w)) (y ∷ ys) p stops long = absurd long

-- and elsewhere
stopped_long : (xs : List Lexeme) (count p : ℕ) (r : Reader) (has : HasStopped xs count r) → ClosesLong has.seen p → IsFirstCause xs p cause.WordTooLong
stopped_long xs count p r has long =
    ⊎_elim
    (λ same.
    let here = subst (λ s. ClosesLong s p) same long in
    subst (λ ys. IsFirstCause ys p cause.WordTooLong) (take-append-drop count xs)
    (closes_long (take count xs) (drop count xs) has.reached p has.runs (subst (λ s. AreWithin (state_events s)) same has.ready.1) (stops_no_caret has.reached (drop count xs) p has.stops here) here))
    (λ shut. absurd (closed_short has.reached p (subst (λ s. ClosesLong s p) shut long)))
    has.closes

stopped_open : (xs : List Lexeme) (count : ℕ) (r : Reader) (has : HasStopped xs count r) → AreWithin (state_events (closed_state has.seen)) → ((w : Word) → IsWhole has.seen w → ⊥) → IsFirstCause xs count cause.Unexpected
stopped_open xs count r has within open_end =
    let same = seen_closed xs count r has in
    let first = unexpected_first (take count xs) (drop count xs) has.reached has.runs has.stops (subst (λ s. AreWithin (state_events s)) same within) (λ w at_end. open_end w (same ∙ at_end)) in
    subst (λ n. IsFirstCause xs n cause.Unexpected) (length-take-le count xs has.inside)
    (subst (λ ys. IsFirstCause ys (length (take count xs)) cause.Unexpected) (take-append-drop count xs) first)

pub stopped_refuses : (xs : List Lexeme) (count : ℕ) (r : Reader) (f : WordFault) (has : HasStopped xs count r) → Ends has.seen count (Err f) → IsFirstCause xs f.place f.cause
stopped_refuses xs count r f has outcome =
    ⊎_elim
    (λ long. subst (IsFirstCause xs f.place) (sym long.0) (stopped_long xs count f.place r has long.1))
    (λ unexpected.
    subst (λ p. IsFirstCause xs p f.cause) (sym unexpected.0)
    (subst (IsFirstCause xs count) (sym unexpected.1) (stopped_open xs count r has unexpected.2 unexpected.3)))
    outcome
