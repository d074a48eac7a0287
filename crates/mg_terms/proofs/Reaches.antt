-- How far the lexemes of a list can be read.
use Rattle.std.proofs.Common.{◌≡◌, ◌⊎◌, inl, inr, ⊎_elim, ℕ, ◌+◌, ◌-◌, ◌<◌, ◌≤◌, List, [], ◌∷◌, ◌++◌, length, take, drop, Option, Some, None, refl, sym, ap, subst, ◌∙◌, arith, append_assoc, length-append}
use Rattle.std.proofs.Math.Seq.{take-append_seam, take-append-add}
use Rattle.std.proofs.lemmas.Bool.{cases_lt}
use Rattle.std.proofs.lemmas.List.{take-take, take-append-drop}
use Rattle.mg_terms.specs.declared.lexeme.Lexeme.{Lexeme}
use Rattle.mg_terms.specs.Word.{Word, word_lexemes}
use Rattle.mg_terms.specs.Beginning.{IsBeginning}
use Rattle.mg_terms.specs.Cause.{IsReach, Agrees}
use Rattle.mg_terms.specs.Reading.{State, step, run, start, StopsAt}
use Rattle.mg_terms.proofs.Beginnings.{read_begins, read_more, no_more}

pub shorter : (xs ys : List Lexeme) → IsBeginning (xs ++ ys) → IsBeginning xs
shorter xs ys h = (h.0, ys ++ h.1, h.2 ∙ append_assoc xs ys h.1)

-- no beginning is longer than a reach
pub reach_past : (xs : List Lexeme) (n m : ℕ) → IsReach xs n → m ≤ length xs → IsBeginning (take m xs) → m ≤ n
reach_past xs n m reach within begins =
    ⊎_elim (λ less.
    let less : n < m = less in
    let front = take-take (n + 1) m xs (omega arith) in
    let parts = take-append-drop (n + 1) (take m xs) in
    absurd (reach.no_more (omega arith)
    (subst IsBeginning front (shorter (take (n + 1) (take m xs)) (drop (n + 1) (take m xs)) (subst IsBeginning (sym parts) begins)))))
    (λ more. more) (cases_lt n m)

pub one_reach : (xs : List Lexeme) (m n : ℕ) → IsReach xs m → IsReach xs n → m ≡ n
one_reach xs m n a b =
    let up = reach_past xs n m b a.within a.begins in
    let down = reach_past xs m n a b.within b.begins in
    omega arith

-- what has been read is a beginning of the list
pub read_front : (front ys : List Lexeme) (s : State) → run start front ≡ Some s → IsBeginning (take (length front) (front ++ ys))
read_front front ys s e = subst IsBeginning (sym (take-append_seam front ys)) (read_begins front s e)

pub front_within : (front ys : List Lexeme) → length front ≤ length (front ++ ys)
front_within front ys = omega (arith, length-append front ys)

-- where reading stops, the list reaches no further
pub stop_reach : (front ys : List Lexeme) (s : State) → run start front ≡ Some s → StopsAt s ys → IsReach (front ++ ys) (length front)
stop_reach front [] s e stops = record {
  within = front_within front [];
  begins = read_front front [] s e;
  no_more = λ past. absurd (omega (arith, length-append front []));
}
stop_reach front (y ∷ ys) s e stops = record {
  within = front_within front (y ∷ ys);
  begins = read_front front (y ∷ ys) s e;
  no_more = λ past begins. no_more front y s e stops (subst IsBeginning (take-append-add front (y ∷ ys) 1) begins);
}

some_or_none : {A : Type 0} (o : Option A) → ((a : A) × (o ≡ Some a)) ⊎ (o ≡ None)
some_or_none None = inr refl
some_or_none (Some a) = inl (a, refl)

-- each list reaches somewhere
pub reach_of : (ys front : List Lexeme) (s : State) → run start front ≡ Some s → (n : ℕ) × IsReach (front ++ ys) n
reach_of [] front s e = (length front, stop_reach front [] s e tt)
reach_of (y ∷ ys) front s e =
    ⊎_elim
    (λ next.
    let h = reach_of ys (front ++ y ∷ []) next.0 (read_more front y s next.0 e next.1) in
    (h.0, subst (λ xs. IsReach xs h.0) (append_assoc front (y ∷ []) ys) h.1))
    (λ none. (length front, stop_reach front (y ∷ ys) s e none))
    (some_or_none (step s y))

-- what has been read begins each word that agrees with the list
pub read_shared : (front ys : List Lexeme) (s : State) → run start front ≡ Some s → (n : ℕ) → IsReach (front ++ ys) n → length front ≤ n
read_shared front ys s e n reach = reach_past (front ++ ys) n (length front) reach (front_within front ys) (read_front front ys s e)

pub reach_front : (front ys : List Lexeme) (n : ℕ) → length front ≤ n → take n (front ++ ys) ≡ front ++ take (n - length front) ys
reach_front front ys n past =
    let split : n ≡ length front + (n - length front) = omega arith in
    ap (λ m. take m (front ++ ys)) split ∙ take-append-add front ys (n - length front)

pub agrees_front : (front ys : List Lexeme) (s : State) → run start front ≡ Some s → (n : ℕ) (w : Word) → Agrees (front ++ ys) n w → (rest : List Lexeme) × (word_lexemes w ≡ front ++ rest)
agrees_front front ys s e n w agrees =
    let past = read_shared front ys s e n agrees.reach in (
      take (n - length front) ys ++ agrees.rest,
      agrees.shared ∙ ap (λ xs. xs ++ agrees.rest) (reach_front front ys n past) ∙ append_assoc front (take (n - length front) ys) agrees.rest,
    )
