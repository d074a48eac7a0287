-- How far lexemes begin a statement, and the first cause that stands in them.
use Rattle.std.proofs.Common.{◌≡◌, ⊎_elim, ℕ, ◌+◌, ◌<◌, ◌≤◌, List, ◌++◌, length, take, drop, [], ◌∷◌, ◌-◌, get_or, refl, ap, sym, subst, ◌∙◌, append_assoc, arith}
use Rattle.std.proofs.lemmas.Bool.{cases_lt}
use Rattle.std.proofs.lemmas.List.{take-take, take-append-drop}
use Rattle.mg_lex.specs.declared.refusal.Cause.{Cause}
use Rattle.mg_lex.specs.declared.refusal.Cause.TheVariants as cause
use Rattle.mg_lex.specs.Cause.{cause_number}
use Rattle.mg_terms.specs.declared.lexeme.Lexeme.{Lexeme}
use Rattle.mg_terms.specs.Event.{Event, opens, ends}
use Rattle.mg_terms.specs.Cause as words
use Rattle.mg_script.specs.declared.counted.Counts.{Counts}
use Rattle.mg_script.specs.Statement.{Piece}
use Rattle.mg_script.specs.Cause.{IsBeginning, IsReach, Shows, one_sign_too_many, one_word_too_many, in_word, long_relation, too_many_letters, Stands, IsFirstCause}

-- no beginning is longer than a reach
pub shorter : (xs ys : List Lexeme) → IsBeginning (xs ++ ys) → IsBeginning xs
shorter xs ys h = (h.0, ys ++ h.1, h.2 ∙ append_assoc xs ys h.1)

pub reach_past : (xs : List Lexeme) (n m : ℕ) → IsReach xs n → m ≤ length xs → IsBeginning (take m xs) → m ≤ n
reach_past xs n m reach within begins =
    ⊎_elim (λ less.
    let less : n < m = less in
    let front = take-take (n + 1) m xs (omega arith) in
    let parts = take-append-drop (n + 1) (take m xs) in
    absurd (reach.no_more (omega arith)
    (subst IsBeginning front (shorter (take (n + 1) (take m xs)) (drop (n + 1) (take m xs)) (subst IsBeginning (sym parts) begins)))))
    (λ more. more) (cases_lt n m)

pub one_reach : (xs : List Lexeme) (m n : ℕ) → IsReach xs m → IsReach xs n → m ≡ n
one_reach xs m n a b =
    let up = reach_past xs n m b a.within a.begins in
    let down = reach_past xs m n a b.within b.begins in
    omega arith

-- a cause of statements is known by its number
abbrev cause_of : ℕ → Cause
cause_of n = get_or (cause.Unexpected ∷ cause.Unexpected ∷ cause.Unexpected ∷ cause.WordTooLong ∷ cause.TooMany ∷ []) (n - 3) cause.Unexpected

abbrev IsKnown : Cause → Type 0
IsKnown c = cause_of (cause_number c) ≡ c

event_known : (e : Event) (p : ℕ) (c : Cause) → words.Shows e p c → IsKnown c
event_known (opens place depth) p c shows = subst IsKnown (sym shows.0) refl
event_known (ends count letters) p c shows = subst IsKnown (sym shows.0) refl

piece_known : (counts : Counts) (xs : List Lexeme) (front : List Piece) (piece : Piece) (p : ℕ) (c : Cause) → Shows counts xs front piece p c → IsKnown c
piece_known _ _ _ _ _ _ (one_sign_too_many kind x p at over) = refl
piece_known _ _ _ _ _ _ (one_word_too_many kind left w p at over) = refl
piece_known _ _ _ _ _ _ (in_word kind left w p q c at shown) = event_known shown.event q c shown.shows
piece_known _ _ _ _ _ _ (long_relation kind u v p whole long) = refl
piece_known _ _ _ _ _ _ (too_many_letters kind left w p whole many apart) = refl

known : (counts : Counts) (xs : List Lexeme) (p : ℕ) (c : Cause) → Stands counts xs p c → IsKnown c
known counts xs p c stands =
    ⊎_elim (λ unexpected. subst IsKnown (sym unexpected.0) refl)
    (λ shown. piece_known counts xs shown.front shown.piece p c shown.shows) stands

pub one_first : (counts : Counts) (xs : List Lexeme) (p q : ℕ) (c d : Cause) → IsFirstCause counts xs p c → IsFirstCause counts xs q d → (p ≡ q) × (c ≡ d)
one_first counts xs p q c d a b =
    let up = a.first q d b.stands in
    let down = b.first p c a.stands in
    ⊎_elim (λ less. ⊎_elim (λ more. absurd (omega arith)) (λ same. absurd (omega (arith, same.0))) down)
    (λ same. ⊎_elim (λ more. absurd (omega (arith, same.0)))
    (λ back.
    let numbers : cause_number c ≡ cause_number d = omega (arith, same.1, back.1) in
    (same.0, sym (known counts xs p c a.stands) ∙ ap cause_of numbers ∙ known counts xs q d b.stands))
    down)
    up
