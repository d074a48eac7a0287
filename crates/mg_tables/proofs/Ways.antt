-- The two ways from a row, letter by letter.
use Rattle.std.proofs.Common.{◌≡◌, ℕ, zero, suc, ◌+◌, ◌-◌, ◌<◌, ◌≤◌, ℤ, List, [], ◌∷◌, ◌++◌, length, get_or, take, drop, Some, None, refl, sym, ap, subst, ◌∙◌, arith}
use Rattle.std.specs.Prelude.{neg_ℤ}
use Rattle.std.specs.Option.{option_and_then}
use Rattle.std.proofs.lemmas.List.{take_more, take_all, drop_more, drop_all, take-append-drop, length-take-le, same_from_push, append-nil}
use Rattle.mg_words.specs.Letter.{IsLetterOf}
use Rattle.mg_words.specs.Word.{IsOver, inv}
use Rattle.mg_tables.specs.Table.{Table, entry, row_after}
use Rattle.mg_tables.specs.Gaps.{Places, Stands, number, packed}
use Rattle.mg_tables.specs.Scan.{IsAhead, IsBehind}
use Rattle.mg_tables.proofs.Scanning.{after_append, inv-cons}

-- the letters before a place lead to a row
pub record Led (ps : Places) (row : ℕ) (w : List ℤ) (i at : ℕ) : Type 0 where
  pub stands : Stands ps at
  pub leads : row_after (packed ps) (number ps row) (take i w) ≡ Some (number ps at)

-- the inverse of the letters from a place on leads to a row
pub record LedBack (ps : Places) (row : ℕ) (w : List ℤ) (least i at : ℕ) : Type 0 where
  pub stands : Stands ps at
  pub within : least ≤ i
  pub below : i ≤ length w
  pub leads : row_after (packed ps) (number ps row) (inv (drop i w)) ≡ Some (number ps at)

pub led_start : (ps : Places) (row : ℕ) (w : List ℤ) → Stands ps row → Led ps row w 0 row
led_start ps row w h = record { stands = h; leads = refl }

one_letter : (t : Table) (c d : ℕ) (x : ℤ) → entry t c x ≡ Some d → row_after t c (x ∷ []) ≡ Some d
one_letter t c d x e = ap (option_and_then (λ k. Some k)) e

pub led_on : (ps : Places) (row : ℕ) (w : List ℤ) (i at next : ℕ) (x : ℤ) → Led ps row w i at → i < length w → x ≡ get_or w i x → entry (packed ps) (number ps at) x ≡ Some (number ps next) → Stands ps next → Led ps row w (i + 1) next
led_on ps row w i at next x l below r e h = record {
  stands = h;
  leads =
      ap (row_after (packed ps) (number ps row)) (take_more w i x below ∙ ap (λ y. take i w ++ y ∷ []) (sym r))
      ∙ (after_append (packed ps) (number ps row) (take i w) (x ∷ []) (number ps at) l.leads
      ∙ one_letter (packed ps) (number ps at) (number ps next) x e);
}

pub ahead_stuck : (ps : Places) (row : ℕ) (w : List ℤ) (i at : ℕ) (x : ℤ) → Led ps row w i at → i < length w → x ≡ get_or w i x → entry (packed ps) (number ps at) x ≡ None → IsAhead ps row w i at
ahead_stuck ps row w i at x l below r e = record {
  front = take i w;
  back = drop i w;
  word = sym (take-append-drop i w);
  reached = length-take-le i w (omega (arith, below));
  stands = l.stands;
  leads = l.leads;
  stuck = λ y rest f.
      let same : x ≡ y = head (sym (drop_more w i x below ∙ ap (λ z. z ∷ drop (i + 1) w) (sym r)) ∙ f) in
      subst (λ z. entry (packed ps) (number ps at) z ≡ None) same e;
}
  where
    head : {x y : ℤ} {u v : List ℤ} → x ∷ u ≡ y ∷ v → x ≡ y
    head e = cc

pub ahead_end : (ps : Places) (row : ℕ) (w : List ℤ) (i at : ℕ) → Led ps row w i at → i ≡ length w → IsAhead ps row w i at
ahead_end ps row w i at l e = record {
  front = take i w;
  back = [];
  word = sym (append-nil (take i w) ∙ take_all i w (omega (arith, e)));
  reached = length-take-le i w (omega (arith, e));
  stands = l.stands;
  leads = l.leads;
  stuck = λ y rest f. absurd cc;
}

pub back_start : (ps : Places) (row : ℕ) (w : List ℤ) (least : ℕ) → Stands ps row → least ≤ length w → LedBack ps row w least (length w) row
back_start ps row w least h k = record {
  stands = h;
  within = k;
  below = omega arith;
  leads = ap (λ z. row_after (packed ps) (number ps row) (inv z)) (drop_all (length w) w (omega arith));
}

pub back_on : (ps : Places) (row : ℕ) (w : List ℤ) (least i at next : ℕ) (x : ℤ) → LedBack ps row w least i at → least < i → x ≡ get_or w (i - 1) x → entry (packed ps) (number ps at) (neg_ℤ x) ≡ Some (number ps next) → Stands ps next → LedBack ps row w least (i - 1) next
back_on ps row w least i at next x l below r e h =
    let again : i - 1 + 1 ≡ i = omega (arith, below) in
    record {
      stands = h;
      within = omega (arith, below);
      below = omega (arith, l.below);
      leads =
          ap (λ z. row_after (packed ps) (number ps row) (inv z)) (drop_more w (i - 1) x (omega (arith, below, l.below)) ∙ (ap (λ y. y ∷ drop (i - 1 + 1) w) (sym r) ∙ ap (λ k. x ∷ drop k w) again))
          ∙ (ap (row_after (packed ps) (number ps row)) (inv-cons x (drop i w))
          ∙ (after_append (packed ps) (number ps row) (inv (drop i w)) (neg_ℤ x ∷ []) (number ps at) l.leads
          ∙ one_letter (packed ps) (number ps at) (number ps next) (neg_ℤ x) e));
    }

pub behind_stuck : (ps : Places) (row : ℕ) (w : List ℤ) (least i at : ℕ) (x : ℤ) → LedBack ps row w least i at → least < i → x ≡ get_or w (i - 1) x → entry (packed ps) (number ps at) (neg_ℤ x) ≡ None → IsBehind ps row w least i at
behind_stuck ps row w least i at x l below r e =
    let again : i - 1 + 1 ≡ i = omega (arith, below) in
    record {
      front = take i w;
      back = drop i w;
      word = sym (take-append-drop i w);
      reached = length-take-le i w l.below;
      within = l.within;
      stands = l.stands;
      leads = l.leads;
      stuck = λ rest y f h.
          let last : take i w ≡ take (i - 1) w ++ x ∷ [] = ap (λ k. take k w) (sym again) ∙ (take_more w (i - 1) x (omega (arith, below, l.below)) ∙ ap (λ z. take (i - 1) w ++ z ∷ []) (sym r)) in
          subst (λ z. entry (packed ps) (number ps at) (neg_ℤ z) ≡ None) (same_from_push (take (i - 1) w) rest x y (sym last ∙ f)).1 e;
    }

pub behind_end : (ps : Places) (row : ℕ) (w : List ℤ) (least i at : ℕ) → LedBack ps row w least i at → (least < i → ⊥) → IsBehind ps row w least i at
behind_end ps row w least i at l no_more = record {
  front = take i w;
  back = drop i w;
  word = sym (take-append-drop i w);
  reached = length-take-le i w l.below;
  within = l.within;
  stands = l.stands;
  leads = l.leads;
  stuck = λ rest y f h. absurd (no_more h);
}

-- the letters of a word
pub letter_read : (m : ℕ) (w : List ℤ) (i : ℕ) (x : ℤ) → IsOver m w → i < length w → x ≡ get_or w i x → IsLetterOf m x
letter_read m [] i x over h e = absurd (omega (arith, h))
letter_read m (y ∷ w) zero x over h e = subst (IsLetterOf m) (sym e) over.0
letter_read m (y ∷ w) (suc i) x over h e = letter_read m w i x over.1 (omega (arith, h)) e
