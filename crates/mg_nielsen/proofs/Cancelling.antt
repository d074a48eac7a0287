-- How much of two words cancels.
use Rattle.std.proofs.Common.{◌≡◌, ◌≢◌, ℕ, suc, ◌+◌, ◌-◌, ◌*◌, ◌<◌, ◌≤◌, Bool, true, false, not, cond, ltb, ℤ, neg_ℤ, List, [], ◌∷◌, ◌++◌, length, get_or, drop, refl, sym, ap, ◌∙◌, inl, inr, append_assoc, arith}
use Rattle.std.specs.Bool.{Decides}
use Rattle.std.specs.Ordering.{int_eq}
use Rattle.std.proofs.Math.IntN.{neg_ℤ-neg_ℤ}
use Rattle.std.proofs.lemmas.Bool.Decides.{Decides-int_eq, nat_tests}
use Rattle.std.proofs.lemmas.List.{append-nil, length-append, length-drop, drop_more, get_or_read}
use Rattle.mg_words.specs.Word.{inv, IsReduced}
use Rattle.mg_words.specs.Reduction.{onto, free_form}
use Rattle.mg_words.proofs.Chains.{inv-cons, inv-inv, length-inv}
use Rattle.mg_words.proofs.Free.{same_or_not, cancel-miss, IsApart, apart_from_reduced, reduced_from_apart, onto-append, free_form-append, free_form-reduced, free_form-pair_back, IsReduced-inv}
use Rattle.mg_present.specs.Same.{signed}
use Rattle.mg_nielsen.specs.Expressed.{Expressed, empty, turned}
use Rattle.mg_nielsen.specs.Moves.{member_at}
use Rattle.mg_nielsen.specs.Choice.{common, quotient_length, numbered}

int_refused : (r : Bool) (P : Type 0) → Decides r P → (P → ⊥) → r ≡ false
int_refused true P d n = absurd (n (d.0 refl))
int_refused false P d n = refl

pub common-hit : (x y : ℤ) (u v : List ℤ) → x ≡ y → common (x ∷ u) (y ∷ v) ≡ suc (common u v)
common-hit x y u v e = ap (λ b. cond b (suc (common u v)) 0) ((Decides-int_eq x y).1 e)

pub common-miss : (x y : ℤ) (u v : List ℤ) → x ≢ y → common (x ∷ u) (y ∷ v) ≡ 0
common-miss x y u v n = ap (λ b. cond b (suc (common u v)) 0) (int_refused (int_eq x y) (x ≡ y) (Decides-int_eq x y) n)

pub common-first : (u v : List ℤ) → common u v ≤ length u
common-first [] v = omega arith
common-first (x ∷ u) [] = omega arith
common-first (x ∷ u) (y ∷ v) =
    elim (same_or_not x y) as (λ _. common (x ∷ u) (y ∷ v) ≤ length (x ∷ u)) [
      | inl e ↦ omega (arith, common-hit x y u v e, common-first u v)
      | inr n ↦ omega (arith, common-miss x y u v n)
    ]

pub common-second : (u v : List ℤ) → common u v ≤ length v
common-second [] v = omega arith
common-second (x ∷ u) [] = omega arith
common-second (x ∷ u) (y ∷ v) =
    elim (same_or_not x y) as (λ _. common (x ∷ u) (y ∷ v) ≤ length (y ∷ v)) [
      | inl e ↦ omega (arith, common-hit x y u v e, common-second u v)
      | inr n ↦ omega (arith, common-miss x y u v n)
    ]

-- nothing cancels where the letters at the seam differ
far : (x : ℤ) (u w : List ℤ) → IsApart (x ∷ u) → onto (inv u) (neg_ℤ x ∷ w) ≡ inv u ++ neg_ℤ x ∷ w
far x [] w h = refl
far x (z ∷ u) w h =
    ap (λ t. onto t (neg_ℤ x ∷ w)) (inv-cons z u) ∙ (onto-append (inv u) (neg_ℤ z ∷ []) (neg_ℤ x ∷ w)
    ∙ (ap (onto (inv u)) (cancel-miss (neg_ℤ z) (neg_ℤ x) w (λ e. h.0 (sym (e ∙ neg_ℤ-neg_ℤ z))))
    ∙ (far z u (neg_ℤ x ∷ w) h.1
    ∙ (sym (append_assoc (inv u) (neg_ℤ z ∷ []) (neg_ℤ x ∷ w)) ∙ ap (λ t. t ++ neg_ℤ x ∷ w) (sym (inv-cons z u))))))

seam : (x y : ℤ) (u v : List ℤ) → x ≢ y → IsApart (x ∷ u) → IsApart (y ∷ v) → free_form (inv (x ∷ u) ++ y ∷ v) ≡ inv (x ∷ u) ++ y ∷ v
seam x y u v n h k =
    free_form-append (inv (x ∷ u)) (y ∷ v) ∙ (ap (onto (inv (x ∷ u))) (free_form-reduced (y ∷ v) (reduced_from_apart (y ∷ v) k))
    ∙ (ap (λ t. onto t (y ∷ v)) (inv-cons x u) ∙ (onto-append (inv u) (neg_ℤ x ∷ []) (y ∷ v)
    ∙ (ap (onto (inv u)) (cancel-miss (neg_ℤ x) y v (λ e. n (sym (e ∙ neg_ℤ-neg_ℤ x))))
    ∙ (far x u (y ∷ v) h
    ∙ (sym (append_assoc (inv u) (neg_ℤ x ∷ []) (y ∷ v)) ∙ ap (λ t. t ++ y ∷ v) (sym (inv-cons x u))))))))

parts : (u v : List ℤ) → IsApart u → IsApart v → free_form (inv u ++ v) ≡ inv (drop (common u v) u) ++ drop (common u v) v
parts [] v h k = free_form-reduced v (reduced_from_apart v k)
parts (x ∷ u) [] h k =
    ap free_form (append-nil (inv (x ∷ u))) ∙ (free_form-reduced (inv (x ∷ u)) (IsReduced-inv (x ∷ u) (reduced_from_apart (x ∷ u) h)) ∙ sym (append-nil (inv (x ∷ u))))
parts (x ∷ u) (y ∷ v) h k =
    elim (same_or_not x y) as (λ _. free_form (inv (x ∷ u) ++ y ∷ v) ≡ inv (drop (common (x ∷ u) (y ∷ v)) (x ∷ u)) ++ drop (common (x ∷ u) (y ∷ v)) (y ∷ v)) [
      | inl e ↦ ap (λ z. free_form (inv (x ∷ u) ++ z ∷ v)) (sym e) ∙ (ap (λ t. free_form (t ++ x ∷ v)) (inv-cons x u)
          ∙ (ap free_form (append_assoc (inv u) (neg_ℤ x ∷ []) (x ∷ v)) ∙ (free_form-pair_back (inv u) x v
          ∙ (parts u v h.1 k.1 ∙ ap (λ n. inv (drop n (x ∷ u)) ++ drop n (y ∷ v)) (sym (common-hit x y u v e))))))
      | inr n ↦ seam x y u v n h k ∙ ap (λ n. inv (drop n (x ∷ u)) ++ drop n (y ∷ v)) (sym (common-miss x y u v n))
    ]

-- the product of an inverse with a word is what doesn't cancel of both
pub quotient_parts : (u v : List ℤ) → IsReduced u → IsReduced v → free_form (inv u ++ v) ≡ inv (drop (common u v) u) ++ drop (common u v) v
quotient_parts u v h k = parts u v (apart_from_reduced u h) (apart_from_reduced v k)

pub quotient_counted : (u v : List ℤ) (n : ℕ) → n ≡ common u v → IsReduced u → IsReduced v → (length u - n) + (length v - n) ≡ quotient_length u v
quotient_counted u v n e h k =
    omega (
      arith,
      ap length (quotient_parts u v h k),
      length-append (inv (drop (common u v) u)) (drop (common u v) v),
      length-inv (drop (common u v) u),
      length-drop (common u v) u,
      length-drop (common u v) v,
    )

-- one more letter in common, or no more
pub common_more : (u v : List ℤ) (n : ℕ) (x y : ℤ) → n < length u → n < length v → x ≡ get_or u n x → y ≡ get_or v n y → x ≡ y → n + common (drop n u) (drop n v) ≡ n + 1 + common (drop (n + 1) u) (drop (n + 1) v)
common_more u v n x y l m e f g =
    ap (λ t. n + common t (drop n v)) (drop_more u n x l ∙ ap (λ z. z ∷ drop (n + 1) u) (sym e))
    ∙ (ap (λ t. n + common (x ∷ drop (n + 1) u) t) (drop_more v n y m ∙ ap (λ z. z ∷ drop (n + 1) v) (sym f))
    ∙ (ap (λ k. n + k) (common-hit x y (drop (n + 1) u) (drop (n + 1) v) g) ∙ omega arith))

pub common_ends : (u v : List ℤ) (n : ℕ) (x y : ℤ) → n < length u → n < length v → x ≡ get_or u n x → y ≡ get_or v n y → x ≢ y → n + common (drop n u) (drop n v) ≡ n
common_ends u v n x y l m e f g =
    ap (λ t. n + common t (drop n v)) (drop_more u n x l ∙ ap (λ z. z ∷ drop (n + 1) u) (sym e))
    ∙ (ap (λ t. n + common (x ∷ drop (n + 1) u) t) (drop_more v n y m ∙ ap (λ z. z ∷ drop (n + 1) v) (sym f))
    ∙ (ap (λ k. n + k) (common-miss x y (drop (n + 1) u) (drop (n + 1) v) g) ∙ omega arith))

pub common_end : (u v : List ℤ) (n : ℕ) → n ≤ length u → n ≤ length v → length u ≤ n → n + common (drop n u) (drop n v) ≡ n
common_end u v n l m k = omega (arith, common-first (drop n u) (drop n v), length-drop n u)

pub common_end_too : (u v : List ℤ) (n : ℕ) → n ≤ length u → n ≤ length v → length v ≤ n → n + common (drop n u) (drop n v) ≡ n
common_end_too u v n l m k = omega (arith, common-second (drop n u) (drop n v), length-drop n v)

-- a second word in two parts
pub common_all : (u h t : List ℤ) → common u h ≡ length h → common u (h ++ t) ≡ length h + common (drop (length h) u) t
common_all u [] t e = omega arith
common_all [] (y ∷ h) t e = absurd (let k : 0 ≡ suc (length h) = e in omega arith)
common_all (x ∷ u) (y ∷ h) t e =
    elim (same_or_not x y) as (λ _. common (x ∷ u) (y ∷ h ++ t) ≡ suc (length h) + common (drop (length h) u) t) [
      | inl s ↦ let f : common u h ≡ length h = (let k = common-hit x y u h s in omega arith) in omega (arith, common-hit x y u (h ++ t) s, common_all u h t f)
      | inr n ↦ absurd (let k = common-miss x y u h n in omega arith)
    ]

pub common_part : (u h t : List ℤ) → common u h ≢ length h → common u (h ++ t) ≡ common u h
common_part u [] t n = absurd (n (omega (arith, common-second u [])))
common_part [] (y ∷ h) t n = refl
common_part (x ∷ u) (y ∷ h) t n =
    elim (same_or_not x y) as (λ _. common (x ∷ u) (y ∷ h ++ t) ≡ common (x ∷ u) (y ∷ h)) [
      | inl s ↦ common-hit x y u (h ++ t) s ∙ (ap suc (common_part u h t (λ e. n (common-hit x y u h s ∙ ap suc e))) ∙ sym (common-hit x y u h s))
      | inr m ↦ common-miss x y u (h ++ t) m ∙ sym (common-miss x y u h m)
    ]

-- the letters of a factor
signed_back : (inverse : Bool) (w : List ℤ) → signed (not inverse) w ≡ signed inverse (inv w)
signed_back false w = refl
signed_back true w = sym (inv-inv w)

pub below : (n m : ℕ) → n < m → ltb n m ≡ true
below n m h = grind (arith, nat_tests)

pub not_below : (n m : ℕ) → m ≤ n → ltb n m ≡ false
not_below n m h = grind (arith, nat_tests)

pub numbered_first : (members : List Expressed) (n : ℕ) → n < length members → numbered members n ≡ turned false (member_at members n)
numbered_first members n h = ap (λ b. turned (cond b false true) (member_at members (cond b n (n - length members)))) (below n (length members) h)

pub numbered_second : (members : List Expressed) (n : ℕ) → length members ≤ n → numbered members n ≡ turned true (member_at members (n - length members))
numbered_second members n h = ap (λ b. turned (cond b false true) (member_at members (cond b n (n - length members)))) (not_below n (length members) h)

pub factor_first : (members : List Expressed) (n : ℕ) (inverse : Bool) (e : Expressed) → n < length members → e ≡ get_or members n e → signed inverse e.word ≡ signed inverse (numbered members n).word
factor_first members n inverse e h r =
    ap (λ (e : Expressed). signed inverse e.word) (get_or_read members n e h r empty) ∙ ap (λ (e : Expressed). signed inverse e.word) (sym (numbered_first members n h))

pub factor_second : (members : List Expressed) (n : ℕ) (inverse : Bool) (e : Expressed) → length members ≤ n → n < 2 * length members → e ≡ get_or members (n - length members) e → signed (not inverse) e.word ≡ signed inverse (numbered members n).word
factor_second members n inverse e h l r =
    ap (λ (e : Expressed). signed (not inverse) e.word) (get_or_read members (n - length members) e (omega arith) r empty)
    ∙ (signed_back inverse (member_at members (n - length members)).word ∙ ap (λ (e : Expressed). signed inverse e.word) (sym (numbered_second members n h)))
