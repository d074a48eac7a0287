use Rattle.std.proofs.Common.{◌≡◌, ℕ, ◌<◌, ◌⊎◌, List, [], ◌∷◌, ◌++◌, length, refl, sym, ◌∙◌, ap, inl, inr, arith}
use Rattle.std.proofs.lemmas.Bool.{cases_order}
use Rattle.std.proofs.Math.Nat.{suc_inj}
use Rattle.std.specs.Ordering.{nat_cmp, ordering_then, MatchOrdering}
use Rattle.std.specs.declared.cmp.Ordering.{Ordering}
use Rattle.std.specs.declared.cmp.Ordering.TheVariants.{Less, Equal, Greater}
use Rattle.std.specs.Cmp.Lexicographic.{slice_cmp}
use Rattle.std.proofs.lemmas.Cmp.{ranked}
use Rattle.std.specs.Cmp.{nat_cmp_is}
use Rattle.mg_numbers.specs.Blocks.{Earlier}

-- what the comparison of two first members says
then_less : (x y : ℕ) (o c : Ordering) → MatchOrdering o (x < y) (x ≡ y) (y < x) → ordering_then o c ≡ Less → (x < y) ⊎ ((x ≡ y) × (c ≡ Less))
then_less x y Less c m e = inl m
then_less x y Equal c m e = inr (m, e)
then_less x y Greater c m e = cc

pub Earlier-cases : (x y : ℕ) (xs ys : List ℕ) → Earlier (x ∷ xs) (y ∷ ys) → (x < y) ⊎ ((x ≡ y) × Earlier xs ys)
Earlier-cases x y xs ys e = then_less x y (nat_cmp x y) (slice_cmp nat_cmp xs ys) (ranked x y (nat_cmp x y) refl) e

pub Earlier-head : (x y : ℕ) (xs ys : List ℕ) → x < y → Earlier (x ∷ xs) (y ∷ ys)
Earlier-head x y xs ys l = ap (λ (o : Ordering). ordering_then o (slice_cmp nat_cmp xs ys)) (sym (nat_cmp_is x y Less l))

pub Earlier-tail : (x y : ℕ) (xs ys : List ℕ) → x ≡ y → Earlier xs ys → Earlier (x ∷ xs) (y ∷ ys)
Earlier-tail x y xs ys e h = ap (λ (o : Ordering). ordering_then o (slice_cmp nat_cmp xs ys)) (sym (nat_cmp_is x y Equal e)) ∙ h

-- nothing is before itself in length
pub Earlier-nil : (ys : List ℕ) → length ys ≡ 0 → Earlier [] ys → ⊥
Earlier-nil [] e h = cc
Earlier-nil (y ∷ ys) e h = omega arith

-- of two lists of one length one is before the other, or they are the same
pub Earlier-total : (xs ys : List ℕ) → length xs ≡ length ys → Earlier xs ys ⊎ ((xs ≡ ys) ⊎ Earlier ys xs)
Earlier-total [] [] e = inr (inl refl)
Earlier-total [] (y ∷ ys) e = absurd (omega arith)
Earlier-total (x ∷ xs) [] e = absurd (omega arith)
Earlier-total (x ∷ xs) (y ∷ ys) e =
    elim (cases_order x y) [
      | inl s ↦ elim (Earlier-total xs ys (suc_inj e)) [
        | inl h ↦ inl (Earlier-tail x y xs ys s h)
        | inr (inl h) ↦ inr (inl cc)
        | inr (inr h) ↦ inr (inr (Earlier-tail y x ys xs (sym s) h))
      ]
      | inr (inl l) ↦ inl (Earlier-head x y xs ys l)
      | inr (inr l) ↦ inr (inr (Earlier-head y x ys xs l))
    ]

-- pieces of one length decide first
pub Earlier-append_cases : (xs ys s t : List ℕ) → length xs ≡ length ys → Earlier (xs ++ s) (ys ++ t) → Earlier xs ys ⊎ ((xs ≡ ys) × Earlier s t)
Earlier-append_cases [] [] s t e h = inr (refl, h)
Earlier-append_cases [] (y ∷ ys) s t e h = absurd (omega arith)
Earlier-append_cases (x ∷ xs) [] s t e h = absurd (omega arith)
Earlier-append_cases (x ∷ xs) (y ∷ ys) s t e h =
    elim (Earlier-cases x y (xs ++ s) (ys ++ t) h) [
      | inl l ↦ inl (Earlier-head x y xs ys l)
      | inr (same, rest) ↦ elim (Earlier-append_cases xs ys s t (suc_inj e) rest) [
        | inl b ↦ inl (Earlier-tail x y xs ys same b)
        | inr (q, b) ↦ inr (cc, b)
      ]
    ]

pub Earlier-append_left : (xs ys s t : List ℕ) → length xs ≡ length ys → Earlier xs ys → Earlier (xs ++ s) (ys ++ t)
Earlier-append_left [] [] s t e h = absurd (cc)
Earlier-append_left [] (y ∷ ys) s t e h = absurd (omega arith)
Earlier-append_left (x ∷ xs) [] s t e h = absurd (omega arith)
Earlier-append_left (x ∷ xs) (y ∷ ys) s t e h =
    elim (Earlier-cases x y xs ys h) [
      | inl l ↦ Earlier-head x y (xs ++ s) (ys ++ t) l
      | inr (same, rest) ↦ Earlier-tail x y (xs ++ s) (ys ++ t) same (Earlier-append_left xs ys s t (suc_inj e) rest)
    ]

pub Earlier-append_right : (xs s t : List ℕ) → Earlier s t → Earlier (xs ++ s) (xs ++ t)
Earlier-append_right [] s t h = h
Earlier-append_right (x ∷ xs) s t h = Earlier-tail x x (xs ++ s) (xs ++ t) refl (Earlier-append_right xs s t h)
