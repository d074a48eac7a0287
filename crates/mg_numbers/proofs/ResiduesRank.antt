use Rattle.std.proofs.Common.{◌≡◌, ℕ, zero, suc, ◌+◌, ◌*◌, ◌/◌, ◌%◌, ◌^◌, ◌<◌, List, [], ◌∷◌, length, All, refl, sym, ◌∙◌, ap, subst, inl, inr, arith}
use Rattle.std.proofs.Math.Nat.{pow-suc, pow-zero, pow-succ', zero-mul, suc-mul, suc_inj, mul-le-mul_right, eq-zero-or-pos, lt_trans, div-add-mod'}
use Rattle.std.proofs.lemmas.Nat.{mul-add-lt, div_below, mod_below, div-mul-add, mod-mul-add}
use Rattle.std.proofs.lemmas.List.Elements.{All-nil, All-cons, All-head, All-tail}
use Rattle.mg_numbers.specs.Blocks.{Earlier, number_in}
use Rattle.mg_numbers.proofs.BlocksNth.{Ranking}
use Rattle.mg_numbers.proofs.BlocksLex.{Earlier-cases, Earlier-nil, Earlier-total}

-- m digits in this base
pub record AreDigits (base m : ℕ) (xs : List ℕ) : Type 0 where
  pub count : length xs ≡ m
  pub below : All (λ x. x < base) xs

-- something is below a product, so its factors aren't 0
pub pos_left : (a b i : ℕ) → i < a * b → 0 < a
pos_left a b i h = elim (eq-zero-or-pos a) [ inl e ↦ absurd (omega (arith, subst (λ c. i < c * b) e h, zero-mul b)) | inr p ↦ p ]

-- the digits of i in this base, the first most significant
abbrev pub digits_of : ℕ → ℕ → ℕ → List ℕ
digits_of base zero i = []
digits_of base (suc m) i = i / base ^ m ∷ digits_of base m (i % base ^ m)

pub number_in-below : (base : ℕ) (xs : List ℕ) → All (λ x. x < base) xs → number_in base xs < base ^ length xs
number_in-below base [] h = omega (arith, pow-zero base)
number_in-below base (d ∷ ds) h =
    let w = base ^ length ds in
    let n = number_in base ds in
    subst (λ p. d * w + n < p) (sym (pow-suc base (length ds))) (mul-add-lt d w n base (All-head (λ x. x < base) d ds h) (number_in-below base ds (All-tail (λ x. x < base) d ds h)))

pub digits_of-are : (base m i : ℕ) → i < base ^ m → AreDigits base m (digits_of base m i)
digits_of-are base zero i h = record { count = refl; below = All-nil (λ x. x < base) }
digits_of-are base (suc m) i h =
    let w = base ^ m in
    let p : 0 < w = pos_left w base i (subst (λ p. i < p) (pow-suc base m) h) in
    let rest = digits_of-are base m (i % w) (mod_below i w p) in
    record {
      count = ap suc rest.count;
      below = All-cons (λ x. x < base) (i / w) (digits_of base m (i % w)) (div_below i w base p (subst (λ p. i < p) (pow-succ' base m) h)) rest.below;
    }

pub number_in-digits_of : (base m i : ℕ) → i < base ^ m → number_in base (digits_of base m i) ≡ i
number_in-digits_of base zero i h = omega (arith, pow-zero base, h)
number_in-digits_of base (suc m) i h =
    let w = base ^ m in
    let p : 0 < w = pos_left w base i (subst (λ p. i < p) (pow-suc base m) h) in
    let low = mod_below i w p in
    ap (λ n. i / w * base ^ n + number_in base (digits_of base m (i % w))) (digits_of-are base m (i % w) low).count ∙ ap (λ z. i / w * w + z) (number_in-digits_of base m (i % w) low) ∙ div-add-mod' i w

pub digits_of-number_in : (base : ℕ) (xs : List ℕ) → All (λ x. x < base) xs → digits_of base (length xs) (number_in base xs) ≡ xs
digits_of-number_in base [] h = refl
digits_of-number_in base (d ∷ ds) h =
    let w = base ^ length ds in
    let n = number_in base ds in
    let few = All-tail (λ x. x < base) d ds h in
    let small = number_in-below base ds few in
    let quotient = div-mul-add d w n small in
    let rest = mod-mul-add d w n small in
    let ih = digits_of-number_in base ds few in
    ap (λ q. q ∷ digits_of base (length ds) ((d * w + n) % w)) quotient ∙ ap (λ r. d ∷ digits_of base (length ds) r) rest ∙ ap (λ l. d ∷ l) ih

-- the larger first digit decides
pub place_lt : (x y w n m : ℕ) → x < y → n < w → x * w + n < y * w + m
place_lt x y w n m l k = omega (arith, mul-le-mul_right {m = suc x} {n = y} w l, suc-mul x w)

pub number_in-rises : (base : ℕ) (xs ys : List ℕ) → length xs ≡ length ys → All (λ x. x < base) xs → Earlier xs ys → number_in base xs < number_in base ys
number_in-rises base [] ys e h b = absurd (Earlier-nil ys (sym e) b)
number_in-rises base (x ∷ xs) [] e h b = absurd (omega arith)
number_in-rises base (x ∷ xs) (y ∷ ys) e h b =
    let w = base ^ length xs in
    let few = All-tail (λ x. x < base) x xs h in
    let same : base ^ length ys ≡ w = ap (λ n. base ^ n) (sym (suc_inj e)) in
    let goal : x * w + number_in base xs < y * w + number_in base ys = elim (Earlier-cases x y xs ys b) [
      | inl l ↦ place_lt x y w (number_in base xs) (number_in base ys) l (number_in-below base xs few)
      | inr (q, r) ↦ let k = number_in-rises base xs ys (suc_inj e) few r in omega (arith, k, ap (λ z. z * w) q)
    ] in
    subst (λ v. x * w + number_in base xs < y * v + number_in base ys) (sym same) goal

-- tuples of digits in lexicographic order are numbered by what they stand for
abbrev pub digits_ranking : (base m : ℕ) → Ranking (AreDigits base m) Earlier (λ i. i < base ^ m)
digits_ranking base m =
    record {
      rank = number_in base;
      nth = digits_of base m;
      fits = λ xs p. subst (λ n. number_in base xs < base ^ n) p.count (number_in-below base xs p.below);
      is = digits_of-are base m;
      back = λ xs p. ap (λ n. digits_of base n (number_in base xs)) (sym p.count) ∙ digits_of-number_in base xs p.below;
      forth = number_in-digits_of base m;
      rises = λ xs ys p q b. number_in-rises base xs ys (p.count ∙ sym q.count) p.below b;
      total = λ xs ys p q. Earlier-total xs ys (p.count ∙ sym q.count);
      lower = λ i j below fits. lt_trans below fits;
    }
