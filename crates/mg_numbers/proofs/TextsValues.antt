-- Bijective numeration: bounds on the values of texts, their order, and that texts and numbers correspond one to one.
use Rattle.std.proofs.Common.{◌≡◌, ℕ, zero, suc, ◌+◌, ◌-◌, ◌*◌, ◌^◌, ◌<◌, ◌≤◌, ◌⊎◌, List, [], ◌∷◌, ◌++◌, length, take, drop, set, get_or, replicate, refl, sym, ap, subst, inl, inr, zero-add, suc-add, arith}
use Rattle.std.proofs.Math.Nat.{pow-suc, pow-succ', pow-zero, one-le-pow, mul-le-mul_right, pow-le-pow_left}
use Rattle.std.proofs.lemmas.Nat.{pow-add}
use Rattle.std.proofs.lemmas.List.{length-append, length-set, length-replicate}
use Rattle.std.proofs.Math.Pow.{pow_mono}
use Rattle.std.proofs.lemmas.Bool.{cases_lt, cases_order}
use Rattle.mg_numbers.specs.Texts.{IsDigit, IsText, value, IsLexBefore, IsShortlexBefore}

-- ---- texts

pub IsText-append : (base : ℕ) (xs ys : List ℕ) → IsText base xs → IsText base ys → IsText base (xs ++ ys)
IsText-append base [] ys a b = b
IsText-append base (x ∷ xs) ys a b = (a.0, IsText-append base xs ys a.1 b)

pub IsText-front : (base : ℕ) (xs ys : List ℕ) → IsText base (xs ++ ys) → IsText base xs
IsText-front base [] ys a = tt
IsText-front base (x ∷ xs) ys a = (a.0, IsText-front base xs ys a.1)

pub IsText-back : (base : ℕ) (xs ys : List ℕ) → IsText base (xs ++ ys) → IsText base ys
IsText-back base [] ys a = a
IsText-back base (x ∷ xs) ys a = IsText-back base xs ys a.1

pub IsText-take : (base n : ℕ) (xs : List ℕ) → IsText base xs → IsText base (take n xs)
IsText-take base zero xs a = tt
IsText-take base (suc n) [] a = tt
IsText-take base (suc n) (x ∷ xs) a = (a.0, IsText-take base n xs a.1)

pub IsText-drop : (base n : ℕ) (xs : List ℕ) → IsText base xs → IsText base (drop n xs)
IsText-drop base zero xs a = a
IsText-drop base (suc n) [] a = tt
IsText-drop base (suc n) (x ∷ xs) a = IsText-drop base n xs a.1

pub IsText-set : (base : ℕ) (xs : List ℕ) (i d : ℕ) → IsText base xs → IsDigit base d → IsText base (set xs i d)
IsText-set base [] i d a h = tt
IsText-set base (x ∷ xs) zero d a h = (h, a.1)
IsText-set base (x ∷ xs) (suc i) d a h = (a.0, IsText-set base xs i d a.1 h)

pub digit_at : (base : ℕ) (xs : List ℕ) (i : ℕ) → IsText base xs → i < length xs → IsDigit base (get_or xs i 0)
digit_at base [] i a h = absurd (omega arith)
digit_at base (x ∷ xs) zero a h = a.0
digit_at base (x ∷ xs) (suc i) a h = digit_at base xs i a.1 (omega arith)

-- k digits 1
pub IsText-ones : (base k : ℕ) → 1 ≤ base → IsText base (replicate k 1)
IsText-ones base zero h = tt
IsText-ones base (suc k) h = (record { least = omega arith; most = h }, IsText-ones base k h)

-- ---- values

pub value-append : (base : ℕ) (xs ys : List ℕ) → value base (xs ++ ys) ≡ value base xs * base ^ length ys + value base ys
value-append base [] ys = omega arith
value-append base (x ∷ xs) ys =
    omega (arith, value-append base xs ys, ap (λ n. x * base ^ n) (length-append xs ys), ap (λ n. x * n) (pow-add base (length xs) (length ys)))

pow_one : (base : ℕ) → base ^ 1 ≡ base
pow_one base = omega (arith, pow-suc base 0, ap (λ n. n * base) (pow-zero base))

pub value_of_one : (base d : ℕ) → value base (d ∷ []) ≡ d
value_of_one base d = let e : d * base ^ 0 ≡ d * 1 = ap (λ n. d * n) (pow-zero base) in omega (arith, e)

-- a last digit more
pub value-push : (base : ℕ) (xs : List ℕ) (d : ℕ) → value base (xs ++ d ∷ []) ≡ value base xs * base + d
value-push base xs d =
    let e : value base xs * base ^ length (d ∷ []) ≡ value base xs * base = ap (λ n. value base xs * n) (pow_one base) in
    omega (arith, value-append base xs (d ∷ []), e, value_of_one base d)

-- another digit at one place
pub value-set : (base : ℕ) (xs : List ℕ) (i d k : ℕ) → i + k + 1 ≡ length xs
    → value base (set xs i d) + get_or xs i 0 * base ^ k ≡ value base xs + d * base ^ k
value-set base [] i d k h = absurd (omega arith)
value-set base (x ∷ xs) zero d k h =
    let e : k ≡ length xs = omega arith in rw e (omega arith)
value-set base (x ∷ xs) (suc i) d k h =
    omega (arith, value-set base xs i d k (omega arith), ap (λ n. x * base ^ n) (length-set xs i d))

-- ---- bounds

one_to : (k : ℕ) → 1 ^ k ≡ 1
one_to zero = pow-zero 1
one_to (suc k) = omega (arith, one_to k, pow-suc 1 k)

-- the least value of the texts of k digits, whose digits are all 1
abbrev pub least_of : ℕ → ℕ → ℕ
least_of base zero = 0
least_of base (suc k) = base ^ k + least_of base k

pub value_of_ones : (base k : ℕ) → value base (replicate k 1) ≡ least_of base k
value_of_ones base zero = refl
value_of_ones base (suc k) =
    let e : base ^ length (replicate k 1) ≡ base ^ k = ap (λ n. base ^ n) (length-replicate {A = ℕ} k 1) in
    omega (arith, value_of_ones base k, e)

pub least_of-add : (base j k : ℕ) → least_of base (j + k) ≡ least_of base j * base ^ k + least_of base k
least_of-add base zero k = rw zero-add (omega arith)
least_of-add base (suc j) k = rw suc-add (omega (arith, least_of-add base j k, pow-add base j k))

least_of_grows : (base j m : ℕ) → least_of base j ≤ least_of base (m + j)
least_of_grows base j zero = rw zero-add (omega arith)
least_of_grows base j (suc m) = rw suc-add (omega (arith, least_of_grows base j m))

pub least_of-monotone : (base j k : ℕ) → j ≤ k → least_of base j ≤ least_of base k
least_of-monotone base j k h = let e : k - j + j ≡ k = omega arith in rw e at (least_of_grows base j (k - j))

-- the values of the texts of one length lie from the least of that length up to below the least of the next
pub value_at_least : (base : ℕ) (xs : List ℕ) → IsText base xs → least_of base (length xs) ≤ value base xs
value_at_least base [] a = omega arith
value_at_least base (x ∷ xs) a = omega (arith, value_at_least base xs a.1, mul-le-mul_right (base ^ length xs) a.0.least)

pub value_below : (base : ℕ) (xs : List ℕ) → IsText base xs → value base xs < base ^ length xs + least_of base (length xs)
value_below base [] a = omega (arith, pow-zero base)
value_below base (x ∷ xs) a =
    omega (arith, value_below base xs a.1, mul-le-mul_right (base ^ length xs) a.0.most, pow-succ' base (length xs))

-- a shorter text has the lesser value
pub value_shorter : (base : ℕ) (xs ys : List ℕ) → IsText base xs → IsText base ys → length xs < length ys → value base xs < value base ys
value_shorter base xs ys a b h =
    let e : base ^ length xs + least_of base (length xs) ≤ least_of base (length ys) = least_of-monotone base (suc (length xs)) (length ys) h in
    omega (arith, value_below base xs a, value_at_least base ys b, e)

-- two texts of one length: the first place of difference decides
lex_value : (base : ℕ) (xs ys : List ℕ) → IsText base xs → IsText base ys → length xs ≡ length ys → IsLexBefore xs ys → value base xs < value base ys
lex_value base [] ys a b h l = absurd l
lex_value base (x ∷ xs) [] a b h l = absurd l
lex_value base (x ∷ xs) (y ∷ ys) a b h l =
    let e : length xs ≡ length ys = omega arith in
    let p : base ^ length xs ≡ base ^ length ys = ap (λ n. base ^ n) e in
    let q : least_of base (length xs) ≡ least_of base (length ys) = ap (λ n. least_of base n) e in
    elim l [
      | inl less ↦ omega (arith, value_below base xs a.1, value_at_least base ys b.1, mul-le-mul_right (base ^ length ys) less, p, q, ap (λ n. x * n) p)
      | inr rest ↦ omega (arith, lex_value base xs ys a.1 b.1 e rest.1, ap (λ n. n * base ^ length ys) rest.0, ap (λ n. x * n) p)
    ]

-- of two texts of one length that differ one comes first
lex_cases : (xs ys : List ℕ) → length xs ≡ length ys → (xs ≡ ys) ⊎ (IsLexBefore xs ys ⊎ IsLexBefore ys xs)
lex_cases [] [] h = inl refl
lex_cases [] (y ∷ ys) h = absurd (omega arith)
lex_cases (x ∷ xs) [] h = absurd (omega arith)
lex_cases (x ∷ xs) (y ∷ ys) h =
    elim (cases_order x y) [
      | inl same ↦ elim (lex_cases xs ys (omega arith)) [
        | inl e ↦ inl (cc)
        | inr l ↦ elim l [ inl before ↦ inr (inl (inr (same, before))) | inr after ↦ inr (inr (inr (sym same, after))) ]
      ]
      | inr l ↦ elim l [ inl before ↦ inr (inl (inl before)) | inr after ↦ inr (inr (inl after)) ]
    ]

pub shortlex_cases : (xs ys : List ℕ) → (xs ≡ ys) ⊎ (IsShortlexBefore xs ys ⊎ IsShortlexBefore ys xs)
shortlex_cases xs ys =
    elim (cases_order (length xs) (length ys)) [
      | inl e ↦ elim (lex_cases xs ys e) [
        | inl same ↦ inl same
        | inr l ↦ elim l [ inl before ↦ inr (inl (inr (e, before))) | inr after ↦ inr (inr (inr (sym e, after))) ]
      ]
      | inr l ↦ elim l [ inl before ↦ inr (inl (inl before)) | inr after ↦ inr (inr (inl after)) ]
    ]

-- the order of values is the order by length and then by the first place of difference
pub value_in_order : (base : ℕ) (xs ys : List ℕ) → IsText base xs → IsText base ys → IsShortlexBefore xs ys → value base xs < value base ys
value_in_order base xs ys a b l =
    elim l [ inl shorter ↦ value_shorter base xs ys a b shorter | inr rest ↦ lex_value base xs ys a b rest.0 rest.1 ]

pub order_of_values : (base : ℕ) (xs ys : List ℕ) → IsText base xs → IsText base ys → value base xs < value base ys → IsShortlexBefore xs ys
order_of_values base xs ys a b h =
    elim (shortlex_cases xs ys) [
      | inl same ↦ absurd (omega (arith, ap (λ t. value base t) same))
      | inr l ↦ elim l [ inl before ↦ before | inr after ↦ absurd (omega (arith, value_in_order base ys xs b a after)) ]
    ]

-- two texts of one value are one text
pub text_unique : (base : ℕ) (xs ys : List ℕ) → IsText base xs → IsText base ys → value base xs ≡ value base ys → xs ≡ ys
text_unique base xs ys a b h =
    elim (shortlex_cases xs ys) [
      | inl same ↦ same
      | inr l ↦ elim l [
        | inl before ↦ absurd (omega (arith, value_in_order base xs ys a b before))
        | inr after ↦ absurd (omega (arith, value_in_order base ys xs b a after))
      ]
    ]

-- ---- each number has a text

-- the next text of the same length, or, where all digits are the base, the carry
record Next (base : ℕ) (xs : List ℕ) : Type 0 where
  next : List ℕ
  as_long : length next ≡ length xs
  is_text : IsText base next
  counts : (value base next ≡ value base xs + 1) ⊎ (value base next + base ^ length xs ≡ value base xs + 1)

next_of : (base : ℕ) (xs : List ℕ) → 1 ≤ base → IsText base xs → Next base xs
next_of base [] h a = record { next = []; as_long = refl; is_text = tt; counts = inr (omega (arith, pow-zero base)) }
next_of base (x ∷ xs) h a =
    let r = next_of base xs h a.1 in
    let p : base ^ length r.next ≡ base ^ length xs = ap (λ n. base ^ n) r.as_long in
    elim r.counts [
      | inl stays ↦ record { next = x ∷ r.next; as_long = omega (arith, r.as_long); is_text = (a.0, r.is_text); counts = inl (omega (arith, stays, ap (λ n. x * n) p)) }
      | inr carry ↦ elim (cases_lt x base) [
        | inl below ↦ record { next = (x + 1) ∷ r.next; as_long = omega (arith, r.as_long); is_text = (record { least = omega arith; most = omega arith }, r.is_text); counts = inl (omega (arith, carry, p, ap (λ n. x * n) p)) }
        | inr last ↦ record { next = 1 ∷ r.next; as_long = omega (arith, r.as_long); is_text = (record { least = omega arith; most = h }, r.is_text); counts = inr (let e : x ≡ base = omega (arith, a.0.most) in omega (arith, carry, p, ap (λ n. n * base ^ length xs) e, pow-succ' base (length xs))) }
      ]
    ]

pub text_of_each : (base n : ℕ) → 1 ≤ base → (text : List ℕ) × IsText base text × (value base text ≡ n)
text_of_each base zero h = ([], tt, refl)
text_of_each base (suc n) h =
    let before = text_of_each base n h in
    let r = next_of base before.0 h before.1 in
    elim r.counts [
      | inl stays ↦ (r.next, r.is_text, omega (arith, stays, before.2))
      | inr carry ↦ (1 ∷ r.next, (record { least = omega arith; most = h }, r.is_text), omega (arith, carry, before.2, ap (λ n. base ^ n) r.as_long))
    ]

-- ---- lengths

-- with the one digit 1 the length is the value
pub value_in_base_one : (xs : List ℕ) → IsText 1 xs → value 1 xs ≡ length xs
value_in_base_one [] a = refl
value_in_base_one (x ∷ xs) a =
    let e : x ≡ 1 = omega (arith, a.0.least, a.0.most) in
    let p : 1 ^ length xs ≡ 1 = one_to (length xs) in
    omega (arith, value_in_base_one xs a.1, e, ap (λ n. x * n) p)

least_in_base_two : (base k : ℕ) → 2 ≤ base → 2 ^ k ≤ least_of base k + 1
least_in_base_two base zero h = omega arith
least_in_base_two base (suc k) h =
    omega (arith, least_in_base_two base k h, pow-le-pow_left h k, pow-suc 2 k)

-- with two digits or more a text is no longer than its value has binary digits
pub length_below : (base : ℕ) (xs : List ℕ) → 2 ≤ base → IsText base xs → 2 ^ length xs ≤ value base xs + 1
length_below base xs h a = omega (arith, value_at_least base xs a, least_in_base_two base (length xs) h)

-- a text whose value is at most 2 ^ k has at most k digits
pub length_within : (base k : ℕ) (xs : List ℕ) → 2 ≤ base → 2 ≤ k → IsText base xs → value base xs ≤ 2 ^ k → length xs ≤ k
length_within base k xs h two a v =
    elim (cases_lt k (length xs)) [
      | inl above ↦ absurd (omega (arith, length_below base xs h a, pow_mono {i = suc k} above, pow-suc 2 k, pow_mono {i = 1} {j = k} (omega arith)))
      | inr within ↦ within
    ]

-- the next text has at most one digit more
pub length_of_next : (base : ℕ) (xs ys : List ℕ) → 1 ≤ base → IsText base xs → IsText base ys → value base ys ≡ value base xs + 1 → length ys ≤ length xs + 1
length_of_next base xs ys h a b e =
    elim (cases_lt (length xs + 1) (length ys)) [
      | inl longer ↦
          let n : ℕ = suc (length xs) in
          let low : least_of base (suc n) ≤ least_of base (length ys) = least_of-monotone base (suc n) (length ys) (omega arith) in
          absurd (omega (arith, value_below base xs a, value_at_least base ys b, low, one-le-pow n base h))
      | inr within ↦ within
    ]

-- a text of a value up to 2 ^ 62, over one digit up to 4095, has less than 4096 digits
pub room_for_a_digit : (base : ℕ) (xs : List ℕ) → 1 ≤ base → IsText base xs → value base xs ≤ 2 ^ 62 → (base ≡ 1 → value base xs < 4096) → length xs < 4096
room_for_a_digit base xs h a top one_digit =
    elim (cases_lt 1 base) [
      | inl two ↦ omega (arith, length_within base 62 xs two (omega arith) a top)
      | inr one ↦
          let e : base ≡ 1 = omega arith in
          let t : IsText 1 xs = subst (λ b. IsText b xs) e a in
          omega (arith, one_digit e, value_in_base_one xs t, ap (λ b. value b xs) e)
    ]
