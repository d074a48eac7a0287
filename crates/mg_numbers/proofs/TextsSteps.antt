-- Steps of the loops over texts: the carry of a last digit, and digits written least significant first.
use Rattle.std.proofs.Common.{◌≡◌, ℕ, suc, ◌+◌, ◌-◌, ◌*◌, ◌/◌, ◌%◌, ◌^◌, ◌<◌, ◌≤◌, List, [], ◌∷◌, ◌++◌, length, take, drop, set, get_or, replicate, reverse, ◌∙◌, ap, arith, add-one}
use Rattle.std.proofs.Math.Nat.{pow-suc, pow-succ', pow-zero, one-le-pow, mul-le-mul, one-mul, sub-zero}
use Rattle.std.proofs.lemmas.Nat.{div-add-mod'}
use Rattle.std.proofs.lemmas.List.{length-append, length-set, length-reverse, reverse-append, take-append-drop, take_more, drop-set}
use Rattle.mg_numbers.specs.Texts.{IsDigit, IsText, value}
use Rattle.mg_numbers.proofs.TextsValues.{IsText-append, IsText-set, digit_at, value-append, value-push, value-set, least_of, least_of-add, value_of_ones, room_for_a_digit}

-- ---- the next text

-- the digits from `place` on were the base and are 1 now, and their carry is not added yet
pub record Carrying (base : ℕ) (old now : List ℕ) (place : ℕ) : Type 0 where
  pub as_long : length now ≡ length old
  pub within : place ≤ length now
  pub is_text : IsText base now
  pub ones : drop place now ≡ replicate (length now - place) 1
  pub counts : value base now + base ^ (length now - place) ≡ value base old + 1

pub carry_on : (base : ℕ) (old now : List ℕ) (place : ℕ) → 1 ≤ base → 0 < place → Carrying base old now place → base ≤ get_or now (place - 1) 0
    → Carrying base old (set now (place - 1) 1) (place - 1)
carry_on base old now place h above c last =
    let i : ℕ = place - 1 in
    let k : ℕ = length now - place in
    let next : i + 1 ≡ place = omega arith in
    let long : length (set now i 1) ≡ length now = length-set now i 1 in
    let one_more : length (set now i 1) - i ≡ suc k = omega (arith, c.within) in
    let d : IsDigit base (get_or now i 0) = digit_at base now i c.is_text (omega (arith, c.within)) in
    let e : get_or now i 0 ≡ base = omega (arith, d.most) in
    let rest : drop (i + 1) now ≡ replicate k 1 = rw next c.ones in record {
      as_long = long ∙ c.as_long;
      within = omega (arith, c.within);
      is_text = IsText-set base now i 1 c.is_text (record { least = omega arith; most = h });
      ones = rw one_more (drop-set now i 1 (omega (arith, c.within)) ∙ ap (λ t. 1 ∷ t) rest);
      counts = rw one_more (omega (arith, c.counts, value-set base now i 1 k (omega (arith, c.within)), ap (λ n. n * base ^ k) e, pow-succ' base k));
    }

pub carry_lands : (base : ℕ) (old now : List ℕ) (place : ℕ) → 0 < place → Carrying base old now place → get_or now (place - 1) 0 < base
    → IsText base (set now (place - 1) (get_or now (place - 1) 0 + 1)) × (value base (set now (place - 1) (get_or now (place - 1) 0 + 1)) ≡ value base old + 1)
carry_lands base old now place above c below =
    let i : ℕ = place - 1 in
    let k : ℕ = length now - place in (
      IsText-set base now i (get_or now i 0 + 1) c.is_text (record { least = omega arith; most = omega arith }),
      omega (arith, c.counts, value-set base now i (get_or now i 0 + 1) k (omega (arith, c.within))),
    )

ones_and_one_more : (base k : ℕ) → least_of base k * base + 1 ≡ least_of base k + base ^ k
ones_and_one_more base k =
    let e : least_of base (k + 1) ≡ least_of base (suc k) = ap (λ n. least_of base n) (add-one k) in
    omega (arith, e, least_of-add base k 1, ap (λ n. least_of base k * n) (pow-suc base 0 ∙ ap (λ n. n * base) (pow-zero base) ∙ one-mul base), pow-zero base)

pub carry_out : (base : ℕ) (old now : List ℕ) → 1 ≤ base → Carrying base old now 0
    → IsText base (now ++ 1 ∷ []) × (value base (now ++ 1 ∷ []) ≡ value base old + 1)
carry_out base old now h c =
    let ones : now ≡ replicate (length now) 1 = rw sub-zero at c.ones in
    let counts = rw sub-zero at c.counts in
    let v : value base now ≡ least_of base (length now) = ap (λ t. value base t) ones ∙ value_of_ones base (length now) in (
      IsText-append base now (1 ∷ []) c.is_text (record { least = omega arith; most = h }, tt),
      omega (arith, counts, value-push base now 1, v, ap (λ n. n * base) v, ones_and_one_more base (length now)),
    )

-- ---- the value of a text

pub value_of_front : (base n : ℕ) (xs : List ℕ) → 1 ≤ base → value base (take n xs) ≤ value base xs
value_of_front base n xs h =
    let e : value base (take n xs) * 1 ≤ value base (take n xs) * base ^ length (drop n xs) = mul-le-mul (omega arith) (one-le-pow (length (drop n xs)) base h) in
    omega (arith, value-append base (take n xs) (drop n xs), ap (λ t. value base t) (take-append-drop n xs), e)

pub value-take_more : (base : ℕ) (xs : List ℕ) (i : ℕ) → i < length xs → value base (take (i + 1) xs) ≡ value base (take i xs) * base + get_or xs i 0
value-take_more base xs i h = ap (λ t. value base t) (take_more xs i 0 h) ∙ value-push base (take i xs) (get_or xs i 0)

-- ---- the text of a value

-- the last digits are written, the least significant first, and `rest` is the value of those before them
pub record Written (base n rest : ℕ) (digits : List ℕ) : Type 0 where
  pub is_text : IsText base (reverse digits)
  pub counts : value base (reverse digits) + rest * base ^ length digits ≡ n

pub written_more : (base n rest : ℕ) (digits : List ℕ) → 1 ≤ base → 0 < rest → Written base n rest digits
    → Written base n ((rest - 1) / base) (digits ++ ((rest - 1) % base + 1) ∷ [])
written_more base n rest digits h some w =
    let d : ℕ = (rest - 1) % base + 1 in
    let q : ℕ = (rest - 1) / base in
    let turned : reverse (digits ++ d ∷ []) ≡ d ∷ reverse digits = reverse-append digits (d ∷ []) in
    let long : length (digits ++ d ∷ []) ≡ suc (length digits) = length-append digits (d ∷ []) ∙ add-one (length digits) in
    let parts : q * base + d ≡ rest = omega (arith, div-add-mod' (rest - 1) base) in
    let back : length (reverse digits) ≡ length digits = length-reverse digits in
    record {
      is_text = rw turned (record { least = omega arith; most = omega arith }, w.is_text);
      counts = rw (turned, long) (omega (arith, w.counts, ap (λ k. d * base ^ k) back, ap (λ k. q * k) (pow-succ' base (length digits)), ap (λ k. k * base ^ length digits) parts));
    }

-- where something is left to write there is room for a digit
pub written_room : (base n rest : ℕ) (digits : List ℕ) → 1 ≤ base → 0 < rest → n ≤ 2 ^ 62 → (base ≡ 1 → n ≤ 4096) → Written base n rest digits → length digits < 4096
written_room base n rest digits h some top one_digit w =
    let back : length (reverse digits) ≡ length digits = length-reverse digits in
    let p : 1 * 1 ≤ rest * base ^ length digits = mul-le-mul some (one-le-pow (length digits) base h) in
    omega (arith, back, room_for_a_digit base (reverse digits) h w.is_text (omega (arith, w.counts)) (λ e. omega (arith, one_digit e, w.counts)))
