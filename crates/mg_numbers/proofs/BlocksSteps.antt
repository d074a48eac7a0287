use Rattle.std.proofs.Common.{◌≡◌, ℕ, suc, ◌+◌, ◌-◌, ◌*◌, ◌/◌, ◌%◌, ◌^◌, ◌<◌, ◌≤◌, List, ◌∷◌, length, drop, set, All, sym, ◌∙◌, ap, subst, arith}
use Rattle.std.proofs.Math.Nat.{pow-suc, pow-zero, mul_comm, mul_assoc, add-mul, div-one, div-div-eq-div-mul, div-add-mod', one-le-pow, mod-eq_of_lt}
use Rattle.std.proofs.lemmas.Nat.{mul-add-lt, mod_below, div-mul-add, mod-mul-add}
use Rattle.std.proofs.lemmas.List.{length-set, drop-set, drop_all}
use Rattle.mg_numbers.specs.Blocks.{number_in}
use Rattle.mg_numbers.proofs.ResiduesRank.{digits_of, digits_of-are, number_in-digits_of}

-- the rest by a product is a digit above the rest by one factor
mod-mul : (i a b : ℕ) → 0 < a → 0 < b → i % (a * b) ≡ i / a % b * a + i % a
mod-mul i a b p q =
    let low : i / a % b * a + i % a < a * b = mul-add-lt (i / a % b) a (i % a) b (mod_below (i / a) b q) (mod_below i a p) in
    let e : i / a / b * (a * b) ≡ i / a / b * b * a = ap (λ n. i / a / b * n) (mul_comm a b) ∙ sym (mul_assoc (i / a / b) b a) in
    let whole : i / a / b * (a * b) + (i / a % b * a + i % a) ≡ i = omega (arith, e, add-mul (i / a / b * b) (i / a % b) a, ap (λ n. n * a) (div-add-mod' (i / a) b), div-add-mod' i a) in
    ap (λ n. n % (a * b)) (sym whole) ∙ mod-mul-add (i / a / b) (a * b) (i / a % b * a + i % a) low

pub digit_of_rest : (i a b : ℕ) → 0 < a → 0 < b → i % (a * b) / a ≡ i / a % b
digit_of_rest i a b p q = ap (λ n. n / a) (mod-mul i a b p q) ∙ div-mul-add (i / a % b) a (i % a) (mod_below i a p)

pub rest_of_rest : (i a b : ℕ) → 0 < a → 0 < b → i % (a * b) % a ≡ i % a
rest_of_rest i a b p q = ap (λ n. n % a) (mod-mul i a b p q) ∙ mod-mul-add (i / a % b) a (i % a) (mod_below i a p)

-- A list is filled from its end with the digits of the index. From this place on they are there, and the rest is what they don't tell.
pub record DigitsFrom (base index : ℕ) (out : List ℕ) (place rest : ℕ) : Type 0 where
  pub within : place ≤ length out
  pub left : rest ≡ index / base ^ (length out - place)
  pub filled : drop place out ≡ digits_of base (length out - place) (index % base ^ (length out - place))

pub DigitsFrom-none : (base index : ℕ) (out : List ℕ) → DigitsFrom base index out (length out) index
DigitsFrom-none base index out =
    let none : length out - length out ≡ 0 = omega arith in
    let one : base ^ (length out - length out) ≡ 1 = ap (λ k. base ^ k) none ∙ pow-zero base in
    record {
      within = omega arith;
      left = sym (ap (λ w. index / w) one ∙ div-one index);
      filled = drop_all (length out) out (omega arith) ∙ ap (λ k. digits_of base k (index % base ^ k)) (sym none);
    }

pub DigitsFrom-more : (base index : ℕ) (out : List ℕ) (place rest : ℕ) → 0 < base → 0 < place → DigitsFrom base index out place rest → DigitsFrom base index (set out (place - 1) (rest % base)) (place - 1) (rest / base)
DigitsFrom-more base index out place rest positive some d =
    let p = place - 1 in
    let k = length out - place in
    let w = base ^ k in
    let new = set out p (rest % base) in
    let wide : 0 < w = one-le-pow k base positive in
    let size : length new - p ≡ suc k = omega (arith, length-set out p (rest % base), d.within) in
    let next : p + 1 ≡ place = omega arith in
    let power : base ^ suc k ≡ w * base = pow-suc base k in
    let digit : index % base ^ suc k / w ≡ rest % base = ap (λ v. index % v / w) power ∙ digit_of_rest index w base wide positive ∙ ap (λ n. n % base) (sym d.left) in
    let below : index % base ^ suc k % w ≡ index % w = ap (λ v. index % v % w) power ∙ rest_of_rest index w base wide positive in
    let tail : drop (p + 1) out ≡ digits_of base k (index % w) = ap (λ n. drop n out) next ∙ d.filled in
    let now : drop p new ≡ rest % base ∷ drop (p + 1) out = drop-set out p (rest % base) (omega (arith, d.within)) in
    let all : digits_of base (suc k) (index % base ^ suc k) ≡ rest % base ∷ digits_of base k (index % w) = ap (λ q. q ∷ digits_of base k (index % base ^ suc k % w)) digit ∙ ap (λ r. rest % base ∷ digits_of base k r) below in
    record {
      within = omega (arith, length-set out p (rest % base), d.within);
      left = ap (λ n. n / base) d.left ∙ div-div-eq-div-mul index w base ∙ ap (λ v. index / v) (sym power) ∙ ap (λ n. index / base ^ n) (sym size);
      filled = now ∙ ap (λ l. rest % base ∷ l) tail ∙ sym all ∙ ap (λ n. digits_of base n (index % base ^ n)) (sym size);
    }

-- at the first place all digits are there
pub DigitsFrom-all : (base index : ℕ) (out : List ℕ) (rest : ℕ) → index < base ^ length out → DigitsFrom base index out 0 rest → out ≡ digits_of base (length out) index
DigitsFrom-all base index out rest there d =
    let whole : length out - 0 ≡ length out = omega arith in
    d.filled ∙ ap (λ n. digits_of base n (index % base ^ n)) whole ∙ ap (digits_of base (length out)) (mod-eq_of_lt there)

-- what the list says then, for a base by another name
pub AreDigits-from_loop : (base real index n place rest : ℕ) (out : List ℕ) → base ≡ real → place ≤ 0 → length out ≡ n → index < real ^ n → DigitsFrom base index out place rest → (number_in real out ≡ index) × All (λ x. x < real) out
AreDigits-from_loop base real index n place rest out same none long there d =
    let here : DigitsFrom real index out 0 rest = subst (λ b. DigitsFrom b index out 0 rest) same (subst (λ p. DigitsFrom base index out p rest) (omega arith) d) in
    let fits : index < real ^ length out = subst (λ k. index < real ^ k) (sym long) there in
    let all = DigitsFrom-all real index out rest fits here in
    (ap (number_in real) all ∙ number_in-digits_of real (length out) index fits, subst (λ l. All (λ x. x < real) l) (sym all) (digits_of-are real (length out) index fits).below)
