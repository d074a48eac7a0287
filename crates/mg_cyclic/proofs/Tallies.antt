-- Counts of letters tell what a word sums to at every map.
use Rattle.std.proofs.Common.{◌≡◌, ℕ, zero, suc, ◌+◌, ◌-◌, ◌*◌, ◌/◌, ◌%◌, ◌<◌, ◌≤◌, Bool, true, false, ℤ, pos, negsuc, List, [], ◌∷◌, length, get_or, set, take, replicate, All, refl, sym, ap, subst, ◌∙◌, inl, inr, arith}
use Rattle.std.specs.Prelude.{sum_by}
use Rattle.std.proofs.Math.Nat.{zero-mul, one-mul, add-mul, mul-add, mul_comm, mul_assoc, zero-mod, mul-add-mod_self_right, div-add-mod'}
use Rattle.std.proofs.lemmas.Bool.{cases_lt}
use Rattle.std.proofs.lemmas.List.{length-take-le, get_or-take, take-take}
use Rattle.std.proofs.lemmas.List.Elements.{All-head, All-tail, All-take, All-replicate, All-from_recursion, recursion_from_All}
use Rattle.std.proofs.lemmas.List.Sums.{sum_by_more}
use Rattle.mg_words.specs.Letter.{IsLetterOf, number_of}
use Rattle.mg_words.specs.Word.{IsOver}
use Rattle.mg_numbers.specs.Residues.{ResidueTuple}
use Rattle.mg_cyclic.specs.Map.{residue_of_generator, added_by_letter}
use Rattle.mg_cyclic.specs.Exponents.{DependsOnFirst, VanishesWith, Tallies, IsTally, tallied}

pub tallied-zeros : (n j k : ℕ) (xs : List ℕ) → tallied n (replicate j 0) (replicate k 0) xs ≡ 0
tallied-zeros n j k [] = refl
tallied-zeros n zero k (x ∷ xs) = refl
tallied-zeros n (suc j) zero (x ∷ xs) = refl
tallied-zeros n (suc j) (suc k) (x ∷ xs) = omega (arith, zero-mul x, zero-mul (n - x), tallied-zeros n j k xs)

-- one generator more
tallied-plus : (n g : ℕ) (ps ms xs : List ℕ) → g < length xs → length xs ≤ length ps → length xs ≤ length ms → tallied n (set ps g (get_or ps g 0 + 1)) ms xs ≡ tallied n ps ms xs + get_or xs g 0
tallied-plus n g ps ms [] h j k = absurd (omega (arith, h))
tallied-plus n g [] ms (x ∷ xs) h j k = absurd (omega (arith, j))
tallied-plus n g (p ∷ ps) [] (x ∷ xs) h j k = absurd (omega (arith, k))
tallied-plus n zero (p ∷ ps) (m ∷ ms) (x ∷ xs) h j k = omega (arith, add-mul p 1 x, one-mul x)
tallied-plus n (suc g) (p ∷ ps) (m ∷ ms) (x ∷ xs) h j k = omega (arith, tallied-plus n g ps ms xs (omega (arith, h)) (omega (arith, j)) (omega (arith, k)))

-- one inverse more
tallied-minus : (n g : ℕ) (ps ms xs : List ℕ) → g < length xs → length xs ≤ length ps → length xs ≤ length ms → tallied n ps (set ms g (get_or ms g 0 + 1)) xs ≡ tallied n ps ms xs + (n - get_or xs g 0)
tallied-minus n g ps ms [] h j k = absurd (omega (arith, h))
tallied-minus n g [] ms (x ∷ xs) h j k = absurd (omega (arith, j))
tallied-minus n g (p ∷ ps) [] (x ∷ xs) h j k = absurd (omega (arith, k))
tallied-minus n zero (p ∷ ps) (m ∷ ms) (x ∷ xs) h j k = omega (arith, add-mul m 1 (n - x), one-mul (n - x))
tallied-minus n (suc g) (p ∷ ps) (m ∷ ms) (x ∷ xs) h j k = omega (arith, tallied-minus n g ps ms xs (omega (arith, h)) (omega (arith, j)) (omega (arith, k)))

pub counts_forth : (t : ResidueTuple) (ps ms : List ℕ) (g k : ℕ) (inverse : Bool) (x : ℤ) → number_of g inverse ≡ x → inverse ≡ false → IsTally k ps ms → IsLetterOf (length t.residues) x → length t.residues ≤ 64
    → tallied t.modulus (set ps (g - 1) (get_or ps (g - 1) 0 + 1)) ms t.residues ≡ tallied t.modulus ps ms t.residues + added_by_letter t x
counts_forth t ps ms g k inverse x view sign tally letter few =
    let e : x ≡ pos g = sym view ∙ ap (number_of g) sign in
    let there = subst (λ (y : ℤ). IsLetterOf (length t.residues) y) e letter in
    let place : g ≡ suc (g - 1) = omega (arith, there.least) in
    tallied-plus t.modulus (g - 1) ps ms t.residues (omega (arith, there.least, there.most)) (omega (arith, few, tally.plus_count)) (omega (arith, few, tally.minus_count))
    ∙ ap (λ r. tallied t.modulus ps ms t.residues + r) (sym (ap (residue_of_generator t) place)) ∙ ap (λ (y : ℤ). tallied t.modulus ps ms t.residues + added_by_letter t y) (sym e)

pub counts_back : (t : ResidueTuple) (ps ms : List ℕ) (g k : ℕ) (inverse : Bool) (x : ℤ) → number_of g inverse ≡ x → inverse ≡ true → IsTally k ps ms → IsLetterOf (length t.residues) x → length t.residues ≤ 64
    → tallied t.modulus ps (set ms (g - 1) (get_or ms (g - 1) 0 + 1)) t.residues ≡ tallied t.modulus ps ms t.residues + added_by_letter t x
counts_back t ps ms g k inverse x view sign tally letter few =
    let e : x ≡ negsuc (g - 1) = sym view ∙ ap (number_of g) sign in
    let there = subst (λ (y : ℤ). IsLetterOf (length t.residues) y) e letter in
    tallied-minus t.modulus (g - 1) ps ms t.residues (omega (arith, there.most)) (omega (arith, few, tally.plus_count)) (omega (arith, few, tally.minus_count))
    ∙ ap (λ (y : ℤ). tallied t.modulus ps ms t.residues + added_by_letter t y) (sym e)

pub tallies_none : (ps ms : List ℕ) → ps ≡ replicate 64 0 → ms ≡ replicate 64 0 → Tallies ps ms []
tallies_none ps ms e f t over j k = sym (ap (λ l. tallied t.modulus l ms t.residues) e ∙ ap (λ l. tallied t.modulus (replicate 64 0) l t.residues) f ∙ tallied-zeros t.modulus 64 64 t.residues)

pub tally_none : (ps ms : List ℕ) → ps ≡ replicate 64 0 → ms ≡ replicate 64 0 → IsTally 0 ps ms
tally_none ps ms e f =
    let zeros : All (λ n. n ≤ 0) (replicate 64 0) = All-replicate (λ n. n ≤ 0) 64 0 (omega arith) in
    record { plus_count = ap length e; minus_count = ap length f; plus_most = subst (λ l. All (λ n. n ≤ 0) l) (sym e) zeros; minus_most = subst (λ l. All (λ n. n ≤ 0) l) (sym f) zeros }

-- one letter more is counted
pub tallies_more : (ps ms qs ns : List ℕ) (w : List ℤ) (i k : ℕ) (x : ℤ) → x ≡ get_or w i x → i < length w → IsTally k ps ms
    → ((t : ResidueTuple) → IsLetterOf (length t.residues) x → length t.residues ≤ 64 → tallied t.modulus qs ns t.residues ≡ tallied t.modulus ps ms t.residues + added_by_letter t x)
    → IsTally (k + 1) qs ns → Tallies ps ms (take i w) → Tallies qs ns (take (i + 1) w)
tallies_more ps ms qs ns w i k x is there tally adds new before t over long_plus long_minus =
    let m = length t.residues in
    let few : m ≤ 64 = omega (arith, long_plus, new.plus_count) in
    let all = All-from_recursion (IsLetterOf m) (take (i + 1) w) over in
    let size : length (take (i + 1) w) ≡ i + 1 = length-take-le (i + 1) w (omega (arith, there)) in
    let one : IsLetterOf m x = subst (IsLetterOf m) (get_or-take (i + 1) w i x (omega arith) ∙ sym is) (all i x (omega (arith, size))) in
    let some : IsOver m (take i w) = recursion_from_All (IsLetterOf m) (take i w) (subst (λ l. All (IsLetterOf m) l) (take-take i (i + 1) w (omega arith)) (All-take (IsLetterOf m) i (take (i + 1) w) all)) in
    sum_by_more (added_by_letter t) w i x there ∙ ap (λ (y : ℤ). sum_by (added_by_letter t) (take i w) + added_by_letter t y) (sym is)
    ∙ ap (λ n. n + added_by_letter t x) (before t some (omega (arith, few, tally.plus_count)) (omega (arith, few, tally.minus_count))) ∙ sym (adds t one few)

-- a generator that stands as often as its inverse adds multiples of the modulus
level_adds : (p m x n : ℕ) → p ≡ m → x ≤ n → p * x + m * (n - x) ≡ p * n
level_adds p m x n e h =
    let whole : x + (n - x) ≡ n = omega (arith, h) in
    ap (λ k. p * x + k * (n - x)) (sym e) ∙ sym (mul-add p x (n - x)) ∙ ap (λ k. p * k) whole

-- from a place on every generator stands as often as its inverse
abbrev pub Level : ℕ → List ℕ → List ℕ → ℕ → Type 0
Level reach ps ms generators = (j : ℕ) → reach ≤ j → j < generators → get_or ps j 0 ≡ get_or ms j 0

tallied_alike : (n reach : ℕ) (ps ms xs ys : List ℕ) → length xs ≡ length ys → All (λ x. x < n) xs → All (λ x. x < n) ys → take reach xs ≡ take reach ys → Level reach ps ms (length xs) → tallied n ps ms xs ≡ tallied n ps ms ys
tallied_alike n reach ps ms [] [] e p q same level = refl
tallied_alike n reach ps ms [] (y ∷ ys) e p q same level = absurd (omega (arith, e))
tallied_alike n reach ps ms (x ∷ xs) [] e p q same level = absurd (omega (arith, e))
tallied_alike n reach [] ms (x ∷ xs) (y ∷ ys) e p q same level = refl
tallied_alike n reach (a ∷ ps) [] (x ∷ xs) (y ∷ ys) e p q same level = refl
tallied_alike n zero (a ∷ ps) (b ∷ ms) (x ∷ xs) (y ∷ ys) e p q same level =
    let l = level 0 (omega arith) (omega arith) in
    let rest = tallied_alike n 0 ps ms xs ys (omega (arith, e)) (All-tail (λ z. z < n) x xs p) (All-tail (λ z. z < n) y ys q) refl (λ j h k. level (suc j) (omega arith) (omega (arith, k))) in
    omega (arith, level_adds a b x n l (omega (arith, All-head (λ z. z < n) x xs p)), level_adds a b y n l (omega (arith, All-head (λ z. z < n) y ys q)), rest)
tallied_alike n (suc reach) (a ∷ ps) (b ∷ ms) (x ∷ xs) (y ∷ ys) e p q same level =
    let head : x ≡ y = ap (λ l. get_or l 0 0) same in
    let tail : take reach xs ≡ take reach ys = cc in
    let rest = tallied_alike n reach ps ms xs ys (omega (arith, e)) (All-tail (λ z. z < n) x xs p) (All-tail (λ z. z < n) y ys q) tail (λ j h k. level (suc j) (omega (arith, h)) (omega (arith, k))) in
    ap (λ z. a * z + b * (n - z) + tallied n ps ms xs) head ∙ ap (λ r. a * y + b * (n - y) + r) rest

pub depends_on_first : (generators reach letters : ℕ) (ps ms : List ℕ) (w : List ℤ) → generators ≤ 64 → IsOver generators w → Tallies ps ms w → IsTally letters ps ms → Level reach ps ms generators → DependsOnFirst generators reach w
depends_on_first generators reach letters ps ms w few over tallies tally level s t p q same first =
    let of_s = tallies s (subst (λ m. IsOver m w) (sym p.count) over) (omega (arith, few, p.count, tally.plus_count)) (omega (arith, few, p.count, tally.minus_count)) in
    let of_t = tallies t (subst (λ m. IsOver m w) (sym q.count) over) (omega (arith, few, q.count, tally.plus_count)) (omega (arith, few, q.count, tally.minus_count)) in
    let alike = tallied_alike s.modulus reach ps ms s.residues t.residues (p.count ∙ sym q.count) p.below (subst (λ n. All (λ x. x < n) t.residues) (sym same) q.below) first
    (subst (λ m. Level reach ps ms m) (sym p.count) level) in
    ap (λ k. k % s.modulus) (of_s ∙ alike) ∙ ap (λ n. tallied n ps ms t.residues % n) same ∙ ap (λ k. k % t.modulus) (sym of_t)

-- what a number divides, by a quotient
quotient : (e n : ℕ) → e % n ≡ 0 → e ≡ e / n * n
quotient e n h = omega (arith, div-add-mod' e n, h)

-- a divisor of the exponent sum divides what the generator adds
divides_added : (p m x n : ℕ) → x ≤ n → (p - m + (m - p)) % n ≡ 0 → (a : ℕ) × (p * x + m * (n - x) ≡ a * n)
divides_added p m x n h d =
    let e = p - m + (m - p) in
    let q = e / n in
    let is : e ≡ q * n = quotient e n d in
    let y = n - x in
    elim (cases_lt p m) [
      | inl less ↦
          let f : m ≡ p + e = omega (arith, less) in
          let times : e * y ≡ q * y * n = ap (λ k. k * y) is ∙ mul_assoc q n y ∙ ap (λ k. q * k) (mul_comm n y) ∙ sym (mul_assoc q y n) in
          (p + q * y, ap (λ k. p * x + k * y) f ∙ omega (arith, add-mul p e y, level_adds p p x n refl h, times, add-mul p (q * y) n))
      | inr more ↦
          let f : p ≡ m + e = omega (arith, more) in
          let times : e * x ≡ q * x * n = ap (λ k. k * x) is ∙ mul_assoc q n x ∙ ap (λ k. q * k) (mul_comm n x) ∙ sym (mul_assoc q x n) in
          (m + q * x, ap (λ k. k * x + m * y) f ∙ omega (arith, add-mul m e x, level_adds m m x n refl h, times, add-mul m (q * x) n))
    ]

-- all exponent sums are multiples of a number
abbrev pub Multiples : ℕ → List ℕ → List ℕ → ℕ → Type 0
Multiples n ps ms generators = (j : ℕ) → j < generators → (get_or ps j 0 - get_or ms j 0 + (get_or ms j 0 - get_or ps j 0)) % n ≡ 0

tallied_vanishes : (n : ℕ) (ps ms xs : List ℕ) → All (λ x. x < n) xs → Multiples n ps ms (length xs) → tallied n ps ms xs % n ≡ 0
tallied_vanishes n ps ms [] p d = zero-mod n
tallied_vanishes n [] ms (x ∷ xs) p d = zero-mod n
tallied_vanishes n (a ∷ ps) [] (x ∷ xs) p d = zero-mod n
tallied_vanishes n (a ∷ ps) (b ∷ ms) (x ∷ xs) p d =
    let here = divides_added a b x n (omega (arith, All-head (λ z. z < n) x xs p)) (d 0 (omega arith)) in
    ap (λ k. (k + tallied n ps ms xs) % n) here.1 ∙ mul-add-mod_self_right here.0 n (tallied n ps ms xs) ∙ tallied_vanishes n ps ms xs (All-tail (λ z. z < n) x xs p) (λ j h. d (suc j) (omega (arith, h)))

pub vanishes_with : (generators content letters : ℕ) (ps ms : List ℕ) (w : List ℤ) → generators ≤ 64 → IsOver generators w → Tallies ps ms w → IsTally letters ps ms
    → ((n : ℕ) → 1 ≤ n → content % n ≡ 0 → Multiples n ps ms generators) → VanishesWith generators content w
vanishes_with generators content letters ps ms w few over tallies tally multiples t p divides =
    ap (λ k. k % t.modulus) (tallies t (subst (λ m. IsOver m w) (sym p.count) over) (omega (arith, few, p.count, tally.plus_count)) (omega (arith, few, p.count, tally.minus_count)))
    ∙ tallied_vanishes t.modulus ps ms t.residues p.below (subst (λ m. Multiples t.modulus ps ms m) (sym p.count) (multiples t.modulus (omega (arith, p.proper)) divides))

-- a divisor of two numbers divides a sum of one and multiples of the other
pub divides_sum : (a r b n : ℕ) → r % n ≡ 0 → b % n ≡ 0 → (a * r + b) % n ≡ 0
divides_sum a r b n h k =
    let times : a * r ≡ a * (r / n) * n = ap (λ m. a * m) (quotient r n h) ∙ sym (mul_assoc a (r / n) n) in
    ap (λ m. (m + b) % n) times ∙ mul-add-mod_self_right (a * (r / n)) n b ∙ k

-- what divides both still divides what was divided
pub divides_before : (common rest n : ℕ) → rest % n ≡ 0 → common % rest % n ≡ 0 → common % n ≡ 0
divides_before common rest n h k = ap (λ m. m % n) (sym (div-add-mod' common rest)) ∙ divides_sum (common / rest) rest (common % rest) n h k
