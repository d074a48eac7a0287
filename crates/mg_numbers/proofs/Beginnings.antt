-- Tuples that begin alike have numbers in a row: a tuple whose number lies in that row begins so.
use Rattle.std.proofs.Common.{◌≡◌, ℕ, zero, suc, ◌+◌, ◌-◌, ◌*◌, ◌/◌, ◌^◌, ◌<◌, ◌≤◌, List, [], ◌∷◌, ◌++◌, length, replicate, All, refl, sym, ◌∙◌, ap, subst, arith, inl, inr}
use Rattle.std.proofs.Math.Nat.{zero-mul, suc-mul, add-mul, mul_assoc, mul-le-mul_right, mul-suc, mul-le-mul}
use Rattle.std.proofs.Math.Numerals.{add-one}
use Rattle.std.proofs.lemmas.Bool.{cases_lt}
use Rattle.std.proofs.lemmas.Nat.{pow-add, div-mul-add}
use Rattle.std.proofs.lemmas.List.{length-append}
use Rattle.std.proofs.lemmas.List.Elements.{All-tail}
use Rattle.mg_numbers.specs.Blocks.{number_in}
use Rattle.mg_numbers.specs.Residues.{ResidueTuple, IsResidueTupleAt, residue_tuples_below}
use Rattle.mg_numbers.proofs.BlocksRank.{one_place}
use Rattle.mg_numbers.proofs.ResiduesRank.{number_in-below}
use Rattle.mg_numbers.proofs.BlocksCounts.{le-pow, residue_tuples_below-suc}
use Rattle.mg_numbers.proofs.ResiduesLaws.{residue_tuple_of_block, one_residue_number}

-- a list begins with another
pub record Begins {A : Type 0} (beginning list : List A) : Type 0 where
  pub rest : List A
  pub whole : list ≡ beginning ++ rest

-- one list that begins so with one member more
begins_cons : {A : Type 0} (x y : A) (b xs : List A) → x ≡ y → Begins b xs → Begins (y ∷ b) (x ∷ xs)
begins_cons x y b xs e h = record { rest = h.rest; whole = let w = h.whole in cc }

-- digits that only zeros follow
pub number_in-zeros : (base k : ℕ) → number_in base (replicate k 0) ≡ 0
number_in-zeros base zero = refl
number_in-zeros base (suc k) = omega (arith, zero-mul (base ^ length (replicate {A = ℕ} k 0)), number_in-zeros base k)

-- digits one list after another
pub number_in-append : (base : ℕ) (xs ys : List ℕ) → number_in base (xs ++ ys) ≡ number_in base xs * base ^ length ys + number_in base ys
number_in-append base [] ys = omega (arith, zero-mul (base ^ length ys))
number_in-append base (d ∷ xs) ys =
    let w = base ^ length ys in
    let long : base ^ length (xs ++ ys) ≡ base ^ length xs * w = ap (λ n. base ^ n) (length-append xs ys) ∙ pow-add base (length xs) (length ys) in
    let first : d * base ^ length (xs ++ ys) ≡ d * base ^ length xs * w = ap (λ n. d * n) long ∙ sym (mul_assoc d (base ^ length xs) w) in
    omega (arith, first, number_in-append base xs ys, add-mul (d * base ^ length xs) (number_in base xs) w)

-- a quotient below which and above which there is no room
pub one_quotient : (a b w r s : ℕ) → r < w → s < w → a * w + r ≡ b * w + s → a ≡ b
one_quotient a b w r s p q e = sym (div-mul-add a w r p) ∙ ap (λ n. n / w) e ∙ div-mul-add b w s q

-- in a base, digits that lie among those that begin so begin so
pub digits_begin : (base left : ℕ) (b xs : List ℕ) → All (λ x. x < base) b → All (λ x. x < base) xs → length xs ≡ length b + left
    → number_in base b * base ^ left ≤ number_in base xs → number_in base xs < number_in base b * base ^ left + base ^ left → Begins b xs
digits_begin base left [] xs p q e low high = record { rest = xs; whole = refl }
digits_begin base left (y ∷ b) [] p q e low high = absurd (omega (arith, e))
digits_begin base left (y ∷ b) (x ∷ xs) p q e low high =
    let v = base ^ left in
    let w = base ^ length b in
    let nb = number_in base b in
    let nx = number_in base xs in
    let few = All-tail (λ z. z < base) x xs q in
    let fewer = All-tail (λ z. z < base) y b p in
    let long : length xs ≡ length b + left = omega (arith, e) in
    let power : base ^ length xs ≡ w * v = ap (λ n. base ^ n) long ∙ pow-add base (length b) left in
    let small : nx < w * v = subst (λ n. nx < n) power (number_in-below base xs few) in
    let b_small : nb < w = number_in-below base b fewer in
    let room : nb * v + v ≤ w * v = omega (arith, suc-mul nb v, mul-le-mul_right {m = suc nb} {n = w} v b_small) in
    let some : 0 < v = omega (arith, low, high) in
    let whole : (y * w + nb) * v ≡ y * (w * v) + nb * v = omega (arith, add-mul (y * w) nb v, mul_assoc y w v) in
    let at : x * base ^ length xs ≡ x * (w * v) = ap (λ n. x * n) power in
    let over : number_in base (x ∷ xs) - y * (w * v) < w * v = omega (arith, whole, high, low, room, at) in
    let same : x ≡ y = one_quotient x y (w * v) nx (number_in base (x ∷ xs) - y * (w * v)) small over (omega (arith, whole, low, at)) in
    let level : x * (w * v) ≡ y * (w * v) = ap (λ n. n * (w * v)) same in
    begins_cons x y b xs same
    (digits_begin base left b xs fewer few long (omega (arith, whole, low, at, level)) (omega (arith, whole, high, at, level)))

-- the number of a tuple of residues, by its modulus and its place there
pub residue_number_is : (m number : ℕ) (t : ResidueTuple) → IsResidueTupleAt m number t → number ≡ residue_tuples_below m t.modulus + number_in t.modulus t.residues + 1
residue_number_is m number t h =
    one_residue_number m number (residue_tuples_below m t.modulus + number_in t.modulus t.residues + 1) t h
    (residue_tuple_of_block m (residue_tuples_below m t.modulus + number_in t.modulus t.residues + 1) t.modulus (number_in t.modulus t.residues) t.residues h.is.proper refl h.is.count h.is.below refl)

-- a number in the block of a modulus is that of a tuple of this modulus
pub residue_modulus_is : (m number modulus : ℕ) (t : ResidueTuple) → IsResidueTupleAt m number t → 2 ≤ modulus → residue_tuples_below m modulus < number
    → number ≤ residue_tuples_below m modulus + modulus ^ m → t.modulus ≡ modulus
residue_modulus_is m number modulus t h proper low high =
    let is = residue_number_is m number t h in
    let below : number_in t.modulus t.residues < t.modulus ^ m = subst (λ n. number_in t.modulus t.residues < t.modulus ^ n) h.is.count (number_in-below t.modulus t.residues h.is.below) in
    (one_place (λ k. k ^ m) 2 (number - 1) t.modulus (number_in t.modulus t.residues) modulus (number - 1 - residue_tuples_below m modulus)
    (record { from_first = h.is.proper; within = below; place = omega (arith, is) })
    (record { from_first = proper; within = omega (arith, low, high); place = omega (arith, low) })).0

-- a number among those of the residues that begin so is that of a tuple that begins so
pub residues_begin : (m number modulus left : ℕ) (b : List ℕ) (t : ResidueTuple) → IsResidueTupleAt m number t → 2 ≤ modulus → All (λ x. x < modulus) b → length b + left ≡ m
    → residue_tuples_below m modulus + number_in modulus b * modulus ^ left < number → number ≤ residue_tuples_below m modulus + number_in modulus b * modulus ^ left + modulus ^ left
    → (t.modulus ≡ modulus) × Begins b t.residues
residues_begin m number modulus left b t h proper below count low high =
    let v = modulus ^ left in
    let power : modulus ^ m ≡ modulus ^ length b * v = ap (λ n. modulus ^ n) (sym count) ∙ pow-add modulus (length b) left in
    let b_small = number_in-below modulus b below in
    let room : number_in modulus b * v + v ≤ modulus ^ m = omega (arith, power, suc-mul (number_in modulus b) v, mul-le-mul_right {m = suc (number_in modulus b)} {n = modulus ^ length b} v b_small) in
    let same = residue_modulus_is m number modulus t h proper (omega (arith, low)) (omega (arith, high, room)) in
    let is : number ≡ residue_tuples_below m modulus + number_in modulus t.residues + 1 = residue_number_is m number t h ∙ ap (λ n. residue_tuples_below m n + number_in n t.residues + 1) same in
    (same, digits_begin modulus left b t.residues below (subst (λ n. All (λ x. x < n) t.residues) same h.is.below) (h.is.count ∙ sym count) (omega (arith, is, low)) (omega (arith, is, high)))

-- the block of a modulus comes behind those of the smaller ones
pub residue_tuples_below-next : (m n : ℕ) → 2 ≤ n → residue_tuples_below m (n + 1) ≡ residue_tuples_below m n + n ^ m
residue_tuples_below-next m n h = ap (residue_tuples_below m) (add-one n) ∙ residue_tuples_below-suc m n h

-- the blocks below a modulus have about half its square, at least
squares : (m k : ℕ) → 1 ≤ m → suc (suc k) * suc k ≤ 2 * residue_tuples_below m (suc (suc k)) + 2
squares m zero some = omega arith
squares m (suc k) some =
    let n = suc (suc k) in
    omega (arith, squares m k some, residue_tuples_below-suc m n (omega arith), le-pow n m (omega arith) some, suc-mul n n, mul-suc n (suc k))

-- so a modulus below whose block there are less than 2^62 tuples fits, and the next one too
pub modulus_fits : (m n : ℕ) → 1 ≤ m → 2 ≤ n → residue_tuples_below m n < 2 ^ 62 → n + 1 < 2 ^ 32
modulus_fits m n some proper few =
    let k = n - 2 in
    let s : suc (suc k) ≡ n = omega (arith, proper) in
    let square = squares m k some in
    let below : residue_tuples_below m (suc (suc k)) ≡ residue_tuples_below m n = ap (residue_tuples_below m) s in
    elim (cases_lt (n + 1) (2 ^ 32)) [
      | inl less ↦ less
      | inr more ↦
          let a : 4294967295 ≤ suc (suc k) = omega arith in
          let b : 4294967294 ≤ suc k = omega arith in
          let big : 4294967295 * 4294967294 ≤ suc (suc k) * suc k = mul-le-mul a b in
          absurd (omega (arith, big, square, below, few))
    ]
