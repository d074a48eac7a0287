use Rattle.std.proofs.Common.{◌≡◌, ℕ, zero, suc, ◌+◌, ◌-◌, ◌*◌, ◌^◌, ◌<◌, ◌≤◌, min, refl, sym, ◌∙◌, ap, inl, inr, arith}
use Rattle.std.proofs.Math.Nat.{mul_comm, suc-mul, mul-suc, pow-suc, pow-zero, one-mul, pow-le-pow_left, pow-le-pow_right, one-le-pow, mul-le-mul, min-le_left}
use Rattle.std.proofs.Math.Numerals.{add-one}
use Rattle.std.proofs.lemmas.Bool.{cases_lt}
use Rattle.mg_numbers.specs.Perms.{factorial, perm_tuples_below}
use Rattle.mg_numbers.specs.Residues.{residue_tuples_below}
use Rattle.mg_numbers.proofs.BlocksRank.{places_below-first, places_below-suc}
use Rattle.mg_numbers.proofs.PermsRank.{factorial-pos, factorial-rises}

-- a number isn't above its power
pub le-pow : (n m : ℕ) → 0 < n → 1 ≤ m → n ≤ n ^ m
le-pow n m positive some =
    let one : n ^ 1 ≡ n = pow-suc n 0 ∙ ap (λ k. k * n) (pow-zero n) ∙ one-mul n in
    omega (arith, one, pow-le-pow_right {n = n} positive {i = 1} {j = m} some)

-- a capped power of a capped number that is below the cap is the power
pub capped_power : (n m cap count : ℕ) → 0 < n → 0 < cap → 1 ≤ m → count ≡ min (min n cap ^ m) cap → count < cap → (count ≡ n ^ m) × (min n cap ≡ n)
capped_power n m cap count positive room some e small =
    let p = min n cap in
    let low = le-pow p m (omega arith) some in
    let whole : p ≡ n = omega (arith, low, e, small) in
    (omega (arith, e, ap (λ k. k ^ m) whole, small), whole)

-- and in any case no more than the power
pub capped_power-le : (n m cap count : ℕ) → count ≡ min (min n cap ^ m) cap → count ≤ n ^ m
capped_power-le n m cap count e = omega (arith, e, pow-le-pow_left {n = min n cap} {m = n} (min-le_left n cap) m)

-- The blocks so far are gone through, and the degree's factorial is known up to 2^64.
pub record ActionLoop (generators number size index perms : ℕ) : Type 0 where
  pub points : 1 ≤ size
  pub small : size ≤ 21
  pub place : perm_tuples_below generators size + index + 1 ≡ number
  pub capped : perms ≡ min (factorial size) (2 ^ 64 - 1)

pub ActionLoop-none : (generators number : ℕ) → 1 ≤ number → ActionLoop generators number 1 (number - 1) 1
ActionLoop-none generators number from_one =
    record {
      points = omega arith;
      small = omega arith;
      place = omega (arith, places_below-first (λ d. factorial d ^ generators) 1);
      capped = refl;
    }

-- how many tuples there are of a degree whose block is passed
pub passed : (generators number size index perms tuples : ℕ) → 1 ≤ generators → number ≤ 2 ^ 62 → ActionLoop generators number size index perms → tuples ≡ min (perms ^ generators) (2 ^ 64 - 1) → tuples ≤ index → (tuples ≡ factorial size ^ generators) × (perms ≡ factorial size) × (size ≤ 20)
passed generators number size index perms tuples some bound l e fits =
    let f = factorial size in
    let positive = factorial-pos size in
    let exact = capped_power f generators (2 ^ 64 - 1) tuples positive (omega arith) some (e ∙ ap (λ p. min (p ^ generators) (2 ^ 64 - 1)) l.capped) (omega (arith, l.place)) in
    let few : f < 2 ^ 62 = omega (arith, le-pow f generators positive some, exact.0, l.place) in
    let small : size ≤ 20 = elim (cases_lt 20 size) [
      | inl more ↦ let k : 21 + (size - 21) ≡ size = omega arith in absurd (omega (arith, factorial-rises 21 (size - 21), ap factorial k, few))
      | inr less ↦ less
    ] in
    (exact.0, l.capped ∙ exact.1, small)

pub ActionLoop-more : (generators number size index perms tuples : ℕ) → 1 ≤ generators → number ≤ 2 ^ 62 → ActionLoop generators number size index perms → tuples ≡ min (perms ^ generators) (2 ^ 64 - 1) → tuples ≤ index → ActionLoop generators number (size + 1) (index - tuples) (min (perms * (size + 1)) (2 ^ 64 - 1))
ActionLoop-more generators number size index perms tuples some bound l e fits =
    let p = passed generators number size index perms tuples some bound l e fits in
    let next : perm_tuples_below generators (size + 1) ≡ perm_tuples_below generators size + factorial size ^ generators = ap (perm_tuples_below generators) (add-one size) ∙ places_below-suc (λ d. factorial d ^ generators) 1 size l.points in
    let product : perms * (size + 1) ≡ factorial (size + 1) = ap (λ n. n * (size + 1)) p.1 ∙ ap (λ k. factorial size * k) (add-one size) ∙ mul_comm (factorial size) (suc size) ∙ ap factorial (sym (add-one size)) in
    record {
      points = omega arith;
      small = omega (arith, p.2);
      place = omega (arith, next, p.0, l.place);
      capped = ap (λ n. min n (2 ^ 64 - 1)) product;
    }

-- the block isn't empty
pub some_tuples : (generators number size index perms tuples : ℕ) → ActionLoop generators number size index perms → tuples ≡ min (perms ^ generators) (2 ^ 64 - 1) → 0 < tuples
some_tuples generators number size index perms tuples l e =
    let p : 0 < perms = omega (arith, l.capped, factorial-pos size) in
    omega (arith, e, one-le-pow generators perms p)

-- a place that is in the capped block is in the block
pub within_block : (generators number size index perms tuples : ℕ) → ActionLoop generators number size index perms → tuples ≡ min (perms ^ generators) (2 ^ 64 - 1) → index < tuples → index < factorial size ^ generators
within_block generators number size index perms tuples l e h =
    omega (arith, h, capped_power-le (factorial size) generators (2 ^ 64 - 1) tuples (e ∙ ap (λ p. min (p ^ generators) (2 ^ 64 - 1)) l.capped))

-- The blocks of residues so far are gone through.
pub record ResidueLoop (generators number size index : ℕ) : Type 0 where
  pub proper : 2 ≤ size
  pub place : residue_tuples_below generators size + index + 1 ≡ number

pub ResidueLoop-none : (generators number : ℕ) → 1 ≤ number → ResidueLoop generators number 2 (number - 1)
ResidueLoop-none generators number from_one =
    record { proper = omega arith; place = omega (arith, places_below-first (λ k. k ^ generators) 2) }

pub residue_tuples_below-suc : (generators n : ℕ) → 2 ≤ n → residue_tuples_below generators (suc n) ≡ residue_tuples_below generators n + n ^ generators
residue_tuples_below-suc generators n h = places_below-suc (λ k. k ^ generators) 2 n h

pub exact_power : (n m count : ℕ) → count ≡ min (n ^ m) (2 ^ 64 - 1) → count < 2 ^ 64 - 1 → count ≡ n ^ m
exact_power n m count e h = omega (arith, e, h)

pub ResidueLoop-more : (generators number size index tuples : ℕ) → number ≤ 2 ^ 62 → ResidueLoop generators number size index → tuples ≡ min (size ^ generators) (2 ^ 64 - 1) → tuples ≤ index → ResidueLoop generators number (size + 1) (index - tuples)
ResidueLoop-more generators number size index tuples bound l e fits =
    let exact = exact_power size generators tuples e (omega (arith, l.place)) in
    let next : residue_tuples_below generators (size + 1) ≡ residue_tuples_below generators size + size ^ generators = ap (residue_tuples_below generators) (add-one size) ∙ residue_tuples_below-suc generators size l.proper in
    record { proper = omega (arith, l.proper); place = omega (arith, next, exact, l.place) }

-- the blocks below a modulus have about half its square, at least
squares_below : (generators k : ℕ) → 1 ≤ generators → suc (suc k) * suc k ≤ 2 * residue_tuples_below generators (suc (suc k)) + 2
squares_below generators zero some = omega arith
squares_below generators (suc k) some =
    let n = suc (suc k) in
    omega (arith, squares_below generators k some, residue_tuples_below-suc generators n (omega arith), le-pow n generators (omega arith) some, suc-mul n n, mul-suc n (suc k))

-- a modulus of 2^32 would have too large a square
too_many : (k size below : ℕ) → suc (suc k) ≡ size + 1 → 2 ^ 32 ≤ size + 1 → suc (suc k) * suc k ≤ 2 * below + 2 → below ≤ 2 ^ 62 → ⊥
too_many k size below s more square few =
    let a : 4294967296 ≤ suc (suc k) = omega arith in
    let b : 4294967295 ≤ suc k = omega arith in
    let big : 4294967296 * 4294967295 ≤ suc (suc k) * suc k = mul-le-mul a b in
    omega arith

-- so the moduli up to the number 2^62 fit
pub small_modulus : (generators number size index tuples : ℕ) → 1 ≤ generators → number ≤ 2 ^ 62 → ResidueLoop generators number size index → tuples ≡ min (size ^ generators) (2 ^ 64 - 1) → tuples ≤ index → size + 1 < 2 ^ 32
small_modulus generators number size index tuples some bound l e fits =
    let next = ResidueLoop-more generators number size index tuples bound l e fits in
    let k = size - 1 in
    let s : suc (suc k) ≡ size + 1 = omega (arith, l.proper) in
    let square = squares_below generators k some in
    elim (cases_lt (size + 1) (2 ^ 32)) [
      | inl less ↦ less
      | inr more ↦ absurd (too_many k size (residue_tuples_below generators (suc (suc k))) s more square (omega (arith, next.place, ap (residue_tuples_below generators) s, bound)))
    ]

pub some_residues : (generators size tuples : ℕ) → 2 ≤ size → tuples ≡ min (size ^ generators) (2 ^ 64 - 1) → 0 < tuples
some_residues generators size tuples proper e = omega (arith, e, one-le-pow generators size (omega arith))
