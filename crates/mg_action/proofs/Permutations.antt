-- Permutations as image lists: each point stands somewhere, products and inverses.
use Rattle.std.proofs.Common.{◌≡◌, ◌≢◌, ℕ, zero, suc, ◌+◌, ◌/◌, ◌%◌, ◌<◌, List, length, get_or, set, All, sym, ap, subst, ◌∙◌, inl, inr, arith}
use Rattle.std.specs.Prelude.{◌==◌}
use Rattle.std.specs.List.{position_or_len}
use Rattle.std.proofs.lemmas.Bool.Decides.{nat_tests, eqb_tells}
use Rattle.std.proofs.lemmas.Bool.{cases_lt}
use Rattle.std.proofs.lemmas.Nat.{div_below, mod_below}
use Rattle.std.proofs.lemmas.List.{get_or-set_same, get_or-set_other, length-map, get_or-map, get_or_default, ext_get_or}
use Rattle.std.proofs.lemmas.List.Elements.{All-from_get_or}
use Rattle.std.proofs.lemmas.List.FromFn.{length-range_with_len, get_or-range_with_len, length-map-range_with_len, get_or-map-range_with_len}
use Rattle.std.proofs.lemmas.List.Sums.{position_or_len_is}
use Rattle.mg_numbers.specs.Perms.{IsPerm, factorial}
use Rattle.mg_numbers.proofs.PermsRank.{bump, unbump, factorial-pos, perm_rank, perm_at, perm_rank-below, perm_at-perm_rank, IsPerm-perm_at}
use Rattle.mg_action.specs.Permutation.{identity, product_of, inverse_of}
use Rattle.mg_action.specs.Layout.{PlacesUpTo}

-- the place at which a point stands
abbrev pub place_of : List ℕ → ℕ → ℕ
place_of xs point = position_or_len (λ x. x == point) xs

-- two lists of one length with the same images are one
pub same_points : (d : ℕ) (xs ys : List ℕ) → length xs ≡ d → length ys ≡ d → ((k : ℕ) → k < d → get_or xs k 0 ≡ get_or ys k 0) → xs ≡ ys
same_points d xs ys e f same = ext_get_or 0 xs ys (e ∙ sym f) (λ k h. same k (omega arith))

-- a permutation by its images
perm_from : (d : ℕ) (xs : List ℕ) → length xs ≡ d → ((k : ℕ) → k < d → get_or xs k 0 < d) → ((i j : ℕ) → i < j → j < d → get_or xs i 0 ≢ get_or xs j 0) → IsPerm d xs
perm_from d xs e below apart =
    record {
      count = e;
      below = All-from_get_or (λ x. x < d) xs 0 (λ k h. below k (omega arith));
      once = λ i j v a b same. apart i j a (omega arith) (get_or_default xs i 0 v (omega arith) ∙ same ∙ get_or_default xs j v 0 b);
    }

pub perm-below : (d : ℕ) (xs : List ℕ) → IsPerm d xs → (k : ℕ) → k < d → get_or xs k 0 < d
perm-below d xs p k h = p.below k 0 (omega (arith, p.count))

perm-apart : (d : ℕ) (xs : List ℕ) → IsPerm d xs → (i j : ℕ) → i < j → j < d → get_or xs i 0 ≢ get_or xs j 0
perm-apart d xs p i j h k = p.once i j 0 h (omega (arith, p.count))

-- the point at a place stands there
pub place-at : (d : ℕ) (xs : List ℕ) → IsPerm d xs → (k : ℕ) → k < d → place_of xs (get_or xs k 0) ≡ k
place-at d xs p k h =
    position_or_len_is (λ x. x == get_or xs k 0) xs k 0 (omega (arith, p.count)) (λ j below. let other = perm-apart d xs p j k below h in grind (arith, nat_tests)) (λ _. grind (arith, nat_tests))

-- in the image list of each number every point stands somewhere
stands_at : (d i p : ℕ) → i < factorial d → p < d → (k : ℕ) × (k < d) × (get_or (perm_at d i) k 0 ≡ p)
stands_at zero i p h l = absurd (omega arith)
stands_at (suc d) i p h l =
    let q = i / factorial d in
    let r = i % factorial d in
    let xs = perm_at d r in
    let top : q < suc d = div_below i (factorial d) (suc d) (factorial-pos d) h in
    elim (eqb_tells q p) [
      | inl (t, e) ↦ (0, omega arith, e)
      | inr (t, other) ↦
          let below : unbump q p < d = grind (arith, nat_tests) in
          let back : bump q (unbump q p) ≡ p = grind (arith, nat_tests) in
          let there = stands_at d r (unbump q p) (mod_below i (factorial d) (factorial-pos d)) below in
          (suc there.0, omega (arith, there.1), get_or-map (bump q) xs there.0 0 0 (omega (arith, there.1, (IsPerm-perm_at d r (mod_below i (factorial d) (factorial-pos d))).count)) ∙ ap (bump q) there.2 ∙ back)
    ]

-- so every point stands somewhere in a permutation
pub stands : (d : ℕ) (xs : List ℕ) → IsPerm d xs → (p : ℕ) → p < d → (k : ℕ) × (k < d) × (get_or xs k 0 ≡ p)
stands d xs perm p l =
    subst (λ ys. (k : ℕ) × (k < d) × (get_or ys k 0 ≡ p)) (perm_at-perm_rank d xs perm) (stands_at d (perm_rank d xs) p (perm_rank-below d xs perm) l)

pub place-below : (d : ℕ) (xs : List ℕ) → IsPerm d xs → (p : ℕ) → p < d → place_of xs p < d
place-below d xs perm p l =
    let there = stands d xs perm p l in
    omega (arith, there.1, sym (ap (place_of xs) there.2) ∙ place-at d xs perm there.0 there.1)

pub at-place : (d : ℕ) (xs : List ℕ) → IsPerm d xs → (p : ℕ) → p < d → get_or xs (place_of xs p) 0 ≡ p
at-place d xs perm p l =
    let there = stands d xs perm p l in
    ap (λ k. get_or xs k 0) (sym (ap (place_of xs) there.2) ∙ place-at d xs perm there.0 there.1) ∙ there.2

-- the identity
pub at-identity : (d k : ℕ) → k < d → get_or (identity d) k 0 ≡ k
at-identity d k h = omega (arith, get_or-range_with_len 0 d k 0 h)

pub IsPerm-identity : (d : ℕ) → IsPerm d (identity d)
IsPerm-identity d =
    perm_from d (identity d) (length-range_with_len 0 d) (λ k h. omega (arith, at-identity d k h)) (λ i j a b same. omega (arith, a, at-identity d i (omega arith), at-identity d j b, same))

-- products
pub at-product : (d : ℕ) (xs ys : List ℕ) → IsPerm d xs → (k : ℕ) → k < d → get_or (product_of xs ys) k 0 ≡ get_or ys (get_or xs k 0) 0
at-product d xs ys p k h = get_or-map (λ x. get_or ys x 0) xs k 0 0 (omega (arith, p.count))

length-product : (d : ℕ) (xs ys : List ℕ) → IsPerm d xs → length (product_of xs ys) ≡ d
length-product d xs ys p = length-map xs (λ x. get_or ys x 0) ∙ p.count

pub IsPerm-product : (d : ℕ) (xs ys : List ℕ) → IsPerm d xs → IsPerm d ys → IsPerm d (product_of xs ys)
IsPerm-product d xs ys p q =
    perm_from d (product_of xs ys) (length-product d xs ys p)
    (λ k h. subst (λ n. n < d) (sym (at-product d xs ys p k h)) (perm-below d ys q (get_or xs k 0) (perm-below d xs p k h)))
    (λ i j a b same.
    let l : i < d = omega arith in
    let e : get_or ys (get_or xs i 0) 0 ≡ get_or ys (get_or xs j 0) 0 = sym (at-product d xs ys p i l) ∙ same ∙ at-product d xs ys p j b in
    perm-apart d xs p i j a b (sym (place-at d ys q (get_or xs i 0) (perm-below d xs p i l)) ∙ ap (place_of ys) e ∙ place-at d ys q (get_or xs j 0) (perm-below d xs p j b)))

pub product-identity_left : (d : ℕ) (xs : List ℕ) → IsPerm d xs → product_of (identity d) xs ≡ xs
product-identity_left d xs p =
    same_points d (product_of (identity d) xs) xs (length-product d (identity d) xs (IsPerm-identity d)) p.count (λ k h. at-product d (identity d) xs (IsPerm-identity d) k h ∙ ap (λ n. get_or xs n 0) (at-identity d k h))

pub product-identity_right : (d : ℕ) (xs : List ℕ) → IsPerm d xs → product_of xs (identity d) ≡ xs
product-identity_right d xs p =
    same_points d (product_of xs (identity d)) xs (length-product d xs (identity d) p) p.count (λ k h. at-product d xs (identity d) p k h ∙ at-identity d (get_or xs k 0) (perm-below d xs p k h))

pub product-assoc : (d : ℕ) (xs ys zs : List ℕ) → IsPerm d xs → IsPerm d ys → product_of (product_of xs ys) zs ≡ product_of xs (product_of ys zs)
product-assoc d xs ys zs p q =
    let both = IsPerm-product d xs ys p q in
    same_points d (product_of (product_of xs ys) zs) (product_of xs (product_of ys zs)) (length-product d (product_of xs ys) zs both) (length-product d xs (product_of ys zs) p)
    (λ k h. at-product d (product_of xs ys) zs both k h ∙ ap (λ n. get_or zs n 0) (at-product d xs ys p k h) ∙ sym (at-product d xs (product_of ys zs) p k h ∙ at-product d ys zs q (get_or xs k 0) (perm-below d xs p k h)))

-- inverses
pub length-inverse : (xs : List ℕ) → length (inverse_of xs) ≡ length xs
length-inverse xs = length-map-range_with_len (place_of xs) 0 (length xs)

pub at-inverse : (xs : List ℕ) (k : ℕ) → k < length xs → get_or (inverse_of xs) k 0 ≡ place_of xs k
at-inverse xs k h = get_or-map-range_with_len (place_of xs) 0 (length xs) k k 0 h (omega arith)

-- the inverse takes the image of a point back
pub inverse-at : (d : ℕ) (xs : List ℕ) → IsPerm d xs → (k : ℕ) → k < d → get_or (inverse_of xs) (get_or xs k 0) 0 ≡ k
inverse-at d xs p k h = at-inverse xs (get_or xs k 0) (omega (arith, p.count, perm-below d xs p k h)) ∙ place-at d xs p k h

pub IsPerm-inverse : (d : ℕ) (xs : List ℕ) → IsPerm d xs → IsPerm d (inverse_of xs)
IsPerm-inverse d xs p =
    perm_from d (inverse_of xs) (length-inverse xs ∙ p.count)
    (λ k h. subst (λ n. n < d) (sym (at-inverse xs k (omega (arith, p.count)))) (place-below d xs p k h))
    (λ i j a b same.
    let l : i < d = omega arith in
    let e : place_of xs i ≡ place_of xs j = sym (at-inverse xs i (omega (arith, p.count))) ∙ same ∙ at-inverse xs j (omega (arith, p.count)) in
    omega (arith, a, sym (at-place d xs p i l) ∙ ap (λ n. get_or xs n 0) e ∙ at-place d xs p j b))

pub product-inverse_right : (d : ℕ) (xs : List ℕ) → IsPerm d xs → product_of xs (inverse_of xs) ≡ identity d
product-inverse_right d xs p =
    same_points d (product_of xs (inverse_of xs)) (identity d) (length-product d xs (inverse_of xs) p) (length-range_with_len 0 d) (λ k h. at-product d xs (inverse_of xs) p k h ∙ inverse-at d xs p k h ∙ sym (at-identity d k h))

pub product-inverse_left : (d : ℕ) (xs : List ℕ) → IsPerm d xs → product_of (inverse_of xs) xs ≡ identity d
product-inverse_left d xs p =
    let q = IsPerm-inverse d xs p in
    same_points d (product_of (inverse_of xs) xs) (identity d) (length-product d (inverse_of xs) xs q) (length-range_with_len 0 d)
    (λ k h. at-product d (inverse_of xs) xs q k h ∙ ap (λ n. get_or xs n 0) (at-inverse xs k (omega (arith, p.count))) ∙ at-place d xs p k h ∙ sym (at-identity d k h))

-- a list that takes each image back is the inverse
pub inverse_from : (d : ℕ) (xs ys : List ℕ) → IsPerm d xs → length ys ≡ d → ((k : ℕ) → k < d → get_or ys (get_or xs k 0) 0 ≡ k) → ys ≡ inverse_of xs
inverse_from d xs ys p e back =
    same_points d ys (inverse_of xs) e (length-inverse xs ∙ p.count)
    (λ k h. ap (λ n. get_or ys n 0) (sym (at-place d xs p k h)) ∙ back (place_of xs k) (place-below d xs p k h) ∙ sym (at-inverse xs k (omega (arith, p.count))))

-- a place at which an image of a permutation stands is its place
pub same_place : (d : ℕ) (xs places : List ℕ) (k : ℕ) → IsPerm d xs → PlacesUpTo d xs places → k < d → get_or places (get_or xs k 0) 0 ≡ k
same_place d xs places k p at h =
    let j : ℕ = get_or places (get_or xs k 0) 0 in
    sym (place-at d xs p j (at k h).0) ∙ ap (place_of xs) (at k h).1 ∙ place-at d xs p k h

pub places_inverse : (d : ℕ) (xs places : List ℕ) → IsPerm d xs → length places ≡ d → PlacesUpTo d xs places → places ≡ inverse_of xs
places_inverse d xs places p e at = inverse_from d xs places p e (λ k h. same_place d xs places k p at h)

-- the place of one more number is put
pub places_more : (xs places : List ℕ) (n : ℕ) → All (λ x. x < length xs) xs → length places ≡ length xs → n < length xs → PlacesUpTo n xs places → PlacesUpTo (n + 1) xs (set places (get_or xs n 0) n)
places_more xs places n below e h at k l =
    let x : ℕ = get_or xs n 0 in
    elim (eqb_tells (get_or xs k 0) x) [
      | inl (t, same) ↦
          let put : get_or (set places x n) (get_or xs k 0) 0 ≡ n = ap (λ y. get_or (set places x n) y 0) same ∙ get_or-set_same places x n 0 (omega (arith, below n 0 h)) in
          (omega (arith, put), ap (λ j. get_or xs j 0) put ∙ sym same)
      | inr (t, other) ↦
          let before : k < n = elim (cases_lt k n) [ inl less ↦ less | inr more ↦ absurd (other (let last : k ≡ n = omega arith in ap (λ j. get_or xs j 0) last)) ] in
          let kept : get_or (set places x n) (get_or xs k 0) 0 ≡ get_or places (get_or xs k 0) 0 = get_or-set_other places x (get_or xs k 0) n 0 other in
          (omega (arith, kept, (at k before).0), ap (λ j. get_or xs j 0) kept ∙ (at k before).1)
    ]
