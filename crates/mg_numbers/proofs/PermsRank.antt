use Rattle.std.proofs.Common.{◌≡◌, ◌≢◌, ℕ, zero, suc, ◌+◌, ◌-◌, ◌*◌, ◌/◌, ◌%◌, ◌<◌, ◌≤◌, List, [], ◌∷◌, length, map, get_or, All, cond, ltb, refl, sym, ◌∙◌, ap, subst, inl, inr, arith}
use Rattle.std.proofs.lemmas.Bool.Decides.{nat_tests}
use Rattle.std.proofs.Math.Nat.{mul_comm, mul-pos, suc-mul, add-zero, add-suc, suc_inj, lt_trans, div-add-mod'}
use Rattle.std.proofs.Math.Numerals.{add-one}
use Rattle.std.proofs.lemmas.Nat.{mul-add-lt, div_below, mod_below, div-mul-add, mod-mul-add}
use Rattle.std.proofs.lemmas.List.{length-map, get_or-map}
use Rattle.std.proofs.lemmas.List.Elements.{All-nil, All-cons, All-head, All-tail, All-map, All-weaker}
use Rattle.std.proofs.lemmas.List.Kept.{AllPairs-cons}
use Rattle.mg_numbers.specs.Blocks.{Earlier}
use Rattle.mg_numbers.specs.Perms.{IsPerm, factorial}
use Rattle.mg_numbers.proofs.BlocksNth.{Ranking}
use Rattle.mg_numbers.proofs.BlocksLex.{Earlier-cases, Earlier-head, Earlier-tail, Earlier-nil, Earlier-total}
use Rattle.mg_numbers.proofs.ResiduesRank.{place_lt}

-- the place of x once q is taken as an image too
abbrev pub bump : ℕ → ℕ → ℕ
bump q x = cond (ltb x q) x (x + 1)

-- the place of x among the images other than q
abbrev pub unbump : ℕ → ℕ → ℕ
unbump q x = cond (ltb q x) (x - 1) x

unbump-bump : (q x : ℕ) → unbump q (bump q x) ≡ x
unbump-bump q x = grind (arith, nat_tests)

bump-unbump : (q x : ℕ) → q ≢ x → bump q (unbump q x) ≡ x
bump-unbump q x other = grind (arith, nat_tests)

bump-ne : (q x : ℕ) → q ≢ bump q x
bump-ne q x = grind (arith, nat_tests)

pub bump-below : (q x d : ℕ) → x < d → bump q x < suc d
bump-below q x d h = grind (arith, nat_tests)

unbump-below : (q x d : ℕ) → q < suc d → x < suc d → q ≢ x → unbump q x < d
unbump-below q x d k h other = grind (arith, nat_tests)

unbump-rises : (q x y : ℕ) → q ≢ x → q ≢ y → x < y → unbump q x < unbump q y
unbump-rises q x y a b h = grind (arith, nat_tests)

pub factorial-pos : (n : ℕ) → 0 < factorial n
factorial-pos zero = omega arith
factorial-pos (suc n) = mul-pos (omega arith) (factorial-pos n)

-- how many permutations of the degree come before this image list
abbrev pub perm_rank : ℕ → List ℕ → ℕ
perm_rank zero xs = 0
perm_rank (suc d) [] = 0
perm_rank (suc d) (x ∷ xs) = x * factorial d + perm_rank d (map (unbump x) xs)

-- the image list before which i others come
abbrev pub perm_at : ℕ → ℕ → List ℕ
perm_at zero i = []
perm_at (suc d) i = i / factorial d ∷ map (bump (i / factorial d)) (perm_at d (i % factorial d))

-- what one map does, another undoes
pub map-map_back : {X Y : Type 0} (f : Y → X) (g : X → Y) (xs : List X) → All (λ x. f (g x) ≡ x) xs → map f (map g xs) ≡ xs
map-map_back f g [] h = refl
map-map_back f g (x ∷ xs) h =
    let e = All-head (λ y. f (g y) ≡ y) x xs h in
    let ih = map-map_back f g xs (All-tail (λ y. f (g y) ≡ y) x xs h) in
    cc

-- a map that keeps the order of members keeps the order of lists
Earlier-map : (P : ℕ → Type 0) (f : ℕ → ℕ) (keeps : (x y : ℕ) → P x → P y → x < y → f x < f y) (xs ys : List ℕ) → All P xs → All P ys → Earlier xs ys → Earlier (map f xs) (map f ys)
Earlier-map P f keeps [] [] p q h = h
Earlier-map P f keeps [] (y ∷ ys) p q h = refl
Earlier-map P f keeps (x ∷ xs) [] p q h = absurd cc
Earlier-map P f keeps (x ∷ xs) (y ∷ ys) p q h =
    elim (Earlier-cases x y xs ys h) [
      | inl l ↦ Earlier-head (f x) (f y) (map f xs) (map f ys) (keeps x y (All-head P x xs p) (All-head P y ys q) l)
      | inr (e, r) ↦ Earlier-tail (f x) (f y) (map f xs) (map f ys) (ap f e) (Earlier-map P f keeps xs ys (All-tail P x xs p) (All-tail P y ys q) r)
    ]

-- no later image is the first one
IsPerm-others : (d x : ℕ) (xs : List ℕ) → IsPerm d (x ∷ xs) → All (λ y. x ≢ y) xs
IsPerm-others d x xs p = λ k e l. p.once 0 (suc k) e (omega arith) (omega arith)

-- the images after the first one are a permutation of one point less, by their places among the rest
IsPerm-tail : (d x : ℕ) (xs : List ℕ) → IsPerm (suc d) (x ∷ xs) → IsPerm d (map (unbump x) xs)
IsPerm-tail d x xs p =
    let others = IsPerm-others (suc d) x xs p in
    record {
      count = length-map xs (unbump x) ∙ suc_inj p.count;
      below = All-map (λ y. y < d) (unbump x) xs (λ k e l. unbump-below x (get_or xs k e) d (p.below 0 e (omega arith)) (p.below (suc k) e (omega arith)) (others k e l));
      once = λ i j e a b same.
          let long : length (map (unbump x) xs) ≡ length xs = length-map xs (unbump x) in
          let k : j < length xs = omega (arith, b, long) in
          let m : i < length xs = omega (arith, a, k) in
          p.once (suc i) (suc j) e (omega (arith, a)) (omega (arith, k)) (sym (bump-unbump x (get_or xs i e) (others i e m)) ∙ ap (bump x) (sym (get_or-map (unbump x) xs i e e m) ∙ same ∙ get_or-map (unbump x) xs j e e k) ∙ bump-unbump x (get_or xs j e) (others j e k));
    }

-- an image put before a permutation, whose images make room for it
pub IsPerm-cons : (d q : ℕ) (xs : List ℕ) → q < suc d → IsPerm d xs → IsPerm (suc d) (q ∷ map (bump q) xs)
IsPerm-cons d q xs l p =
    record {
      count = ap suc (length-map xs (bump q) ∙ p.count);
      below = All-cons (λ y. y < suc d) q (map (bump q) xs) l (All-map (λ y. y < suc d) (bump q) xs (λ k e h. bump-below q (get_or xs k e) d (p.below k e h)));
      once = AllPairs-cons (λ x y. x ≢ y) q (map (bump q) xs) (All-map (λ y. q ≢ y) (bump q) xs (λ k e h. bump-ne q (get_or xs k e))) (λ i j e a b same.
          let long : length (map (bump q) xs) ≡ length xs = length-map xs (bump q) in
          let k : j < length xs = omega (arith, b, long) in
          let m : i < length xs = omega (arith, a, k) in
          p.once i j e a k (sym (unbump-bump q (get_or xs i e)) ∙ ap (unbump q) (sym (get_or-map (bump q) xs i e e m) ∙ same ∙ get_or-map (bump q) xs j e e k) ∙ unbump-bump q (get_or xs j e)));
    }

pub perm_rank-below : (d : ℕ) (xs : List ℕ) → IsPerm d xs → perm_rank d xs < factorial d
perm_rank-below zero xs p = omega arith
perm_rank-below (suc d) [] p = factorial-pos (suc d)
perm_rank-below (suc d) (x ∷ xs) p =
    let f = factorial d in
    let r = perm_rank d (map (unbump x) xs) in
    subst (λ n. x * f + r < n) (mul_comm f (suc d)) (mul-add-lt x f r (suc d) (All-head (λ y. y < suc d) x xs p.below) (perm_rank-below d (map (unbump x) xs) (IsPerm-tail d x xs p)))

-- the first image is a point
first_below : (d i : ℕ) → i < factorial (suc d) → i / factorial d < suc d
first_below d i h = div_below i (factorial d) (suc d) (factorial-pos d) h

pub IsPerm-perm_at : (d i : ℕ) → i < factorial d → IsPerm d (perm_at d i)
IsPerm-perm_at zero i h = record { count = refl; below = All-nil (λ x. x < 0); once = λ i j e a b same. omega (arith, b) }
IsPerm-perm_at (suc d) i h =
    IsPerm-cons d (i / factorial d) (perm_at d (i % factorial d)) (first_below d i h) (IsPerm-perm_at d (i % factorial d) (mod_below i (factorial d) (factorial-pos d)))

pub perm_at-perm_rank : (d : ℕ) (xs : List ℕ) → IsPerm d xs → perm_at d (perm_rank d xs) ≡ xs
perm_at-perm_rank zero [] p = refl
perm_at-perm_rank zero (x ∷ xs) p = absurd (omega (arith, p.count))
perm_at-perm_rank (suc d) [] p = absurd (omega (arith, p.count))
perm_at-perm_rank (suc d) (x ∷ xs) p =
    let f = factorial d in
    let ys = map (unbump x) xs in
    let r = perm_rank d ys in
    let q = IsPerm-tail d x xs p in
    let low = perm_rank-below d ys q in
    ap (λ n. n ∷ map (bump n) (perm_at d ((x * f + r) % f))) (div-mul-add x f r low) ∙ ap (λ n. x ∷ map (bump x) (perm_at d n)) (mod-mul-add x f r low) ∙ ap (λ l. x ∷ map (bump x) l) (perm_at-perm_rank d ys q) ∙ ap (λ l. x ∷ l) (map-map_back (bump x) (unbump x) xs (All-weaker (λ y. x ≢ y) (λ y. bump x (unbump x y) ≡ y) (bump-unbump x) xs (IsPerm-others (suc d) x xs p)))

pub perm_rank-perm_at : (d i : ℕ) → i < factorial d → perm_rank d (perm_at d i) ≡ i
perm_rank-perm_at zero i h = omega arith
perm_rank-perm_at (suc d) i h =
    let f = factorial d in
    let q = i / f in
    let r = i % f in
    ap (λ l. q * f + perm_rank d l) (map-map_back (unbump q) (bump q) (perm_at d r) (λ k e l. unbump-bump q (get_or (perm_at d r) k e))) ∙ ap (λ n. q * f + n) (perm_rank-perm_at d r (mod_below i f (factorial-pos d))) ∙ div-add-mod' i f

-- behind one first image the order is that of the rest
rises_in_tail : (d x y : ℕ) (xs ys : List ℕ) → IsPerm (suc d) (x ∷ xs) → IsPerm (suc d) (y ∷ ys) → x ≡ y → Earlier xs ys → (Earlier (map (unbump x) xs) (map (unbump y) ys) → perm_rank d (map (unbump x) xs) < perm_rank d (map (unbump y) ys)) → x * factorial d + perm_rank d (map (unbump x) xs) < y * factorial d + perm_rank d (map (unbump y) ys)
rises_in_tail d x y xs ys p q e r below =
    let others : All (λ z. x ≢ z) ys = subst (λ w. All (λ z. w ≢ z) ys) (sym e) (IsPerm-others (suc d) y ys q) in
    let mapped : Earlier (map (unbump x) xs) (map (unbump x) ys) = Earlier-map (λ z. x ≢ z) (unbump x) (unbump-rises x) xs ys (IsPerm-others (suc d) x xs p) others r in
    let low = below (subst (λ w. Earlier (map (unbump x) xs) (map (unbump w) ys)) e mapped) in
    omega (arith, low, ap (λ w. w * factorial d) e)

pub perm_rank-rises : (d : ℕ) (xs ys : List ℕ) → IsPerm d xs → IsPerm d ys → Earlier xs ys → perm_rank d xs < perm_rank d ys
perm_rank-rises zero [] ys p q h = absurd (Earlier-nil ys q.count h)
perm_rank-rises zero (x ∷ xs) ys p q h = absurd (omega (arith, p.count))
perm_rank-rises (suc d) [] ys p q h = absurd (omega (arith, p.count))
perm_rank-rises (suc d) (x ∷ xs) [] p q h = absurd (omega (arith, q.count))
perm_rank-rises (suc d) (x ∷ xs) (y ∷ ys) p q h =
    let f = factorial d in
    elim (Earlier-cases x y xs ys h) [
      | inl l ↦ place_lt x y f (perm_rank d (map (unbump x) xs)) (perm_rank d (map (unbump y) ys)) l (perm_rank-below d (map (unbump x) xs) (IsPerm-tail d x xs p))
      | inr (e, r) ↦ rises_in_tail d x y xs ys p q e r (perm_rank-rises d (map (unbump x) xs) (map (unbump y) ys) (IsPerm-tail d x xs p) (IsPerm-tail d y ys q))
    ]

-- image lists in lexicographic order are numbered by how many come before
abbrev pub perms_ranking : (d : ℕ) → Ranking (IsPerm d) Earlier (λ i. i < factorial d)
perms_ranking d =
    record {
      rank = perm_rank d;
      nth = perm_at d;
      fits = perm_rank-below d;
      is = IsPerm-perm_at d;
      back = perm_at-perm_rank d;
      forth = perm_rank-perm_at d;
      rises = perm_rank-rises d;
      total = λ xs ys p q. Earlier-total xs ys (p.count ∙ sym q.count);
      lower = λ i j below fits. lt_trans below fits;
    }

-- more points have no fewer permutations
pub factorial-rises : (n k : ℕ) → factorial n ≤ factorial (n + k)
factorial-rises n zero = omega (arith, ap factorial (add-zero n))
factorial-rises n (suc k) = omega (arith, factorial-rises n k, ap factorial (add-suc n k), suc-mul (n + k) (factorial (n + k)))

-- and of more points up to 21 no more than this
pub factorial-fits : (n : ℕ) → n ≤ 21 → factorial n ≤ 51090942171709440000
factorial-fits n h =
    let e : n + (21 - n) ≡ 21 = omega arith in
    omega (arith, factorial-rises n (21 - n), ap factorial e)

-- one point more
pub factorial-more : (count n next : ℕ) → count ≡ factorial n → next ≡ n + 1 → count * next ≡ factorial (n + 1)
factorial-more count n next e f =
    let s : next ≡ suc n = omega (arith, f) in
    ap (λ c. c * next) e ∙ ap (λ k. factorial n * k) s ∙ mul_comm (factorial n) (suc n) ∙ ap factorial (sym (add-one n))
