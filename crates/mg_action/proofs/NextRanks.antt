-- The next permutation in the order: its rank by the images that stay.
use Rattle.std.proofs.Common.{◌≡◌, ◌≢◌, ℕ, zero, suc, ◌+◌, ◌-◌, ◌*◌, ◌/◌, ◌<◌, ◌≤◌, ◌⊎◌, List, [], ◌∷◌, ◌++◌, length, map, take, drop, get_or, swap, All, AllPairs, IsPermutation, IsSorted, nat_cmp, is_lt, false, refl, sym, ◌∙◌, ap, subst, inl, inr, arith}
use Rattle.std.proofs.lemmas.Bool.Decides.{nat_tests}
use Rattle.std.proofs.Math.Nat.{zero-mul, mul_comm, mul_assoc, add-mul, suc-mul}
use Rattle.std.proofs.lemmas.Nat.{div-mul-add}
use Rattle.std.proofs.lemmas.List.{length-map, get_or-map, map-append, take-map, length-append, get_or-append-add}
use Rattle.std.proofs.lemmas.List.Elements.{All-head, All-tail, All-map}
use Rattle.std.proofs.lemmas.Bool.{cases_eq, cases_lt}
use Rattle.std.proofs.lemmas.Cmp.{nat_cmp_total}
use Rattle.std.specs.Cmp.{nat_cmp_is}
use Rattle.std.specs.List.{SwappedAt}
use Rattle.std.specs.declared.cmp.Ordering.TheVariants.{Less}
use Rattle.std.proofs.lemmas.List.Edits.{Swapped, swapped_from_swap, length-swap}
use Rattle.std.proofs.lemmas.List.Sorted.{IsPermutation-keeps, All-permutation, length_permutation, sorted_far, ranks_by}
use Rattle.std.proofs.lemmas.List.{get_or_default, get_or-take, get_or-drop, length-take-le, length-drop, ext_get_or}
use Rattle.std.proofs.Math.Seq.{take-suc}
use Rattle.mg_numbers.specs.Blocks.{Earlier}
use Rattle.mg_numbers.proofs.BlocksNth.{IsNth-rank, number_is}
use Rattle.mg_action.specs.Next.{IsPlaced, IsLeastGreater, behind}
use Rattle.mg_numbers.specs.Perms.{IsPerm, factorial}
use Rattle.mg_numbers.proofs.PermsRank.{unbump, perm_rank, perm_rank-below, factorial-pos, perms_ranking}
use Rattle.mg_action.proofs.Beginnings.{IsMultiple, perm-tail, others, div_multiple, factorial_multiple}
use Rattle.mg_action.proofs.Permutations.{stands}

rank-nil : (d : ℕ) → perm_rank d [] ≡ 0
rank-nil zero = refl
rank-nil (suc d) = refl

unbump-rises : (q x y : ℕ) → q ≢ x → q ≢ y → x < y → unbump q x < unbump q y
unbump-rises q x y a b h = grind (arith, nat_tests)

unbump-level : (q x y : ℕ) → q ≢ x → q ≢ y → x ≤ y → unbump q x ≤ unbump q y
unbump-level q x y a b h = grind (arith, nat_tests)

all_behind : (P : ℕ → Type 0) (b r : List ℕ) → All P (b ++ r) → All P r
all_behind P b r h = λ k e l. subst P (get_or-append-add b r k e) (h (length b + k) e (omega (arith, l, length-append b r)))

-- each of the list is below the first or not below the other
abbrev pub NoneBetween : ℕ → ℕ → List ℕ → Type 0
NoneBetween x y r = All (λ z. (z < x) ⊎ (y ≤ z)) r

-- each is below the next ones
abbrev pub Ascends : List ℕ → Type 0
Ascends s = AllPairs (λ x y. x < y) s

-- what a permutation keeps of its images behind when its first one is taken away
perm-later : (d c : ℕ) (b r : List ℕ) → IsPerm (suc d) (c ∷ b ++ r) → IsPerm d (map (unbump c) b ++ map (unbump c) r)
perm-later d c b r p = subst (IsPerm d) (map-append (unbump c) b r) (perm-tail d c (b ++ r) p)

others_behind : (d c : ℕ) (b r : List ℕ) → IsPerm (suc d) (c ∷ b ++ r) → All (λ z. c ≢ z) r
others_behind d c b r p = all_behind (λ z. c ≢ z) b r (others (suc d) c (b ++ r) p)

-- the first of a permutation's images, where none behind is greater
greatest_at : (d x : ℕ) (r : List ℕ) → IsPerm (suc d) (x ∷ r) → All (λ z. z < x) r → (k : ℕ) → k < suc d → get_or (x ∷ r) k 0 ≡ d → x ≡ d
greatest_at d x r p h zero l e = e
greatest_at d x r p h (suc k) l e = absurd (omega (arith, h k 0 (omega (arith, l, p.count)), e, p.below 0 0 (omega arith)))

greatest : (d x : ℕ) (r : List ℕ) → IsPerm (suc d) (x ∷ r) → All (λ z. z < x) r → x ≡ d
greatest d x r p h = let at = stands (suc d) (x ∷ r) p d (omega arith) in greatest_at d x r p h at.0 at.1 at.2

-- the least of those behind that are greater than the first one is the next number
next_at : (d x y : ℕ) (r : List ℕ) → length (x ∷ r) ≡ suc d → NoneBetween x y r → x < y → (k : ℕ) → k < suc d → get_or (x ∷ r) k 0 ≡ x + 1 → y ≡ x + 1
next_at d x y r count h more zero l e = absurd (omega (arith, e))
next_at d x y r count h more (suc k) l e = elim (h k 0 (omega (arith, l, count))) [ inl less ↦ absurd (omega (arith, less, e)) | inr most ↦ omega (arith, most, e, more) ]

next_one : (d x y : ℕ) (r : List ℕ) → IsPerm (suc d) (x ∷ r) → NoneBetween x y r → x < y → y < suc d → y ≡ x + 1
next_one d x y r p h more below = let at = stands (suc d) (x ∷ r) p (x + 1) (omega (arith, more, below)) in next_at d x y r p.count h more at.0 at.1 at.2

-- the first of images that ascend is 0
least_at : (d x : ℕ) (s : List ℕ) → length (x ∷ s) ≡ suc d → Ascends (x ∷ s) → (k : ℕ) → k < suc d → get_or (x ∷ s) k 0 ≡ 0 → x ≡ 0
least_at d x s count h zero l e = e
least_at d x s count h (suc k) l e = absurd (omega (arith, h 0 (suc k) 0 (omega arith) (omega (arith, l, count)), e))

ascends_map : (c : ℕ) (s : List ℕ) → All (λ z. c ≢ z) s → Ascends s → Ascends (map (unbump c) s)
ascends_map c s other h i j e a b =
    let long : length (map (unbump c) s) ≡ length s = length-map s (unbump c) in
    let k : j < length s = omega (arith, b, long) in
    let m : i < length s = omega (arith, a, k) in
    omega (arith, get_or-map (unbump c) s i e e m, get_or-map (unbump c) s j e e k, unbump-rises c (get_or s i e) (get_or s j e) (other i e m) (other j e k) (h i j e a k))

ascends_tail : (x : ℕ) (s : List ℕ) → Ascends (x ∷ s) → Ascends s
ascends_tail x s h i j e a b = h (suc i) (suc j) e (omega arith) (omega arith)

-- images that ascend are the first of their degree
rank_first : (d : ℕ) (s : List ℕ) → IsPerm d s → Ascends s → perm_rank d s ≡ 0
rank_first zero s p h = refl
rank_first (suc d) [] p h = refl
rank_first (suc d) (x ∷ s) p h =
    let at = stands (suc d) (x ∷ s) p 0 (omega arith) in
    let none : x ≡ 0 = least_at d x s p.count h at.0 at.1 at.2 in
    let rest = rank_first d (map (unbump x) s) (perm-tail d x s p) (ascends_map x s (others (suc d) x s p) (ascends_tail x s h)) in
    let product : x * factorial d ≡ 0 * factorial d = ap (λ n. n * factorial d) none in
    omega (arith, rest, product, zero-mul (factorial d))

-- where the images behind ascend, the rank is that of the images before
pub rank_ascending : (d : ℕ) (b s : List ℕ) → IsPerm d (b ++ s) → Ascends s → perm_rank d (b ++ s) ≡ perm_rank d b
rank_ascending d [] s p h = rank_first d s p h ∙ sym (rank-nil d)
rank_ascending zero (c ∷ b) s p h = refl
rank_ascending (suc d) (c ∷ b) s p h =
    let later = rank_ascending d (map (unbump c) b) (map (unbump c) s) (perm-later d c b s p) (ascends_map c s (others_behind d c b s p) h) in
    ap (λ l. c * factorial d + perm_rank d l) (map-append (unbump c) b s) ∙ ap (λ n. c * factorial d + n) later

-- so many permutations begin with the images up to a place
abbrev pub left_behind : ℕ → List ℕ → ℕ
left_behind d b = factorial (d - length b)

-- where an image is greater than all behind it, no permutation that begins with those before it comes later
pub rank_greatest : (d x : ℕ) (b r : List ℕ) → IsPerm d (b ++ x ∷ r) → All (λ z. z < x) r
    → perm_rank d (b ++ x ∷ []) + factorial (d - length b - 1) ≡ perm_rank d b + factorial (d - length b)
rank_greatest zero x [] r p h = absurd (omega (arith, p.count))
rank_greatest (suc d) x [] r p h =
    let e : x ≡ d = greatest d x r p h in
    let f = factorial d in
    let one : x * f ≡ d * f = ap (λ n. n * f) e in
    let size : factorial (suc d - 0 - 1) ≡ f = (let n : suc d - 0 - 1 ≡ d = omega arith in ap factorial n) in
    let all : factorial (suc d - 0) ≡ suc d * f = (let n : suc d - 0 ≡ suc d = omega arith in ap factorial n) in
    omega (arith, rank-nil d, one, size, all, suc-mul d f)
rank_greatest zero x (c ∷ b) r p h = absurd (omega (arith, p.count))
rank_greatest (suc d) x (c ∷ b) r p h =
    let f = factorial d in
    let xs : List ℕ = map (unbump c) b in
    let long : length xs ≡ length b = length-map b (unbump c) in
    let other = others_behind d c b (x ∷ r) p in
    let below : All (λ z. z < unbump c x) (map (unbump c) r) = All-map (λ z. z < unbump c x) (unbump c) r (λ k e l. unbump-rises c (get_or r k e) x (All-tail (λ z. c ≢ z) x r other k e l) (All-head (λ z. c ≢ z) x r other) (h k e l)) in
    let later = rank_greatest d (unbump c x) xs (map (unbump c) r) (perm-later d c b (x ∷ r) p) below in
    let one : perm_rank (suc d) (c ∷ b ++ x ∷ []) ≡ c * f + perm_rank d (xs ++ unbump c x ∷ []) = ap (λ l. c * f + perm_rank d l) (map-append (unbump c) b (x ∷ [])) in
    let few : factorial (suc d - length (c ∷ b) - 1) ≡ factorial (d - length xs - 1) = (let n : suc d - length (c ∷ b) - 1 ≡ d - length xs - 1 = omega (arith, long) in ap factorial n) in
    let all : factorial (suc d - length (c ∷ b)) ≡ factorial (d - length xs) = (let n : suc d - length (c ∷ b) ≡ d - length xs = omega (arith, long) in ap factorial n) in
    omega (arith, one, few, all, later)

-- the least greater image instead of one makes a step
pub rank_next : (d x y : ℕ) (b r : List ℕ) → IsPerm d (b ++ x ∷ r) → NoneBetween x y r → x < y → (k : ℕ) → k < length r → get_or r k 0 ≡ y
    → perm_rank d (b ++ y ∷ []) ≡ perm_rank d (b ++ x ∷ []) + factorial (d - length b - 1)
rank_next zero x y [] r p h more k l e = absurd (omega (arith, p.count))
rank_next (suc d) x y [] r p h more k l e =
    let f = factorial d in
    let below : y < suc d = omega (arith, p.below (suc k) 0 (omega (arith, l)), e) in
    let next : y ≡ x + 1 = next_one d x y r p h more below in
    let one : y * f ≡ suc x * f = (let n : y ≡ suc x = omega (arith, next) in ap (λ n. n * f) n) in
    let size : factorial (suc d - 0 - 1) ≡ f = (let n : suc d - 0 - 1 ≡ d = omega arith in ap factorial n) in
    omega (arith, rank-nil d, one, size, suc-mul x f)
rank_next zero x y (c ∷ b) r p h more k l e = absurd (omega (arith, p.count))
rank_next (suc d) x y (c ∷ b) r p h more k l e =
    let f = factorial d in
    let xs : List ℕ = map (unbump c) b in
    let long : length xs ≡ length b = length-map b (unbump c) in
    let other = others_behind d c b (x ∷ r) p in
    let not_x : c ≢ x = All-head (λ z. c ≢ z) x r other in
    let rest = All-tail (λ z. c ≢ z) x r other in
    let not_y : c ≢ y = subst (λ z. c ≢ z) e (rest k 0 l) in
    let between : NoneBetween (unbump c x) (unbump c y) (map (unbump c) r) = All-map (λ z. (z < unbump c x) ⊎ (unbump c y ≤ z)) (unbump c) r (λ m a q. elim (h m a q) [
      | inl less ↦ inl (unbump-rises c (get_or r m a) x (rest m a q) not_x less)
      | inr most ↦ inr (unbump-level c y (get_or r m a) not_y (rest m a q) most)
    ]) in
    let later = rank_next d (unbump c x) (unbump c y) xs (map (unbump c) r) (perm-later d c b (x ∷ r) p) between (unbump-rises c x y not_x not_y more) k (omega (arith, l, length-map r (unbump c))) (get_or-map (unbump c) r k 0 0 l ∙ ap (unbump c) e) in
    let one : perm_rank (suc d) (c ∷ b ++ x ∷ []) ≡ c * f + perm_rank d (xs ++ unbump c x ∷ []) = ap (λ l. c * f + perm_rank d l) (map-append (unbump c) b (x ∷ [])) in
    let two : perm_rank (suc d) (c ∷ b ++ y ∷ []) ≡ c * f + perm_rank d (xs ++ unbump c y ∷ []) = ap (λ l. c * f + perm_rank d l) (map-append (unbump c) b (y ∷ [])) in
    let few : factorial (suc d - length (c ∷ b) - 1) ≡ factorial (d - length xs - 1) = (let n : suc d - length (c ∷ b) - 1 ≡ d - length xs - 1 = omega (arith, long) in ap factorial n) in
    omega (arith, one, two, few, later)

-- the rank of the first images is the greatest multiple up to the rank
pub rank_of_first : (d j : ℕ) (xs : List ℕ) → IsPerm d xs → j ≤ d → perm_rank d (take j xs) ≡ perm_rank d xs / factorial (d - j) * factorial (d - j)
rank_of_first d zero xs p h =
    let none : perm_rank d xs / factorial (d - 0) ≡ 0 = (let n : 0 * factorial (d - 0) + perm_rank d xs ≡ perm_rank d xs = omega (arith, zero-mul (factorial (d - 0))) in ap (λ k. k / factorial (d - 0)) (sym n)) ∙ div-mul-add 0 (factorial (d - 0)) (perm_rank d xs) (let n : d ≡ d - 0 = omega arith in subst (λ k. perm_rank d xs < factorial k) n (perm_rank-below d xs p)) in
    rank-nil d ∙ sym (zero-mul (factorial (d - 0))) ∙ ap (λ n. n * factorial (d - 0)) (sym none)
rank_of_first zero (suc j) xs p h = absurd (omega arith)
rank_of_first (suc d) (suc j) [] p h = absurd (omega (arith, p.count))
rank_of_first (suc d) (suc j) (x ∷ xs) p h =
    let w = factorial d in
    let f : ℕ = factorial (d - j) in
    let r : ℕ = perm_rank d (map (unbump x) xs) in
    let m : IsMultiple w f = factorial_multiple d j (omega arith) in
    let c = m.times in
    let shape : w ≡ c * f = m.product ∙ mul_comm f c in
    let later : perm_rank d (take j (map (unbump x) xs)) ≡ r / f * f = rank_of_first d j (map (unbump x) xs) (perm-tail d x xs p) (omega arith) in
    let size : suc d - suc j ≡ d - j = omega arith in
    let quotient : (x * w + r) / f ≡ x * c + r / f = ap (λ n. (x * n + r) / f) shape ∙ ap (λ n. (n + r) / f) (sym (mul_assoc x c f)) ∙ div_multiple (x * c) f r (factorial-pos (d - j)) in
    let whole : (x * w + r) / f * f ≡ x * w + r / f * f = ap (λ n. n * f) quotient ∙ add-mul (x * c) (r / f) f ∙ ap (λ n. n + r / f * f) (mul_assoc x c f ∙ ap (λ n. x * n) (sym shape)) in
    ap (λ l. x * w + perm_rank d l) (sym (take-map (unbump x) j xs)) ∙ ap (λ n. x * w + n) later ∙ sym whole ∙ ap (λ n. (x * w + r) / factorial n * factorial n) (sym size)

-- images in another order
either_way : (xs : List ℕ) → AllPairs (λ x y. x ≢ y) xs → (i j d : ℕ) → i < length xs → j < length xs → get_or xs i d ≡ get_or xs j d → i ≡ j
either_way xs h i j d p q e =
    let not_below : i < j → ⊥ = λ less. h i j d less q e in
    let not_above : j < i → ⊥ = λ less. h j i d less p (sym e) in
    omega arith

-- where a swap of a and b took the element at m from
abbrev From : ℕ → ℕ → ℕ → ℕ → Type 0
From a b m k = ((m ≡ a) × (k ≡ b)) ⊎ (((m ≡ b) × (k ≡ a)) ⊎ ((m ≢ a) × (m ≢ b) × (k ≡ m)))

origin : (f g : ℕ → ℕ) (a b m : ℕ) → Swapped f g a b → (m ≡ a) ⊎ (m ≢ a) → (m ≡ b) ⊎ (m ≢ b) → (k : ℕ) × From a b m k × (g m ≡ f k)
origin f g a b m s (inl e) y = (b, inl (e, refl), ap g e ∙ s.0)
origin f g a b m s (inr n) (inl e) = (a, inr (inl (e, refl)), ap g e ∙ s.1)
origin f g a b m s (inr n) (inr o) = (m, inr (inr (n, o, refl)), s.2 m n o)

apart_swap : (xs : List ℕ) (a b : ℕ) → a < length xs → b < length xs → AllPairs (λ x y. x ≢ y) xs → AllPairs (λ x y. x ≢ y) (swap xs a b)
apart_swap xs a b p q h i j d less within e =
    let len = length-swap xs a b in
    let s = swapped_from_swap xs (swap xs a b) a b d p q refl in
    let x = origin _ _ a b i s (cases_eq i a) (cases_eq i b) in
    let y = origin _ _ a b j s (cases_eq j a) (cases_eq j b) in
    let same = either_way xs h x.0 y.0 d (omega (arith, x.1)) (omega (arith, y.1)) (sym x.2 ∙ e ∙ y.2) in
    omega (arith, x.1, y.1)

pub perm_moved : (d : ℕ) (xs ys : List ℕ) → IsPermutation xs ys → IsPerm d xs → IsPerm d ys
perm_moved d xs ys moved p =
    record {
      count = omega (arith, length_permutation xs ys moved, p.count);
      below = All-permutation (λ x. x < d) xs ys moved p.below;
      once = IsPermutation-keeps xs (λ l. AllPairs (λ x y. x ≢ y) l) p.once apart_swap ys moved;
    }

not_lower : (a b : ℕ) → is_lt (nat_cmp a b) ≡ false → b ≤ a
not_lower a b h = elim (cases_lt a b) [ inl less ↦ (let e : is_lt Less ≡ is_lt (nat_cmp a b) = ap is_lt (nat_cmp_is a b Less less) in absurd cc) | inr more ↦ omega (arith, more) ]

-- sorted images ascend
pub ascends_sorted : (s : List ℕ) → IsSorted nat_cmp s → AllPairs (λ x y. x ≢ y) s → Ascends s
ascends_sorted s up apart i j e a b =
    let level = not_lower (get_or s j e) (get_or s i e) (sorted_far _ (ranks_by nat_cmp_total (λ (y : ℕ). y)) s up i j e (omega (arith, a)) b) in
    let other : get_or s i e ≢ get_or s j e = apart i j e a b in
    omega (arith, level, other)

pub apart_behind : (d : ℕ) (b s : List ℕ) → IsPerm d (b ++ s) → AllPairs (λ x y. x ≢ y) s
apart_behind d b s p i j e a l same =
    p.once (length b + i) (length b + j) e (omega (arith, a)) (omega (arith, l, length-append b s)) (get_or-append-add b s i e ∙ same ∙ sym (get_or-append-add b s j e))

-- the place is the rank
pub place_is : (d n : ℕ) (xs : List ℕ) → IsPlaced d n xs → n ≡ perm_rank d xs
place_is d n xs h = omega (arith, number_is (IsPerm d) Earlier (λ i. i < factorial d) (perms_ranking d) (n + 1) xs h)

pub placed_at : (d n : ℕ) (xs : List ℕ) → IsPerm d xs → perm_rank d xs ≡ n → IsPlaced d n xs
placed_at d n xs p e = subst (λ k. IsPlaced d k xs) e (IsNth-rank (IsPerm d) Earlier (λ i. i < factorial d) (perms_ranking d) xs p)

-- sorted images are the first
pub placed_first : (d : ℕ) (xs : List ℕ) → IsPerm d xs → IsSorted nat_cmp xs → IsPlaced d 0 xs
placed_first d xs p up = placed_at d 0 xs p (rank_first d xs p (ascends_sorted xs up p.once))

behind_is : (d j n : ℕ) (xs : List ℕ) → IsPerm d xs → j ≤ d → IsPlaced d n xs → behind (factorial (d - j)) n ≡ perm_rank d (take j xs) + factorial (d - j)
behind_is d j n xs p h at =
    let f : ℕ = factorial (d - j) in
    let first : perm_rank d (take j xs) ≡ n / f * f = rank_of_first d j xs p h ∙ ap (λ k. k / f * f) (sym (place_is d n xs at)) in
    omega (arith, first, add-mul (n / f) 1 f)

-- the images before a place, that there and those behind
cut_behind : (p : ℕ) (xs : List ℕ) → p < length xs → xs ≡ take p xs ++ get_or xs p 0 ∷ drop (suc p) xs
cut_behind p [] h = absurd (omega arith)
cut_behind zero (x ∷ xs) h = refl
cut_behind (suc p) (x ∷ xs) h = ap (λ l. x ∷ l) (cut_behind p xs (omega arith))

cut_at : (p : ℕ) (xs : List ℕ) → p < length xs → xs ≡ take p xs ++ get_or xs p 0 ∷ drop (p + 1) xs
cut_at p xs h = (let n : suc p ≡ p + 1 = omega arith in subst (λ k. xs ≡ take p xs ++ get_or xs p 0 ∷ drop k xs) n (cut_behind p xs h))

first_more : (p : ℕ) (xs : List ℕ) → p < length xs → take (p + 1) xs ≡ take p xs ++ get_or xs p 0 ∷ []
first_more p xs h = (let n : p + 1 ≡ suc p = omega arith in ap (λ k. take k xs) n) ∙ take-suc xs p 0 h

one_step_less : (d p : ℕ) (xs : List ℕ) → p < d → length xs ≡ d → factorial (d - length (take p xs) - 1) ≡ factorial (d - p - 1)
one_step_less d p xs h e = (let n : d - length (take p xs) - 1 ≡ d - p - 1 = omega (arith, length-take-le p xs (omega (arith, h, e))) in ap factorial n)

-- where an image is the greatest of those from its place on, no place lies behind
pub behind_greatest : (d p n : ℕ) (xs : List ℕ) → IsPerm d xs → p < d → IsLeastGreater xs p d p → IsPlaced d n xs → behind (factorial (d - p - 1)) n ≡ behind (factorial (d - p)) n
behind_greatest d p n xs perm h least at =
    let b : List ℕ = take p xs in
    let x : ℕ = get_or xs p 0 in
    let r : List ℕ = drop (p + 1) xs in
    let there : p < length xs = omega (arith, h, perm.count) in
    let whole = cut_at p xs there in
    let below : All (λ z. z < x) r = λ k e l.
    let m : k + (p + 1) < length xs = omega (arith, l, length-drop (p + 1) xs) in
    let here : get_or r k e ≡ get_or xs (p + 1 + k) 0 = get_or-drop (p + 1) xs k e ∙ get_or_default xs (p + 1 + k) e 0 (omega (arith, m)) in
    let other : x ≢ get_or xs (p + 1 + k) 0 = perm.once p (p + 1 + k) 0 (omega arith) (omega (arith, m)) in
    elim (least.none (p + 1 + k) (omega arith) (omega (arith, m, perm.count))) [ inl less ↦ omega (arith, less, here, other) | inr more ↦ absurd (more.0 refl) ] in
    let step = rank_greatest d x b r (subst (IsPerm d) whole perm) below in
    let few : factorial (d - length b - 1) ≡ factorial (d - p - 1) = one_step_less d p xs h perm.count in
    let all : factorial (d - length b) ≡ factorial (d - p) = (let n : d - length b ≡ d - p = omega (arith, length-take-le p xs (omega (arith, there))) in ap factorial n) in
    let size : factorial (d - (p + 1)) ≡ factorial (d - p - 1) = (let n : d - (p + 1) ≡ d - p - 1 = omega arith in ap factorial n) in
    let left : behind (factorial (d - p - 1)) n ≡ perm_rank d (take (p + 1) xs) + factorial (d - p - 1) = ap (λ f. behind f n) (sym size) ∙ behind_is d (p + 1) n xs perm (omega arith) at ∙ ap (λ f. perm_rank d (take (p + 1) xs) + f) size in
    let right = behind_is d p n xs perm (omega arith) at in
    let more : perm_rank d (take (p + 1) xs) ≡ perm_rank d (b ++ x ∷ []) = ap (perm_rank d) (first_more p xs there) in
    omega (arith, left, right, more, step, few, all)

-- the least greater image at a place, and the rest upwards
pub placed_next : (d p least n : ℕ) (xs ys s zs : List ℕ) → IsPerm d xs → p < d → IsLeastGreater xs p d least → least ≢ p → SwappedAt xs ys p least → length ys ≡ length xs → zs ≡ take (p + 1) ys ++ s
    → IsSorted nat_cmp s → IsPerm d zs → IsPlaced d n xs → IsPlaced d (behind (factorial (d - p - 1)) n) zs
placed_next d p least n xs ys s zs perm h is_least other swapped long new up perm_new at =
    let b : List ℕ = take p xs in
    let x : ℕ = get_or xs p 0 in
    let y : ℕ = get_or xs least 0 in
    let r : List ℕ = drop (p + 1) xs in
    let there : p < length xs = omega (arith, h, perm.count) in
    let whole = cut_at p xs there in
    let l : ℕ = least - (p + 1) in
    let from : p < least = omega (arith, is_least.from, other) in
    let between : NoneBetween x y r = λ k e l.
    let m : k + (p + 1) < length xs = omega (arith, l, length-drop (p + 1) xs) in
    let here : get_or r k e ≡ get_or xs (p + 1 + k) 0 = get_or-drop (p + 1) xs k e ∙ get_or_default xs (p + 1 + k) e 0 (omega (arith, m)) in
    let not_x : x ≢ get_or xs (p + 1 + k) 0 = perm.once p (p + 1 + k) 0 (omega arith) (omega (arith, m)) in
    elim (is_least.none (p + 1 + k) (omega arith) (omega (arith, m, perm.count))) [ inl less ↦ inl (omega (arith, less, here, not_x)) | inr more ↦ inr (omega (arith, more.1, here)) ] in
    let stands_there : get_or r l 0 ≡ y = get_or-drop (p + 1) xs l 0 ∙ (let m : p + 1 + l ≡ least = omega (arith, from) in ap (λ k. get_or xs k 0) m) in
    let step = rank_next d x y b r (subst (IsPerm d) whole perm) between (is_least.greater other) l (omega (arith, from, is_least.within, length-drop (p + 1) xs)) stands_there in
    let few : factorial (d - length b - 1) ≡ factorial (d - p - 1) = one_step_less d p xs h perm.count in
    let size : factorial (d - (p + 1)) ≡ factorial (d - p - 1) = (let n : d - (p + 1) ≡ d - p - 1 = omega arith in ap factorial n) in
    let left : behind (factorial (d - p - 1)) n ≡ perm_rank d (take (p + 1) xs) + factorial (d - p - 1) = ap (λ f. behind f n) (sym size) ∙ behind_is d (p + 1) n xs perm (omega arith) at ∙ ap (λ f. perm_rank d (take (p + 1) xs) + f) size in
    let more : perm_rank d (take (p + 1) xs) ≡ perm_rank d (b ++ x ∷ []) = ap (perm_rank d) (first_more p xs there) in
    let p_ys : p < length ys = omega (arith, there, long) in
    let same_before : take p ys ≡ b = ext_get_or 0 (take p ys) b (omega (arith, length-take-le p ys (omega (arith, p_ys)), length-take-le p xs (omega (arith, there)))) (λ k q.
    let m : k < p = omega (arith, q, length-take-le p ys (omega (arith, p_ys))) in
    get_or-take p ys k 0 m ∙ swapped.2 k 0 (omega (arith, m)) (omega (arith, m, from)) ∙ sym (get_or-take p xs k 0 m)) in
    let first : take (p + 1) ys ≡ b ++ y ∷ [] = first_more p ys p_ys ∙ ap (λ l. l ++ get_or ys p 0 ∷ []) same_before ∙ ap (λ v. b ++ v ∷ []) (swapped.0 0) in
    let shape : zs ≡ (b ++ y ∷ []) ++ s = new ∙ ap (λ l. l ++ s) first in
    let perm_shape = subst (IsPerm d) shape perm_new in
    let rank : perm_rank d zs ≡ perm_rank d (b ++ y ∷ []) = ap (perm_rank d) shape ∙ rank_ascending d (b ++ y ∷ []) s perm_shape (ascends_sorted s up (apart_behind d (b ++ y ∷ []) s perm_shape)) in
    placed_at d (behind (factorial (d - p - 1)) n) zs perm_new (omega (arith, rank, step, few, left, more))
