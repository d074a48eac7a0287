-- Tuples of permutations whose places have one quotient by the number of tuples that begin alike begin alike.
use Rattle.std.proofs.Common.{◌≡◌, ◌≢◌, ℕ, zero, suc, ◌+◌, ◌-◌, ◌*◌, ◌/◌, ◌%◌, ◌^◌, ◌<◌, ◌≤◌, List, [], ◌∷◌, ◌++◌, length, map, take, get_or, All, refl, sym, ◌∙◌, ap, subst, arith}
use Rattle.std.specs.List.{concat}
use Rattle.std.proofs.Math.Nat.{add-zero, add-suc, suc_inj, suc-mul, add-mul, mul_comm, mul_assoc, mul-pos, mul-le-mul_right, pow-suc, pow-zero, one-le-pow, div-add-mod', div-div-eq-div-mul}
use Rattle.std.proofs.lemmas.Nat.{pow-add, div_below, mod_below, div-mul-add, mod-mul-add}
use Rattle.std.proofs.lemmas.Bool.Decides.{nat_tests}
use Rattle.std.proofs.lemmas.List.{length-map, get_or-map, take-map, take-append-le}
use Rattle.std.proofs.Math.Seq.{take-append-add}
use Rattle.std.proofs.lemmas.List.Elements.{All-head, All-tail, All-map, All-weaker}
use Rattle.mg_numbers.specs.Blocks.{number_in}
use Rattle.mg_numbers.specs.Perms.{IsPerm, factorial}
use Rattle.mg_numbers.proofs.PermsRank.{bump, unbump, map-map_back, perm_rank, perm_rank-below, perm_at, perm_at-perm_rank, factorial-pos}

swapped : (f p c q : ℕ) → f * p * (c * q) ≡ f * c * (p * q)
swapped f p c q = mul_assoc f p (c * q) ∙ ap (λ n. f * n) (sym (mul_assoc p c q) ∙ ap (λ n. n * q) (mul_comm p c) ∙ mul_assoc c p q) ∙ sym (mul_assoc f c (p * q))

-- a number is a multiple of another
pub record IsMultiple (w f : ℕ) : Type 0 where
  pub times : ℕ
  pub some : 0 < times
  pub product : w ≡ f * times

factorial_more : (k e : ℕ) → IsMultiple (factorial (k + e)) (factorial k)
factorial_more k zero = record { times = 1; some = omega arith; product = omega (arith, ap factorial (add-zero k)) }
factorial_more k (suc e) =
    let h = factorial_more k e in
    let n : ℕ = suc (k + e) in
    record {
      times = n * h.times;
      some = mul-pos (omega arith) h.some;
      product = ap factorial (add-suc k e) ∙ ap (λ x. n * x) h.product ∙ sym (mul_assoc n (factorial k) h.times) ∙ ap (λ x. x * h.times) (mul_comm n (factorial k)) ∙ mul_assoc (factorial k) n h.times;
    }

pub factorial_multiple : (d j : ℕ) → j ≤ d → IsMultiple (factorial d) (factorial (d - j))
factorial_multiple d j h =
    let m = factorial_more (d - j) j in
    let e : d - j + j ≡ d = omega arith in
    record { times = m.times; some = m.some; product = ap factorial (sym e) ∙ m.product }

-- all tuples are a multiple of those that begin alike
pub tuples_multiple : (d j m l : ℕ) → j ≤ d → l < m → IsMultiple (factorial d ^ m) (factorial (d - j) * factorial d ^ (m - 1 - l))
tuples_multiple d j m l h k =
    let f = factorial d in
    let e : ℕ = m - 1 - l in
    let p : ℕ = f ^ e in
    let q : ℕ = f ^ l in
    let one = factorial_multiple d j h in
    let sum : m ≡ e + suc l = omega arith in
    record {
      times = one.times * q;
      some = mul-pos one.some (one-le-pow l f (factorial-pos d));
      product = ap (λ n. f ^ n) sum ∙ pow-add f e (suc l) ∙ ap (λ n. p * n) (pow-suc f l) ∙ sym (mul_assoc p q f) ∙ mul_comm (p * q) f ∙ ap (λ n. n * (p * q)) one.product ∙ sym (swapped (factorial (d - j)) p one.times q);
    }

-- a multiple beside the rest
pub div_multiple : (q f r : ℕ) → 0 < f → (q * f + r) / f ≡ q + r / f
div_multiple q f r h =
    let e : q * f + r ≡ (q + r / f) * f + r % f = omega (arith, add-mul q (r / f) f, div-add-mod' r f) in
    ap (λ n. n / f) e ∙ div-mul-add (q + r / f) f (r % f) (mod_below r f h)

-- what one quotient tells of two places
split : (x y r s w f : ℕ) → 0 < f → IsMultiple w f → r < w → s < w → (x * w + r) / f ≡ (y * w + s) / f → (x ≡ y) × (r / f ≡ s / f)
split x y r s w f h m a b e =
    let c = m.times in
    let shape : w ≡ c * f = m.product ∙ mul_comm f c in
    let left : (x * w + r) / f ≡ x * c + r / f = ap (λ n. (x * n + r) / f) shape ∙ ap (λ n. (n + r) / f) (sym (mul_assoc x c f)) ∙ div_multiple (x * c) f r h in
    let right : (y * w + s) / f ≡ y * c + s / f = ap (λ n. (y * n + s) / f) shape ∙ ap (λ n. (n + s) / f) (sym (mul_assoc y c f)) ∙ div_multiple (y * c) f s h in
    let same : x * c + r / f ≡ y * c + s / f = sym left ∙ e ∙ right in
    let low : r / f < c = div_below r f c h (subst (λ n. r < n) shape a) in
    let high : s / f < c = div_below s f c h (subst (λ n. s < n) shape b) in
    (sym (div-mul-add x c (r / f) low) ∙ ap (λ n. n / c) same ∙ div-mul-add y c (s / f) high, sym (mod-mul-add x c (r / f) low) ∙ ap (λ n. n % c) same ∙ mod-mul-add y c (s / f) high)

pub bump-back : (q x : ℕ) → q ≢ x → bump q (unbump q x) ≡ x
bump-back q x other = grind (arith, nat_tests)

pub unbump-fits : (q x d : ℕ) → q < suc d → x < suc d → q ≢ x → unbump q x < d
unbump-fits q x d k h other = grind (arith, nat_tests)

pub others : (d x : ℕ) (xs : List ℕ) → IsPerm d (x ∷ xs) → All (λ y. x ≢ y) xs
others d x xs p = λ k e l. p.once 0 (suc k) e (omega arith) (omega arith)

pub perm-tail : (d x : ℕ) (xs : List ℕ) → IsPerm (suc d) (x ∷ xs) → IsPerm d (map (unbump x) xs)
perm-tail d x xs p =
    let other = others (suc d) x xs p in
    let long : length (map (unbump x) xs) ≡ length xs = length-map xs (unbump x) in
    record {
      count = omega (arith, long, p.count);
      below = All-map (λ y. y < d) (unbump x) xs (λ k e l. unbump-fits x (get_or xs k e) d (p.below 0 e (omega arith)) (p.below (suc k) e (omega arith)) (other k e l));
      once = λ i j e a b same.
          let k : j < length xs = omega (arith, b, long) in
          let m : i < length xs = omega (arith, a, k) in
          p.once (suc i) (suc j) e (omega (arith, a)) (omega (arith, k)) (sym (bump-back x (get_or xs i e) (other i e m)) ∙ ap (bump x) (sym (get_or-map (unbump x) xs i e e m) ∙ same ∙ get_or-map (unbump x) xs j e e k) ∙ bump-back x (get_or xs j e) (other j e k));
    }

regrown : (d x j : ℕ) (xs : List ℕ) → IsPerm d (x ∷ xs) → map (bump x) (take j (map (unbump x) xs)) ≡ take j xs
regrown d x j xs p =
    sym (take-map (bump x) j (map (unbump x) xs)) ∙ ap (take j) (map-map_back (bump x) (unbump x) xs (All-weaker (λ y. x ≢ y) (λ y. bump x (unbump x y) ≡ y) (bump-back x) xs (others d x xs p)))

-- permutations whose ranks have one quotient have the same first images
take_perm : (d j : ℕ) (xs ys : List ℕ) → j ≤ d → IsPerm d xs → IsPerm d ys → perm_rank d xs / factorial (d - j) ≡ perm_rank d ys / factorial (d - j) → take j xs ≡ take j ys
take_perm d zero xs ys h p q e = refl
take_perm zero (suc j) xs ys h p q e = absurd (omega arith)
take_perm (suc d) (suc j) [] ys h p q e = absurd (omega (arith, p.count))
take_perm (suc d) (suc j) (x ∷ xs) [] h p q e = absurd (omega (arith, q.count))
take_perm (suc d) (suc j) (x ∷ xs) (y ∷ ys) h p q e =
    let f : ℕ = factorial (d - j) in
    let size : suc d - suc j ≡ d - j = omega arith in
    let tx = perm-tail d x xs p in
    let ty = perm-tail d y ys q in
    let rx : ℕ = perm_rank d (map (unbump x) xs) in
    let ry : ℕ = perm_rank d (map (unbump y) ys) in
    let e1 : (x * factorial d + rx) / f ≡ (y * factorial d + ry) / f = ap (λ n. (x * factorial d + rx) / factorial n) (sym size) ∙ e ∙ ap (λ n. (y * factorial d + ry) / factorial n) size in
    let s = split x y rx ry (factorial d) f (factorial-pos (d - j)) (factorial_multiple d j (omega arith)) (perm_rank-below d (map (unbump x) xs) tx) (perm_rank-below d (map (unbump y) ys) ty) e1 in
    let same = take_perm d j (map (unbump x) xs) (map (unbump y) ys) (omega arith) tx ty s.1 in
    ap (λ l. x ∷ l) (sym (regrown (suc d) x j xs p)) ∙ ap (λ l. x ∷ map (bump x) l) same ∙ ap (λ n. n ∷ map (bump n) (take j (map (unbump y) ys))) s.0 ∙ ap (λ l. y ∷ l) (regrown (suc d) y j ys q)

-- the place of a tuple among those of its degree
abbrev pub place_in : ℕ → List (List ℕ) → ℕ
place_in d ts = number_in (factorial d) (map (perm_rank d) ts)

place_head : (d : ℕ) (t : List ℕ) (ts : List (List ℕ)) → place_in d (t ∷ ts) ≡ perm_rank d t * factorial d ^ length ts + place_in d ts
place_head d t ts = ap (λ n. perm_rank d t * factorial d ^ n + place_in d ts) (length-map ts (perm_rank d))

pub place_below : (d : ℕ) (ts : List (List ℕ)) → All (IsPerm d) ts → place_in d ts < factorial d ^ length ts
place_below d [] h = omega (arith, pow-zero (factorial d))
place_below d (t ∷ ts) h =
    let f = factorial d in
    let w : ℕ = f ^ length ts in
    let r : ℕ = perm_rank d t in
    let low : suc r * w ≤ f * w = mul-le-mul_right {m = suc r} {n = f} w (perm_rank-below d t (All-head (IsPerm d) t ts h)) in
    omega (arith, place_head d t ts, low, suc-mul r w, mul_comm f w, pow-suc f (length ts), place_below d ts (All-tail (IsPerm d) t ts h))

-- tuples whose places have one quotient have the same first images: so many whole lists, and so many images of the next
pub images_alike : (d l j : ℕ) (ts us : List (List ℕ)) → j ≤ d → length ts ≡ length us → l < length ts → All (IsPerm d) ts → All (IsPerm d) us
    → place_in d ts / (factorial (d - j) * factorial d ^ (length ts - 1 - l)) ≡ place_in d us / (factorial (d - j) * factorial d ^ (length ts - 1 - l)) → take (l * d + j) (concat ts) ≡ take (l * d + j) (concat us)
images_alike d l j [] us h same there p q e = absurd (omega arith)
images_alike d l j (t ∷ ts) [] h same there p q e = absurd (omega arith)
images_alike d zero j (t ∷ ts) (u ∷ us) h same there p q e =
    let f = factorial d in
    let w : ℕ = f ^ length ts in
    let g : ℕ = factorial (d - j) in
    let pt = All-head (IsPerm d) t ts p in
    let qu = All-head (IsPerm d) u us q in
    let rt : ℕ = perm_rank d t in
    let ru : ℕ = perm_rank d u in
    let long : length us ≡ length ts = sym (suc_inj same) in
    let size : suc (length ts) - 1 - 0 ≡ length ts = omega arith in
    let count : g * f ^ (suc (length ts) - 1 - 0) ≡ w * g = ap (λ n. g * f ^ n) size ∙ mul_comm g w in
    let at_t : place_in d (t ∷ ts) / (w * g) ≡ rt / g = sym (div-div-eq-div-mul (place_in d (t ∷ ts)) w g) ∙ ap (λ n. n / w / g) (place_head d t ts) ∙ ap (λ n. n / g) (div-mul-add rt w (place_in d ts) (place_below d ts (All-tail (IsPerm d) t ts p))) in
    let small : place_in d us < w = subst (λ n. place_in d us < f ^ n) long (place_below d us (All-tail (IsPerm d) u us q)) in
    let at_u : place_in d (u ∷ us) / (w * g) ≡ ru / g = sym (div-div-eq-div-mul (place_in d (u ∷ us)) w g) ∙ ap (λ n. n / w / g) (place_head d u us ∙ ap (λ n. ru * f ^ n + place_in d us) long) ∙ ap (λ n. n / g) (div-mul-add ru w (place_in d us) small) in
    let quotients : rt / g ≡ ru / g = sym at_t ∙ ap (λ n. place_in d (t ∷ ts) / n) (sym count) ∙ e ∙ ap (λ n. place_in d (u ∷ us) / n) count ∙ at_u in
    let number : 0 * d + j ≡ j = omega arith in
    ap (λ n. take n (t ++ concat ts)) number ∙ take-append-le j t (concat ts) (omega (arith, pt.count)) ∙ take_perm d j t u h pt qu quotients ∙ sym (take-append-le j u (concat us) (omega (arith, qu.count))) ∙ ap (λ n. take n (u ++ concat us)) (sym number)
images_alike d (suc l) j (t ∷ ts) (u ∷ us) h same there p q e =
    let f = factorial d in
    let w : ℕ = f ^ length ts in
    let g : ℕ = factorial (d - j) * f ^ (length ts - 1 - l) in
    let pt = All-head (IsPerm d) t ts p in
    let qu = All-head (IsPerm d) u us q in
    let rt : ℕ = perm_rank d t in
    let ru : ℕ = perm_rank d u in
    let long : length us ≡ length ts = sym (suc_inj same) in
    let size : suc (length ts) - 1 - suc l ≡ length ts - 1 - l = omega arith in
    let below : l < length ts = omega arith in
    let quotients : (rt * w + place_in d ts) / g ≡ (ru * w + place_in d us) / g =
    ap (λ n. n / g) (sym (place_head d t ts)) ∙ ap (λ n. place_in d (t ∷ ts) / (factorial (d - j) * f ^ n)) (sym size) ∙ e ∙ ap (λ n. place_in d (u ∷ us) / (factorial (d - j) * f ^ n)) size
    ∙ ap (λ n. n / g) (place_head d u us ∙ ap (λ n. ru * f ^ n + place_in d us) long) in
    let small : place_in d us < w = subst (λ n. place_in d us < f ^ n) long (place_below d us (All-tail (IsPerm d) u us q)) in
    let some : 0 < g = mul-pos (factorial-pos (d - j)) (one-le-pow (length ts - 1 - l) f (factorial-pos d)) in
    let s = split rt ru (place_in d ts) (place_in d us) w g some (tuples_multiple d j (length ts) l h below) (place_below d ts (All-tail (IsPerm d) t ts p)) small quotients in
    let equal : t ≡ u = sym (perm_at-perm_rank d t pt) ∙ ap (perm_at d) s.0 ∙ perm_at-perm_rank d u qu in
    let rest = images_alike d l j ts us h (suc_inj same) below (All-tail (IsPerm d) t ts p) (All-tail (IsPerm d) u us q) s.1 in
    let number_t : suc l * d + j ≡ length t + (l * d + j) = omega (arith, suc-mul l d, pt.count) in
    let number_u : suc l * d + j ≡ length u + (l * d + j) = omega (arith, suc-mul l d, qu.count) in
    ap (λ n. take n (t ++ concat ts)) number_t ∙ take-append-add t (concat ts) (l * d + j) ∙ ap (λ v. t ++ v) rest ∙ ap (λ v. v ++ take (l * d + j) (concat us)) equal ∙ sym (take-append-add u (concat us) (l * d + j)) ∙ ap (λ n. take n (u ++ concat us)) (sym number_u)
