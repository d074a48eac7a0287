-- Tuples of permutations that begin alike have numbers in a row: a tuple whose number lies in that row begins so.
use Rattle.std.proofs.Common.{◌≡◌, ◌≢◌, ℕ, zero, suc, ◌+◌, ◌-◌, ◌*◌, ◌^◌, ◌<◌, ◌≤◌, List, [], ◌∷◌, ◌++◌, length, map, replicate, get_or, All, AllPairs, refl, sym, ◌∙◌, ap, subst, inl, inr, arith}
use Rattle.std.proofs.lemmas.Bool.{cases_lt}
use Rattle.std.proofs.lemmas.Bool.Decides.{nat_tests}
use Rattle.std.proofs.Math.Nat.{suc-mul, add-mul, mul_comm, mul-le-mul_right, pow-suc}
use Rattle.std.proofs.lemmas.List.{length-append, length-map, length-replicate, map-append, get_or-map}
use Rattle.std.proofs.lemmas.List.Elements.{All-head, All-tail, All-map, All-weaker}
use Rattle.mg_numbers.specs.Blocks.{Earlier, number_in}
use Rattle.mg_numbers.specs.Perms.{IsPerm, factorial, PermTuple, IsPermTupleAt, perm_tuples_below}
use Rattle.mg_numbers.proofs.BlocksNth.{IsNth-rank}
use Rattle.mg_numbers.proofs.BlocksRank.{one_place}
use Rattle.mg_numbers.proofs.ResiduesRank.{number_in-below}
use Rattle.mg_numbers.proofs.PermsRank.{bump, unbump, map-map_back, perm_rank, perm_rank-below, perm_at, perm_at-perm_rank, perms_ranking}
use Rattle.mg_numbers.proofs.PermsLaws.{ArePermsAt, perm_tuple_of_block, one_perm_number}
use Rattle.mg_numbers.proofs.Beginnings.{Begins, number_in-zeros, one_quotient}

-- images that a permutation may begin with
pub record IsBeginning (degree : ℕ) (xs : List ℕ) : Type 0 where
  pub short : length xs ≤ degree
  pub below : All (λ x. x < degree) xs
  pub once : AllPairs (λ x y. x ≢ y) xs

pub beginning_of_perm : (degree : ℕ) (xs : List ℕ) → IsPerm degree xs → IsBeginning degree xs
beginning_of_perm degree xs p = record { short = omega (arith, p.count); below = p.below; once = p.once }

bump-back : (q x : ℕ) → q ≢ x → bump q (unbump q x) ≡ x
bump-back q x other = grind (arith, nat_tests)

unbump-fits : (q x d : ℕ) → q < suc d → x < suc d → q ≢ x → unbump q x < d
unbump-fits q x d k h other = grind (arith, nat_tests)

others : (d x : ℕ) (xs : List ℕ) → IsBeginning d (x ∷ xs) → All (λ y. x ≢ y) xs
others d x xs p = λ k e l. p.once 0 (suc k) e (omega arith) (omega arith)

-- the images after the first one, by their places among the rest
beginning-tail : (d x : ℕ) (xs : List ℕ) → IsBeginning (suc d) (x ∷ xs) → IsBeginning d (map (unbump x) xs)
beginning-tail d x xs p =
    let other = others (suc d) x xs p in
    let long : length (map (unbump x) xs) ≡ length xs = length-map xs (unbump x) in
    record {
      short = omega (arith, long, p.short);
      below = All-map (λ y. y < d) (unbump x) xs (λ k e l. unbump-fits x (get_or xs k e) d (p.below 0 e (omega arith)) (p.below (suc k) e (omega arith)) (other k e l));
      once = λ i j e a b same.
          let k : j < length xs = omega (arith, b, long) in
          let m : i < length xs = omega (arith, a, k) in
          p.once (suc i) (suc j) e (omega (arith, a)) (omega (arith, k)) (sym (bump-back x (get_or xs i e) (other i e m)) ∙ ap (bump x) (sym (get_or-map (unbump x) xs i e e m) ∙ same ∙ get_or-map (unbump x) xs j e e k) ∙ bump-back x (get_or xs j e) (other j e k));
    }

perm-tail : (d x : ℕ) (xs : List ℕ) → IsPerm (suc d) (x ∷ xs) → IsPerm d (map (unbump x) xs)
perm-tail d x xs p =
    let tail = beginning-tail d x xs (beginning_of_perm (suc d) (x ∷ xs) p) in
    record { count = omega (arith, length-map xs (unbump x), p.count); below = tail.below; once = tail.once }

-- how many permutations begin so
abbrev pub perms_beginning : ℕ → List ℕ → ℕ
perms_beginning degree b = factorial (degree - length b)

left-tail : (d x : ℕ) (b : List ℕ) → perms_beginning (suc d) (x ∷ b) ≡ perms_beginning d (map (unbump x) b)
left-tail d x b =
    let e : suc d - length (x ∷ b) ≡ d - length (map (unbump x) b) = omega (arith, length-map b (unbump x)) in
    ap factorial e

-- so many permutations from the rank of the beginning on are there
pub perm_rank-room : (d : ℕ) (b : List ℕ) → IsBeginning d b → perm_rank d b + perms_beginning d b ≤ factorial d
perm_rank-room zero [] p = omega arith
perm_rank-room zero (x ∷ b) p = absurd (omega (arith, p.short))
perm_rank-room (suc d) [] p =
    let none : suc d - length {A = ℕ} [] ≡ suc d = omega arith in
    omega (arith, ap factorial none)
perm_rank-room (suc d) (x ∷ b) p =
    let f = factorial d in
    let low : suc x * f ≤ suc d * f = mul-le-mul_right {m = suc x} {n = suc d} f (p.below 0 0 (omega arith)) in
    omega (arith, left-tail d x b, perm_rank-room d (map (unbump x) b) (beginning-tail d x b p), suc-mul x f, low)

-- the images of both have room made again
regrow : (x y : ℕ) (b xs rest : List ℕ) → x ≡ y → All (λ z. x ≢ z) xs → All (λ z. y ≢ z) b → map (unbump x) xs ≡ map (unbump y) b ++ rest → xs ≡ b ++ map (bump x) rest
regrow x y b xs rest e p q whole =
    let back : map (bump x) (map (unbump x) xs) ≡ xs = map-map_back (bump x) (unbump x) xs (All-weaker (λ z. x ≢ z) (λ z. bump x (unbump x z) ≡ z) (bump-back x) xs p) in
    let beginning : map (bump y) (map (unbump y) b) ≡ b = map-map_back (bump y) (unbump y) b (All-weaker (λ z. y ≢ z) (λ z. bump y (unbump y z) ≡ z) (bump-back y) b q) in
    sym back ∙ ap (map (bump x)) whole ∙ map-append (bump x) (map (unbump y) b) rest ∙ ap (λ z. map (bump z) (map (unbump y) b) ++ map (bump x) rest) e ∙ ap (λ l. l ++ map (bump x) rest) beginning

-- a permutation that lies among those that begin so begins so
pub perm_begins : (d : ℕ) (b xs : List ℕ) → IsBeginning d b → IsPerm d xs → perm_rank d b ≤ perm_rank d xs → perm_rank d xs < perm_rank d b + perms_beginning d b → Begins b xs
perm_begins d [] xs p q low high = record { rest = xs; whole = refl }
perm_begins zero (y ∷ b) xs p q low high = absurd (omega (arith, p.short))
perm_begins (suc d) (y ∷ b) [] p q low high = absurd (omega (arith, q.count))
perm_begins (suc d) (y ∷ b) (x ∷ xs) p q low high =
    let f = factorial d in
    let rb = perm_rank d (map (unbump y) b) in
    let rx = perm_rank d (map (unbump x) xs) in
    let few = perm-tail d x xs q in
    let fewer = beginning-tail d y b p in
    let small = perm_rank-below d (map (unbump x) xs) few in
    let room = perm_rank-room d (map (unbump y) b) fewer in
    let count = left-tail d y b in
    let over : x * f + rx - y * f < f = omega (arith, low, high, room, count) in
    let same : x ≡ y = one_quotient x y f rx (x * f + rx - y * f) small over (omega (arith, low)) in
    let level : x * f ≡ y * f = ap (λ n. n * f) same in
    let tail = perm_begins d (map (unbump y) b) (map (unbump x) xs) fewer few (omega (arith, low, level)) (omega (arith, high, level, count)) in
    let rest = regrow x y b xs tail.rest same (others (suc d) x xs (beginning_of_perm (suc d) (x ∷ xs) q)) (others (suc d) y b p) tail.whole in
    record { rest = map (bump x) tail.rest; whole = cc }

-- lists that begin with whole ones, the beginning of one, and any others
pub record TupleBegins (lists : List (List ℕ)) (b : List ℕ) (images : List (List ℕ)) : Type 0 where
  pub list : List ℕ
  pub begins : Begins b list
  pub more : List (List ℕ)
  pub whole : images ≡ lists ++ list ∷ more

-- the place, among the tuples of the degree, of the first one that begins with these lists and this beginning, behind
-- which so many lists are left
abbrev pub first_place : ℕ → List (List ℕ) → List ℕ → ℕ → ℕ
first_place degree lists b left = number_in (factorial degree) (map (perm_rank degree) lists ++ perm_rank degree b ∷ replicate left 0)

-- how many tuples begin so
abbrev pub tuples_beginning : ℕ → List ℕ → ℕ → ℕ
tuples_beginning degree b left = perms_beginning degree b * factorial degree ^ left

places_long : (degree : ℕ) (lists : List (List ℕ)) (b : List ℕ) (left : ℕ) → length (map (perm_rank degree) lists ++ perm_rank degree b ∷ replicate left 0) ≡ length lists + suc left
places_long degree lists b left =
    omega (arith, length-append (map (perm_rank degree) lists) (perm_rank degree b ∷ replicate left 0), length-map lists (perm_rank degree), length-replicate {A = ℕ} left 0)

-- the first place of one beginning, and of a whole list before it
first_of_one : (degree : ℕ) (b : List ℕ) (left : ℕ) → first_place degree [] b left ≡ perm_rank degree b * factorial degree ^ left
first_of_one degree b left =
    omega (arith, number_in-zeros (factorial degree) left, ap (λ n. perm_rank degree b * factorial degree ^ n) (length-replicate {A = ℕ} left 0))

first_of_more : (degree : ℕ) (x : List ℕ) (lists : List (List ℕ)) (b : List ℕ) (left : ℕ)
    → first_place degree (x ∷ lists) b left ≡ perm_rank degree x * factorial degree ^ (length lists + suc left) + first_place degree lists b left
first_of_more degree x lists b left =
    ap (λ n. perm_rank degree x * factorial degree ^ n + first_place degree lists b left) (places_long degree lists b left)

-- so many tuples from the first place on are there
pub tuples_room : (degree : ℕ) (lists : List (List ℕ)) (b : List ℕ) (left : ℕ) → All (IsPerm degree) lists → IsBeginning degree b
    → first_place degree lists b left + tuples_beginning degree b left ≤ factorial degree ^ (length lists + suc left)
tuples_room degree [] b left p q =
    let f = factorial degree in
    let w = f ^ left in
    let power : f ^ (0 + suc left) ≡ f * w = (let e : 0 + suc left ≡ suc left = omega arith in ap (λ n. f ^ n) e ∙ pow-suc f left ∙ mul_comm w f) in
    let both = mul-le-mul_right {m = perm_rank degree b + perms_beginning degree b} {n = f} w (perm_rank-room degree b q) in
    omega (arith, first_of_one degree b left, power, both, add-mul (perm_rank degree b) (perms_beginning degree b) w)
tuples_room degree (x ∷ lists) b left p q =
    let f = factorial degree in
    let w = f ^ (length lists + suc left) in
    let power : f ^ (suc (length lists) + suc left) ≡ f * w = (let e : suc (length lists) + suc left ≡ suc (length lists + suc left) = omega arith in ap (λ n. f ^ n) e ∙ pow-suc f (length lists + suc left) ∙ mul_comm w f) in
    let one = mul-le-mul_right {m = suc (perm_rank degree x)} {n = f} w (perm_rank-below degree x (All-head (IsPerm degree) x lists p)) in
    omega (arith, first_of_more degree x lists b left, power, one, suc-mul (perm_rank degree x) w, tuples_room degree lists b left (All-tail (IsPerm degree) x lists p) q)

-- the places of the lists are below the power
places_below_power : (degree left : ℕ) (xs : List (List ℕ)) → All (IsPerm degree) xs → length xs ≡ left → number_in (factorial degree) (map (perm_rank degree) xs) < factorial degree ^ left
places_below_power degree left xs p e =
    subst (λ n. number_in (factorial degree) (map (perm_rank degree) xs) < factorial degree ^ n) (length-map xs (perm_rank degree) ∙ e)
    (number_in-below (factorial degree) (map (perm_rank degree) xs) (All-map (λ i. i < factorial degree) (perm_rank degree) xs (All-weaker (IsPerm degree) (λ x. perm_rank degree x < factorial degree) (perm_rank-below degree) xs p)))

-- a factor below and above which there is no room
between : (a b c w r : ℕ) → r < w → a * w ≤ b * w + r → b * w + r < c * w → (a ≤ b) × (b < c)
between a b c w r small low high = (
  elim (cases_lt b a) [ inl less ↦ absurd (omega (arith, suc-mul b w, mul-le-mul_right {m = suc b} {n = a} w less, low, small)) | inr more ↦ omega (arith, more) ],
  elim (cases_lt b c) [ inl less ↦ less | inr more ↦ absurd (omega (arith, mul-le-mul_right {m = c} {n = b} w more, high)) ],
)

-- a tuple that lies among those that begin so begins so
pub images_begin : (degree : ℕ) (lists : List (List ℕ)) (b : List ℕ) (left : ℕ) (images : List (List ℕ)) → All (IsPerm degree) lists → IsBeginning degree b → All (IsPerm degree) images
    → length images ≡ length lists + suc left → first_place degree lists b left ≤ number_in (factorial degree) (map (perm_rank degree) images)
    → number_in (factorial degree) (map (perm_rank degree) images) < first_place degree lists b left + tuples_beginning degree b left → TupleBegins lists b images
images_begin degree lists b left [] p q h e low high = absurd (omega (arith, e))
images_begin degree [] b left (x ∷ xs) p q h e low high =
    let f = factorial degree in
    let w = f ^ left in
    let rx = perm_rank degree x in
    let nx = number_in f (map (perm_rank degree) xs) in
    let perm = All-head (IsPerm degree) x xs h in
    let long : length xs ≡ left = omega (arith, e) in
    let small = places_below_power degree left xs (All-tail (IsPerm degree) x xs h) long in
    let at : rx * f ^ length (map (perm_rank degree) xs) ≡ rx * w = ap (λ n. rx * f ^ n) (length-map xs (perm_rank degree) ∙ long) in
    let here = between (perm_rank degree b) rx (perm_rank degree b + perms_beginning degree b) w nx small (omega (arith, low, at, first_of_one degree b left))
    (omega (arith, high, at, first_of_one degree b left, add-mul (perm_rank degree b) (perms_beginning degree b) w)) in
    record { list = x; begins = perm_begins degree b x q perm here.0 here.1; more = xs; whole = refl }
images_begin degree (y ∷ lists) b left (x ∷ xs) p q h e low high =
    let f = factorial degree in
    let w = f ^ (length lists + suc left) in
    let rx = perm_rank degree x in
    let ry = perm_rank degree y in
    let nx = number_in f (map (perm_rank degree) xs) in
    let perm = All-head (IsPerm degree) x xs h in
    let other = All-head (IsPerm degree) y lists p in
    let few = All-tail (IsPerm degree) x xs h in
    let fewer = All-tail (IsPerm degree) y lists p in
    let long : length xs ≡ length lists + suc left = omega (arith, e) in
    let small = places_below_power degree (length lists + suc left) xs few long in
    let at : rx * f ^ length (map (perm_rank degree) xs) ≡ rx * w = ap (λ n. rx * f ^ n) (length-map xs (perm_rank degree) ∙ long) in
    let room = tuples_room degree lists b left fewer q in
    let first = first_of_more degree y lists b left in
    let same : rx ≡ ry = one_quotient rx ry w nx (rx * w + nx - ry * w) small (omega (arith, low, high, at, room, first)) (omega (arith, low, at, first)) in
    let equal : x ≡ y = sym (perm_at-perm_rank degree x perm) ∙ ap (perm_at degree) same ∙ perm_at-perm_rank degree y other in
    let level : rx * w ≡ ry * w = ap (λ n. n * w) same in
    let tail = images_begin degree lists b left xs fewer q few long (omega (arith, low, at, first, level)) (omega (arith, high, at, first, level)) in
    record { list = tail.list; begins = tail.begins; more = tail.more; whole = let t = tail.whole in cc }

-- the permutations stand at their ranks
pub at_ranks : (degree : ℕ) (images : List (List ℕ)) → All (IsPerm degree) images → ArePermsAt degree (map (perm_rank degree) images) images
at_ranks degree [] h = tt
at_ranks degree (x ∷ xs) h =
    (IsNth-rank (IsPerm degree) Earlier (λ i. i < factorial degree) (perms_ranking degree) x (All-head (IsPerm degree) x xs h), at_ranks degree xs (All-tail (IsPerm degree) x xs h))

-- the number of a tuple of permutations, by its degree and its place there
pub perm_number_is : (m number : ℕ) (t : PermTuple) → IsPermTupleAt m number t → number ≡ perm_tuples_below m t.degree + number_in (factorial t.degree) (map (perm_rank t.degree) t.images) + 1
perm_number_is m number t h =
    let places = map (perm_rank t.degree) t.images in
    let index = number_in (factorial t.degree) places in
    one_perm_number m number (perm_tuples_below m t.degree + index + 1) t h
    (perm_tuple_of_block m (perm_tuples_below m t.degree + index + 1) t.degree index places t.images h.is.points refl (length-map t.images (perm_rank t.degree) ∙ h.is.count) refl (at_ranks t.degree t.images h.is.perms))

-- a number in the block of a degree is that of a tuple of this degree
pub perm_degree_is : (m number degree : ℕ) (t : PermTuple) → IsPermTupleAt m number t → 1 ≤ degree → perm_tuples_below m degree < number
    → number ≤ perm_tuples_below m degree + factorial degree ^ m → t.degree ≡ degree
perm_degree_is m number degree t h points low high =
    let is = perm_number_is m number t h in
    (one_place (λ k. factorial k ^ m) 1 (number - 1) t.degree (number_in (factorial t.degree) (map (perm_rank t.degree) t.images)) degree (number - 1 - perm_tuples_below m degree)
    (record { from_first = h.is.points; within = places_below_power t.degree m t.images h.is.perms h.is.count; place = omega (arith, is) })
    (record { from_first = points; within = omega (arith, low, high); place = omega (arith, low) })).0

-- a number among those of the tuples that begin so is that of a tuple that begins so
pub perms_begin : (m number degree : ℕ) (lists : List (List ℕ)) (b : List ℕ) (left : ℕ) (t : PermTuple) → IsPermTupleAt m number t → 1 ≤ degree → All (IsPerm degree) lists → IsBeginning degree b
    → length lists + suc left ≡ m → perm_tuples_below m degree + first_place degree lists b left < number
    → number ≤ perm_tuples_below m degree + first_place degree lists b left + tuples_beginning degree b left → (t.degree ≡ degree) × TupleBegins lists b t.images
perms_begin m number degree lists b left t h points p q count low high =
    let room : first_place degree lists b left + tuples_beginning degree b left ≤ factorial degree ^ m = subst (λ n. first_place degree lists b left + tuples_beginning degree b left ≤ factorial degree ^ n) count (tuples_room degree lists b left p q) in
    let same = perm_degree_is m number degree t h points (omega (arith, low)) (omega (arith, high, room)) in
    let is : number ≡ perm_tuples_below m degree + number_in (factorial degree) (map (perm_rank degree) t.images) + 1 =
    perm_number_is m number t h ∙ ap (λ n. perm_tuples_below m n + number_in (factorial n) (map (perm_rank n) t.images) + 1) same in
    (same, images_begin degree lists b left t.images p q (subst (λ n. All (IsPerm n) t.images) same h.is.perms) (h.is.count ∙ sym count) (omega (arith, is, low)) (omega (arith, is, high)))
