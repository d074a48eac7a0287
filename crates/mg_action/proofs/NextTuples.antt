-- The next tuple of permutations in the order, by the first list and the rest.
use Rattle.std.proofs.Common.{◌≡◌, Bool, true, false, map, ℕ, zero, suc, ◌+◌, ◌-◌, ◌*◌, ◌/◌, ◌%◌, ◌^◌, ◌<◌, ◌≤◌, List, [], ◌∷◌, ◌++◌, length, take, drop, refl, sym, ◌∙◌, ap, subst, arith}
use Rattle.std.specs.List.{concat}
use Rattle.std.proofs.Math.Nat.{zero-mul, suc-mul, add-mul, mul_comm, mul_assoc, mul-pos, pow-suc, pow-zero, one-le-pow, div-div-eq-div-mul, div-add-mod'}
use Rattle.std.proofs.Math.Seq.{take-append_seam, drop-append_seam}
use Rattle.std.proofs.lemmas.Nat.{div-mul-add, div_below, mod_below, mul-add-lt}
use Rattle.std.proofs.lemmas.List.Elements.{All-head, All-tail, All-cons}
use Rattle.mg_numbers.specs.Blocks.{number_in}
use Rattle.std.specs.Simd.{first_chunks}
use Rattle.mg_numbers.specs.Perms.{IsPerm, PermTuple, factorial}
use Rattle.mg_numbers.proofs.PermsLaws.{perm_tuple_of_block}
use Rattle.mg_numbers.proofs.BeginningsPerms.{at_ranks, perm_number_is}
use Rattle.mg_numbers.proofs.PermsRank.{factorial-pos, perm_rank, perm_rank-below}
use Rattle.mg_action.specs.Permutation.{inverse_of}
use Rattle.mg_action.proofs.Permutations.{length-inverse}
use Rattle.mg_action.specs.Layout.{AreImages, IsKept}
use Rattle.mg_action.specs.Walk.{stretch, IsBehind}
use Rattle.mg_action.specs.Number.{IsNumbered}
use Rattle.mg_action.specs.Next.{AreInverses, IsPlaced, ArePlaced, AreImagesAt, behind}
use Rattle.mg_action.proofs.Beginnings.{IsMultiple, div_multiple, tuples_multiple, place_in}
use Rattle.std.proofs.lemmas.List.{take-append-drop, length-map, length-append, take_at, drop_at}
use Rattle.mg_action.proofs.Rows.{length-rows, long_perms, placed_count, seen_as, tuple}
use Rattle.mg_action.proofs.Stretches.{stretch-pos}
use Rattle.mg_action.proofs.NextRanks.{place_is}

pub place_fits : (d n : ℕ) (xs : List ℕ) → IsPlaced d n xs → n < factorial d
place_fits d n xs h = omega (arith, place_is d n xs h, perm_rank-below d xs h.is)

-- the places of a tuple stand for less than there are tuples
places_fit : (d : ℕ) (places : List ℕ) (perms : List (List ℕ)) → ArePlaced d places perms → number_in (factorial d) places < factorial d ^ length places
places_fit d [] [] h = omega (arith, pow-zero (factorial d))
places_fit d [] (x ∷ xs) h = absurd h
places_fit d (n ∷ ns) [] h = absurd h
places_fit d (n ∷ ns) (x ∷ xs) h =
    let f = factorial d in
    let w : ℕ = f ^ length ns in
    omega (arith, pow-suc f (length ns), mul_comm w f, mul-add-lt n w (number_in f ns) f (place_fits d n x h.0) (places_fit d ns xs h.1))

-- a first list and the rest
pub record FirstAndRest (d k place : ℕ) (x rest : List ℕ) : Type 0 where
  pub head : ℕ
  pub tail : ℕ
  pub first : IsPlaced d head x
  pub more : AreImagesAt d k tail rest
  pub small : tail < factorial d ^ k
  pub whole : place ≡ head * factorial d ^ k + tail

cut_lists : (d k place : ℕ) (x rest xs : List ℕ) (perms : List (List ℕ)) (places : List ℕ) → length x ≡ d → xs ≡ x ++ rest → AreImages d perms xs → ArePlaced d places perms → length places ≡ suc k
    → number_in (factorial d) places ≡ place → FirstAndRest d k place x rest
cut_lists d k place x rest xs [] [] e s im pl long dig = absurd (omega (arith, long))
cut_lists d k place x rest xs [] (n ∷ ns) e s im pl long dig = absurd pl
cut_lists d k place x rest xs (t ∷ ts) [] e s im pl long dig = absurd pl
cut_lists d k place x rest xs (t ∷ ts) (n ∷ ns) e s im pl long dig =
    let pt = All-head (IsPerm d) t ts im.each in
    let size : length t ≡ length x = omega (arith, pt.count, e) in
    let joined : t ++ concat ts ≡ x ++ rest = im.joined ∙ s in
    let same : t ≡ x = sym (take-append_seam t (concat ts)) ∙ ap (take (length t)) joined ∙ ap (λ n. take n (x ++ rest)) size ∙ take-append_seam x rest in
    let behind_it : concat ts ≡ rest = sym (drop-append_seam t (concat ts)) ∙ ap (drop (length t)) joined ∙ ap (λ n. drop n (x ++ rest)) size ∙ drop-append_seam x rest in
    let long_rest : length ns ≡ k = omega (arith, long) in
    record {
      head = n;
      tail = number_in (factorial d) ns;
      first = subst (IsPlaced d n) same pl.0;
      more = record { perms = ts; places = ns; images = record { each = All-tail (IsPerm d) t ts im.each; joined = behind_it }; placed = pl.1; long = long_rest; digits = refl };
      small = subst (λ j. number_in (factorial d) ns < factorial d ^ j) long_rest (places_fit d ns ts pl.1);
      whole = sym dig ∙ ap (λ j. n * factorial d ^ j + number_in (factorial d) ns) long_rest;
    }

pub cut_first : (d m place : ℕ) (x rest xs : List ℕ) → 1 ≤ m → length x ≡ d → xs ≡ x ++ rest → AreImagesAt d m place xs → FirstAndRest d (m - 1) place x rest
cut_first d m place x rest xs some e s h = cut_lists d (m - 1) place x rest xs h.perms h.places e s h.images h.placed (omega (arith, h.long, some)) h.digits

pub join_first : (d m head tail place : ℕ) (x rest xs : List ℕ) → 1 ≤ m → xs ≡ x ++ rest → IsPlaced d head x → AreImagesAt d (m - 1) tail rest → place ≡ head * factorial d ^ (m - 1) + tail → AreImagesAt d m place xs
join_first d m head tail place x rest xs some s first more whole =
    record {
      perms = x ∷ more.perms;
      places = head ∷ more.places;
      images = record { each = All-cons (IsPerm d) x more.perms first.is more.images.each; joined = ap (λ l. x ++ l) more.images.joined ∙ sym s };
      placed = (first, more.placed);
      long = omega (arith, more.long, some);
      digits = ap (λ j. head * factorial d ^ j + number_in (factorial d) more.places) more.long ∙ ap (λ j. head * factorial d ^ (m - 1) + j) more.digits ∙ sym whole;
    }

-- the size of a stretch by the rest
pub stretch_here : (d m depth : ℕ) → 1 ≤ depth → depth ≤ d → stretch d m depth ≡ factorial (d - depth) * factorial d ^ (m - 1)
stretch_here d m depth some h =
    let q : (depth - 1) / d ≡ 0 = (let e : 0 * d + (depth - 1) ≡ depth - 1 = omega (arith, zero-mul d) in ap (λ n. n / d) (sym e) ∙ div-mul-add 0 d (depth - 1) (omega (arith, some, h))) in
    let r : (depth - 1) % d + 1 ≡ depth = (let z : (depth - 1) / d * d ≡ 0 * d = ap (λ n. n * d) q in omega (arith, div-add-mod' (depth - 1) d, z, zero-mul d, some)) in
    let e : m - 1 - (depth - 1) / d ≡ m - 1 = omega (arith, q) in
    ap (λ n. factorial (d - n) * factorial d ^ (m - 1 - (depth - 1) / d)) r ∙ ap (λ n. factorial (d - depth) * factorial d ^ n) e

pub stretch_behind : (d m depth : ℕ) → 1 ≤ d → d < depth → stretch d m depth ≡ stretch d (m - 1) (depth - d)
stretch_behind d m depth points h =
    let r : ℕ = depth - d - 1 in
    let shape : depth - 1 ≡ 1 * d + r = omega (arith, h) in
    let q : (depth - 1) / d ≡ 1 + r / d = ap (λ n. n / d) shape ∙ div_multiple 1 d r points in
    let z : (depth - 1) / d * d ≡ 1 * d + r / d * d = ap (λ n. n * d) q ∙ add-mul 1 (r / d) d in
    let s : (depth - 1) % d + 1 ≡ r % d + 1 = omega (arith, div-add-mod' (depth - 1) d, div-add-mod' r d, z, shape) in
    let e : m - 1 - (depth - 1) / d ≡ m - 1 - 1 - r / d = omega (arith, q) in
    ap (λ n. factorial (d - n) * factorial d ^ (m - 1 - (depth - 1) / d)) s ∙ ap (λ n. factorial (d - (r % d + 1)) * factorial d ^ n) e

-- the place behind, by the first list and the rest
pub behind_here : (d m depth head tail : ℕ) → 1 ≤ depth → depth ≤ d → tail < factorial d ^ (m - 1)
    → behind (stretch d m depth) (head * factorial d ^ (m - 1) + tail) ≡ behind (factorial (d - depth)) head * factorial d ^ (m - 1) + 0
behind_here d m depth head tail some h small =
    let w : ℕ = factorial d ^ (m - 1) in
    let f : ℕ = factorial (d - depth) in
    let quotient : (head * w + tail) / (f * w) ≡ head / f = ap (λ n. (head * w + tail) / n) (mul_comm f w) ∙ sym (div-div-eq-div-mul (head * w + tail) w f) ∙ ap (λ n. n / f) (div-mul-add head w tail small) in
    let all : behind (stretch d m depth) (head * w + tail) ≡ (head / f + 1) * (f * w) = ap (λ n. behind n (head * w + tail)) (stretch_here d m depth some h) ∙ ap (λ n. (n + 1) * (f * w)) quotient in
    omega (arith, all, mul_assoc (head / f + 1) f w)

more_lists : (d m depth : ℕ) → d < depth → depth ≤ m * d → m * d ≡ (m - 1) * d + d
more_lists d zero depth h whole = absurd (omega (arith, h, whole, zero-mul d))
more_lists d (suc m) depth h whole = (let e : m ≡ suc m - 1 = omega arith in suc-mul m d ∙ ap (λ n. n * d + d) e)

pub behind_rest : (d m depth head tail : ℕ) → 1 ≤ d → d < depth → depth ≤ m * d
    → behind (stretch d m depth) (head * factorial d ^ (m - 1) + tail) ≡ head * factorial d ^ (m - 1) + behind (stretch d (m - 1) (depth - d)) tail
behind_rest d m depth head tail points h whole =
    let w : ℕ = factorial d ^ (m - 1) in
    let b : ℕ = stretch d (m - 1) (depth - d) in
    let l : ℕ = (depth - d - 1) / d in
    let j : ℕ = (depth - d - 1) % d + 1 in
    let image : j ≤ d = omega (arith, mod_below (depth - d - 1) d points) in
    let room : m * d ≡ (m - 1) * d + d = more_lists d m depth h whole in
    let list : l < m - 1 = div_below (depth - d - 1) d (m - 1) points (omega (arith, whole, h, room)) in
    let multiple : IsMultiple w b = tuples_multiple d j (m - 1) l image list in
    let c = multiple.times in
    let shape : w ≡ c * b = multiple.product ∙ mul_comm b c in
    let pos : 0 < b = mul-pos (factorial-pos (d - j)) (one-le-pow (m - 1 - 1 - l) (factorial d) (factorial-pos d)) in
    let quotient : (head * w + tail) / b ≡ head * c + tail / b = ap (λ n. (head * n + tail) / b) shape ∙ ap (λ n. (n + tail) / b) (sym (mul_assoc head c b)) ∙ div_multiple (head * c) b tail pos in
    let all : behind (stretch d m depth) (head * w + tail) ≡ (head * c + tail / b + 1) * b = ap (λ n. behind n (head * w + tail)) (stretch_behind d m depth points h) ∙ ap (λ n. (n + 1) * b) quotient in
    let same : head * c * b ≡ head * w = mul_assoc head c b ∙ ap (λ n. head * n) (sym shape) in
    omega (arith, all, add-mul (head * c) (tail / b + 1) b, same)

-- behind one alone
pub behind_one : (d n : ℕ) → behind (factorial (d - d)) n ≡ n + 1
behind_one d n =
    let one : factorial (d - d) ≡ 1 = (let e : d - d ≡ 0 = omega arith in ap factorial e) in
    let q : n / 1 ≡ n = omega (arith, div-add-mod' n 1, mod_below n 1 (omega arith)) in
    omega (arith, ap (λ f. behind f n) one, q)

-- how long they are
pub long_at : (d m place : ℕ) (xs : List ℕ) → AreImagesAt d m place xs → length xs ≡ m * d
long_at d m place xs h =
    sym (ap length h.images.joined) ∙ length-rows d h.perms (long_perms d h.perms h.images.each) ∙ ap (λ n. n * d) (placed_count d h.places h.perms h.placed ∙ h.long)

pub some_lists : (d m depth : ℕ) → 1 ≤ depth → depth ≤ m * d → 1 ≤ m
some_lists d zero depth some whole = absurd (omega (arith, some, whole, zero-mul d))
some_lists d (suc m) depth some whole = omega arith

pub fewer_lists : (d m : ℕ) → 1 ≤ m → m * d ≡ (m - 1) * d + d
fewer_lists d m some = (let e : m ≡ suc (m - 1) = omega (arith, some) in ap (λ n. n * d) e) ∙ suc-mul (m - 1) d

no_places : (f : ℕ) (ns : List ℕ) → length ns ≡ 0 → number_in f ns ≡ 0
no_places f [] e = refl
no_places f (n ∷ ns) e = absurd (omega (arith, e))

pub no_lists : (d m place : ℕ) (xs : List ℕ) → m ≡ 0 → AreImagesAt d m place xs → AreImagesAt d m 0 xs
no_lists d m place xs none h = record { perms = h.perms; places = h.places; images = h.images; placed = h.placed; long = h.long; digits = no_places (factorial d) h.places (h.long ∙ none) }

pub joined_at : (d : ℕ) (xs head tail : List ℕ) → head ≡ take d xs → tail ≡ drop d xs → xs ≡ head ++ tail
joined_at d xs head tail e f = sym (ap (λ l. l ++ tail) e ∙ ap (λ l. take d xs ++ l) f ∙ take-append-drop d xs)

-- the first list changed alone
pub next_here : (d m depth place : ℕ) (x rest new zs xs : List ℕ) → 1 ≤ m → 1 ≤ depth → depth ≤ d → (c : FirstAndRest d (m - 1) place x rest) → IsPlaced d (behind (factorial (d - depth)) c.head) new → AreImagesAt d (m - 1) 0 zs → xs ≡ new ++ zs
    → AreImagesAt d m (behind (stretch d m depth) place) xs
next_here d m depth place x rest new zs xs some deep h c first more s =
    join_first d m (behind (factorial (d - depth)) c.head) 0 (behind (stretch d m depth) place) new zs xs some s first more (ap (behind (stretch d m depth)) c.whole ∙ behind_here d m depth c.head c.tail deep h c.small)

pub all_pow : (d m : ℕ) → 1 ≤ m → factorial d * factorial d ^ (m - 1) ≡ factorial d ^ m
all_pow d m some = mul_comm (factorial d) (factorial d ^ (m - 1)) ∙ sym (pow-suc (factorial d) (m - 1)) ∙ (let e : suc (m - 1) ≡ m = omega (arith, some) in ap (λ n. factorial d ^ n) e)

pub none_here : (d m depth place : ℕ) (x rest : List ℕ) → 1 ≤ m → 1 ≤ depth → depth ≤ d → (c : FirstAndRest d (m - 1) place x rest) → behind (factorial (d - depth)) c.head ≡ factorial d → behind (stretch d m depth) place ≡ factorial d ^ m
none_here d m depth place x rest some deep h c last =
    let all : behind (stretch d m depth) place ≡ factorial d * factorial d ^ (m - 1) + 0 = ap (behind (stretch d m depth)) c.whole ∙ behind_here d m depth c.head c.tail deep h c.small ∙ ap (λ n. n * factorial d ^ (m - 1) + 0) last in
    omega (arith, all, all_pow d m some)

-- the rest changed
pub next_rest : (d m depth place : ℕ) (x rest zs xs : List ℕ) → 1 ≤ d → 1 ≤ m → d < depth → depth ≤ m * d → (c : FirstAndRest d (m - 1) place x rest) → AreImagesAt d (m - 1) (behind (stretch d (m - 1) (depth - d)) c.tail) zs → xs ≡ x ++ zs
    → AreImagesAt d m (behind (stretch d m depth) place) xs
next_rest d m depth place x rest zs xs points some h whole c more s =
    join_first d m c.head (behind (stretch d (m - 1) (depth - d)) c.tail) (behind (stretch d m depth) place) x zs xs some s c.first more (ap (behind (stretch d m depth)) c.whole ∙ behind_rest d m depth c.head c.tail points h whole)

-- the first list changed after the rest
carried : (d m depth place : ℕ) (x rest : List ℕ) → 1 ≤ d → 1 ≤ m → d < depth → depth ≤ m * d → (c : FirstAndRest d (m - 1) place x rest) → behind (stretch d (m - 1) (depth - d)) c.tail ≡ factorial d ^ (m - 1)
    → behind (stretch d m depth) place ≡ behind (factorial (d - d)) c.head * factorial d ^ (m - 1) + 0
carried d m depth place x rest points some h whole c last =
    let w : ℕ = factorial d ^ (m - 1) in
    let all : behind (stretch d m depth) place ≡ c.head * w + w = ap (behind (stretch d m depth)) c.whole ∙ behind_rest d m depth c.head c.tail points h whole ∙ ap (λ n. c.head * w + n) last in
    let one : behind (factorial (d - d)) c.head * w ≡ (c.head + 1) * w = ap (λ n. n * w) (behind_one d c.head) in
    omega (arith, all, one, add-mul c.head 1 w)

pub next_carried : (d m depth place : ℕ) (x rest new zs xs : List ℕ) → 1 ≤ d → 1 ≤ m → d < depth → depth ≤ m * d → (c : FirstAndRest d (m - 1) place x rest) → behind (stretch d (m - 1) (depth - d)) c.tail ≡ factorial d ^ (m - 1)
    → IsPlaced d (behind (factorial (d - d)) c.head) new → AreImagesAt d (m - 1) 0 zs → xs ≡ new ++ zs → AreImagesAt d m (behind (stretch d m depth) place) xs
next_carried d m depth place x rest new zs xs points some h whole c last first more s =
    join_first d m (behind (factorial (d - d)) c.head) 0 (behind (stretch d m depth) place) new zs xs some s first more (carried d m depth place x rest points some h whole c last)

pub none_carried : (d m depth place : ℕ) (x rest : List ℕ) → 1 ≤ d → 1 ≤ m → d < depth → depth ≤ m * d → (c : FirstAndRest d (m - 1) place x rest) → behind (stretch d (m - 1) (depth - d)) c.tail ≡ factorial d ^ (m - 1)
    → behind (factorial (d - d)) c.head ≡ factorial d → behind (stretch d m depth) place ≡ factorial d ^ m
none_carried d m depth place x rest points some h whole c last all =
    let e : behind (factorial (d - d)) c.head * factorial d ^ (m - 1) ≡ factorial d * factorial d ^ (m - 1) = ap (λ n. n * factorial d ^ (m - 1)) all in
    omega (arith, carried d m depth place x rest points some h whole c last, e, all_pow d m some)

pub first_joined : (d m : ℕ) (x rest xs : List ℕ) → 1 ≤ m → xs ≡ x ++ rest → IsPlaced d 0 x → AreImagesAt d (m - 1) 0 rest → AreImagesAt d m 0 xs
first_joined d m x rest xs some s first more = join_first d m 0 0 0 x rest xs some s first more (omega (arith, zero-mul (factorial d ^ (m - 1))))

-- behind all there is none
pub behind_all : (d p n : ℕ) (xs : List ℕ) → p ≡ 0 → IsPlaced d n xs → behind (factorial (d - p)) n ≡ factorial d
behind_all d p n xs none at =
    let f = factorial d in
    let size : factorial (d - p) ≡ f = (let e : d - p ≡ d = omega (arith, none) in ap factorial e) in
    let e : 0 * f + n ≡ n = omega (arith, zero-mul f) in
    let q : n / f ≡ 0 = ap (λ k. k / f) (sym e) ∙ div-mul-add 0 f n (place_fits d n xs at) in
    let one : (n / f + 1) * f ≡ 1 * f = ap (λ k. (k + 1) * f) q in
    omega (arith, ap (λ k. behind k n) size, one)

-- what is said of a list by its own length
pub long_perm : (d n : ℕ) (x : List ℕ) → length x ≡ d → IsPlaced d n x → IsPerm (length x) x
long_perm d n x e h = subst (λ k. IsPerm k x) (sym e) h.is

pub next_placed : (d images n : ℕ) (x new : List ℕ) → length x ≡ d → ((k : ℕ) → IsPlaced (length x) k x → IsPlaced (length x) (behind (factorial (length x - images)) k) new) → IsPlaced d n x → IsPlaced d (behind (factorial (d - images)) n) new
next_placed d images n x new e next at = subst (λ l. IsPlaced l n x → IsPlaced l (behind (factorial (l - images)) n) new) e (next n) at

pub none_placed : (d images n : ℕ) (x : List ℕ) → length x ≡ d → ((k : ℕ) → IsPlaced (length x) k x → behind (factorial (length x - images)) k ≡ factorial (length x)) → IsPlaced d n x → behind (factorial (d - images)) n ≡ factorial d
none_placed d images n x e none at = subst (λ l. IsPlaced l n x → behind (factorial (l - images)) n ≡ factorial l) e (none n) at

pub first_placed : (d : ℕ) (x new : List ℕ) → length x ≡ d → IsPlaced (length x) 0 new → IsPlaced d 0 new
first_placed d x new e first = subst (λ l. IsPlaced l 0 new) e first

-- the images that are kept stand at the place of their ranks
pub kept_at : (v : PermTuple) (g : ℕ) (xs inverses : List ℕ) (r s : ℕ) → IsKept v g xs inverses r s → AreImagesAt v.degree g (place_in v.degree v.images) xs
kept_at v g xs inverses r s kept = record {
  perms = v.images;
  places = map (perm_rank v.degree) v.images;
  images = record { each = kept.perms.perms; joined = kept.joined };
  placed = at_ranks v.degree v.images kept.perms.perms;
  long = length-map v.images (perm_rank v.degree) ∙ kept.perms.count;
  digits = refl;
}

-- whether there is a next one or not, images stand there
pub images_after : (d m depth place : ℕ) (xs ys : List ℕ) (b : Bool) → AreImagesAt d m place xs → (b ≡ true → (n : ℕ) → AreImagesAt d m n xs → AreImagesAt d m (behind (stretch d m depth) n) ys) → (b ≡ false → AreImagesAt d m 0 ys)
    → (perms : List (List ℕ)) × (AreImages d perms ys × (length perms ≡ m))
images_after d m depth place xs ys true at next first = (let new = next refl place at in (new.perms, (new.images, placed_count d new.places new.perms new.placed ∙ new.long)))
images_after d m depth place xs ys false at next first = (let new = first refl in (new.perms, (new.images, placed_count d new.places new.perms new.placed ∙ new.long)))

behind_more : (b i : ℕ) → 0 < b → behind b i ≡ i + (b - i % b)
behind_more b i pos = omega (arith, add-mul (i / b) 1 b, div-add-mod' i b, mod_below i b pos)

-- the number of the action behind those that begin alike
pub numbered_behind : (v : PermTuple) (g depth : ℕ) (xs inverses ys : List ℕ) (r s : ℕ) → IsKept v g xs inverses r s → ((place : ℕ) → AreImagesAt v.degree g place xs → AreImagesAt v.degree g (behind (stretch v.degree g depth) place) ys)
    → (number after : ℕ) → IsNumbered (length v.images) v number → IsBehind v.degree (length v.images) depth number after → IsNumbered (length v.images) (tuple v.degree (first_chunks v.degree g ys)) after
numbered_behind v g depth xs inverses ys r s kept next number after =
    let d : ℕ = v.degree in
    let i : ℕ = place_in d v.images in
    let b : ℕ = stretch d g depth in
    let new : AreImagesAt d g (behind b i) ys = next i (kept_at v g xs inverses r s kept) in
    subst (λ n. IsNumbered n v number → IsBehind d n depth number after → IsNumbered n (tuple d (first_chunks d g ys)) after) (sym kept.perms.count) (λ numbered h.
    let same : i ≡ h.index = omega (arith, perm_number_is g number v numbered, h.place) in
    let more : behind b i ≡ h.index + (b - h.index % b) = ap (behind b) same ∙ behind_more b h.index (stretch-pos d g depth) in
    subst (λ a. IsNumbered g a after) (sym (seen_as d g new.perms ys new.images (placed_count d new.places new.perms new.placed ∙ new.long)))
    (perm_tuple_of_block g after d (behind b i) new.places new.perms kept.perms.points (omega (arith, h.place, h.rest, more)) new.long new.digits new.placed))

-- what stands in a list whose items are written anew
pub written : (n : ℕ) (ys xs zs : List ℕ) → zs ≡ xs → length ys ≡ length zs → n ≡ length xs → take n (ys ++ drop (length ys) xs) ≡ ys
written n ys xs zs e long size = take_at ys (drop (length ys) xs) n (omega (arith, ap length e, long, size))

-- the inverses of a first list and of the rest
pub joined_inverses : (d m : ℕ) (x rest inverses more : List ℕ) → 1 ≤ m → length x ≡ d → inverses ≡ inverse_of x → AreInverses d (m - 1) rest more → AreInverses d m (x ++ rest) (inverses ++ more)
joined_inverses d zero x rest inverses more some e first others = absurd (omega (arith, some))
joined_inverses d (suc m) x rest inverses more some e first others =
    let k : suc m - 1 ≡ m = omega arith in
    let behind_first : concat (map inverse_of (first_chunks d m rest)) ≡ more = subst (λ n. AreInverses d n rest more) k others in
    ap (λ t. inverse_of t ++ concat (map inverse_of (first_chunks d m (drop d (x ++ rest))))) (take_at x rest d e) ∙ ap (λ t. inverse_of x ++ concat (map inverse_of (first_chunks d m t))) (drop_at x rest d e)
    ∙ ap (λ t. inverse_of x ++ t) behind_first ∙ ap (λ t. t ++ more) (sym first)

-- and what is cut of them
pub record CutInverses (d m : ℕ) (x rest back more : List ℕ) : Type 0 where
  pub first : back ≡ inverse_of x
  pub others : AreInverses d (m - 1) rest more

whole_inverses : (d m : ℕ) (x rest inverses : List ℕ) → 1 ≤ m → length x ≡ d → AreInverses d m (x ++ rest) inverses → inverse_of x ++ concat (map inverse_of (first_chunks d (m - 1) rest)) ≡ inverses
whole_inverses d m x rest inverses some e all = sym (joined_inverses d m x rest (inverse_of x) (concat (map inverse_of (first_chunks d (m - 1) rest))) some e refl refl) ∙ all

pub room_inverses : (d m : ℕ) (x rest xs inverses : List ℕ) → 1 ≤ m → length x ≡ d → xs ≡ x ++ rest → AreInverses d m xs inverses → d ≤ length inverses
room_inverses d m x rest xs inverses some e s all =
    let whole = whole_inverses d m x rest inverses some e (subst (λ l. AreInverses d m l inverses) s all) in
    omega (arith, ap length whole, length-append (inverse_of x) (concat (map inverse_of (first_chunks d (m - 1) rest))), length-inverse x, e)

pub cut_inverses : (d m : ℕ) (x rest xs back more inverses : List ℕ) → 1 ≤ m → length x ≡ d → xs ≡ x ++ rest → AreInverses d m xs inverses → length back ≡ d → inverses ≡ back ++ more → CutInverses d m x rest back more
cut_inverses d m x rest xs back more inverses some e s all long cut =
    let all_more : List ℕ = concat (map inverse_of (first_chunks d (m - 1) rest)) in
    let whole : inverse_of x ++ all_more ≡ back ++ more = whole_inverses d m x rest inverses some e (subst (λ l. AreInverses d m l inverses) s all) ∙ cut in
    let size : length (inverse_of x) ≡ d = length-inverse x ∙ e in
    record {
      first = sym (take_at back more d long) ∙ ap (take d) (sym whole) ∙ take_at (inverse_of x) all_more d size;
      others = sym (drop_at (inverse_of x) all_more d size) ∙ ap (drop d) whole ∙ drop_at back more d long;
    }
