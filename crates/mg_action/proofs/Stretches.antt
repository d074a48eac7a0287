-- The numbers that a walk passes at once.
use Rattle.std.proofs.Common.{◌≡◌, ℕ, zero, suc, ◌+◌, ◌-◌, ◌*◌, ◌/◌, ◌%◌, ◌^◌, ◌<◌, ◌≤◌, [], length, get_or, take, min, All, sym, ◌∙◌, ap, subst, inl, inr, arith}
use Rattle.std.specs.List.{concat, AllByRecursion}
use Rattle.std.proofs.Math.Nat.{suc-mul, mul_comm, mul-pos, mul-le-mul_right, mul-le-mul_left, pow-suc, pow-zero, one-le-pow, mod-eq_of_lt, div-add-mod'}
use Rattle.std.proofs.lemmas.Nat.{div_below, mod_below, div-mul-add}
use Rattle.std.proofs.lemmas.Bool.{cases_lt}
use Rattle.std.proofs.lemmas.List.Elements.{All-get_or, All-from_recursion}
use Rattle.mg_numbers.specs.Plain.{NoneAmong}
use Rattle.mg_numbers.specs.Perms.{IsPerm, PermTuple, IsPermTuple, factorial, perm_tuples_below}
use Rattle.mg_numbers.proofs.PermsRank.{factorial-pos}
use Rattle.mg_numbers.proofs.BeginningsPerms.{perm_number_is, perm_degree_is}
use Rattle.mg_present.specs.Ask.{Inquiry}
use Rattle.mg_action.specs.Action.{image_of_zero}
use Rattle.mg_action.specs.Number.{IsNumbered, RefutedAt}
use Rattle.mg_action.specs.Walk.{IsBehind, NoneBegin, stretch}
use Rattle.mg_action.proofs.Permutations.{at-identity}
use Rattle.mg_action.proofs.Beginnings.{IsMultiple, tuples_multiple, images_alike, place_in}

-- without letters in the goals none is refuted
pub none_without_letters : (ask : Inquiry) (low high : ℕ) → AllByRecursion (λ w. w ≡ []) ask.goals → NoneAmong (RefutedAt ask) low high
none_without_letters ask low high empty k above below refuted =
    let r = refuted.refutes in
    let goal : get_or ask.goals refuted.goal [] ≡ [] = All-get_or (λ w. w ≡ []) ask.goals refuted.goal [] r.there (All-from_recursion (λ w. w ≡ []) ask.goals empty) in
    r.moved (ap (image_of_zero refuted.action) goal ∙ at-identity refuted.action.degree 0 r.is_action.perms.points)

-- numbers that are cut off at the greatest one
cut_product : (a b m : ℕ) → 1 ≤ b → min (min a m * b) m ≡ min (a * b) m
cut_product a b m h =
    elim (cases_lt m a) [
      | inl more ↦
          let cut : min a m ≡ m = omega arith in
          let left : m * 1 ≤ m * b = mul-le-mul_left m h in
          let right : m * b ≤ a * b = mul-le-mul_right {m = m} {n = a} b (omega arith) in
          ap (λ n. min (n * b) m) cut ∙ omega (arith, left, right)
      | inr less ↦ let same : min a m ≡ a = omega arith in ap (λ n. min (n * b) m) same
    ]

cut_both : (a b m : ℕ) → 1 ≤ b → 1 ≤ a → 1 ≤ m → min (min a m * min b m) m ≡ min (a * b) m
cut_both a b m h k l =
    cut_product a (min b m) m (omega arith) ∙ ap (λ n. min n m) (mul_comm a (min b m)) ∙ cut_product b a m k ∙ ap (λ n. min n m) (mul_comm b a)

cut_power : (d e m : ℕ) → 1 ≤ d → 1 ≤ m → min (min d m ^ e) m ≡ min (d ^ e) m
cut_power d zero m h k = ap (λ n. min n m) (pow-zero (min d m) ∙ sym (pow-zero d))
cut_power d (suc e) m h k =
    let x : ℕ = min d m in
    ap (λ n. min n m) (pow-suc x e) ∙ sym (cut_product (x ^ e) x m (omega arith)) ∙ ap (λ n. min (n * x) m) (cut_power d e m h k) ∙ cut_both (d ^ e) d m h (one-le-pow e d h) k ∙ ap (λ n. min n m) (sym (pow-suc d e))

pub cut_stretch : (a d e m rest perms power : ℕ) → 1 ≤ a → 1 ≤ d → 1 ≤ m → rest ≡ min a m → perms ≡ min d m → power ≡ min (perms ^ e) m → min (rest * power) m ≡ min (a * d ^ e) m
cut_stretch a d e m rest perms power ha hd hm r p q =
    let pow : power ≡ min (d ^ e) m = q ∙ ap (λ n. min (n ^ e) m) p ∙ cut_power d e m hd hm in
    ap (λ n. min (n * power) m) r ∙ ap (λ n. min (min a m * n) m) pow ∙ cut_both a (d ^ e) m (one-le-pow e d hd) ha hm

pub stretch-pos : (degree generators depth : ℕ) → 1 ≤ stretch degree generators depth
stretch-pos degree generators depth = mul-pos (factorial-pos (degree - ((depth - 1) % degree + 1))) (one-le-pow (generators - 1 - (depth - 1) / degree) (factorial degree) (factorial-pos degree))

-- within a stretch the quotient stays
same_quotient : (i k b : ℕ) → 0 < b → i ≤ k → k < i + (b - i % b) → k / b ≡ i / b
same_quotient i k b h low high =
    let q : ℕ = i / b in
    let r : ℕ = k - q * b in
    let whole = div-add-mod' i b in
    let small = mod_below i b h in
    let shape : k ≡ q * b + r = omega (arith, whole, low) in
    ap (λ n. n / b) shape ∙ div-mul-add q b r (omega (arith, whole, small, low, high))

-- and the stretch ends in the block
within_block : (i k b w : ℕ) → 0 < b → IsMultiple w b → i < w → k < i + (b - i % b) → k < w
within_block i k b w h m there high =
    let q : ℕ = i / b in
    let shape : w ≡ m.times * b = m.product ∙ mul_comm b m.times in
    let below : q < m.times = div_below i b m.times h (subst (λ n. i < n) shape there) in
    let room : suc q * b ≤ m.times * b = mul-le-mul_right {m = suc q} {n = m.times} b below in
    omega (arith, div-add-mod' i b, mod_below i b h, room, suc-mul q b, shape, high)

-- no number of a stretch is that of an action that refutes a goal
pub none_in_stretch : (ask : Inquiry) (action : PermTuple) (next degree index depth new : ℕ) → IsNumbered ask.group.generators action next → 1 ≤ degree → index < factorial degree ^ ask.group.generators
    → perm_tuples_below ask.group.generators degree + index + 1 ≡ next → 1 ≤ depth → depth ≤ ask.group.generators * degree → NoneBegin ask action depth → NoneAmong (RefutedAt ask) 0 (next - 1)
    → new ≤ next + (stretch degree ask.group.generators depth - index % stretch degree ask.group.generators depth) → NoneAmong (RefutedAt ask) 0 (new - 1)
none_in_stretch ask action next degree index depth new numbered points within place some whole none before high k above below refuted =
    elim (cases_lt k next) [
      | inl less ↦ before k above (omega arith) refuted
      | inr more ↦
          let m : ℕ = ask.group.generators in
          let t = refuted.action in
          let l : ℕ = (depth - 1) / degree in
          let j : ℕ = (depth - 1) % degree + 1 in
          let b : ℕ = stretch degree m depth in
          let list : l < m = div_below (depth - 1) degree m points (omega (arith, whole, some)) in
          let image : j ≤ degree = omega (arith, mod_below (depth - 1) degree points) in
          let pos = stretch-pos degree m depth in
          let multiple : IsMultiple (factorial degree ^ m) b = tuples_multiple degree j m l image list in
          let at : ℕ = index + (k - next) in
          let under : at < index + (b - index % b) = omega (arith, high, below, more, mod_below index b pos) in
          let there : at < factorial degree ^ m = within_block index at b (factorial degree ^ m) pos multiple within under in
          let number : perm_tuples_below m degree + at + 1 ≡ k = omega (arith, place, more) in
          let same_a : action.degree ≡ degree = perm_degree_is m next degree action numbered points (omega (arith, place)) (omega (arith, place, within)) in
          let same_t : t.degree ≡ degree = perm_degree_is m k degree t refuted.numbered points (omega (arith, number)) (omega (arith, number, there)) in
          let is_a : next ≡ perm_tuples_below m degree + place_in degree action.images + 1 = perm_number_is m next action numbered ∙ ap (λ n. perm_tuples_below m n + place_in n action.images + 1) same_a in
          let is_t : k ≡ perm_tuples_below m degree + place_in degree t.images + 1 = perm_number_is m k t refuted.numbered ∙ ap (λ n. perm_tuples_below m n + place_in n t.images + 1) same_t in
          let index_a : place_in degree action.images ≡ index = omega (arith, is_a, place) in
          let index_t : place_in degree t.images ≡ at = omega (arith, is_t, number) in
          let count_a : length action.images ≡ m = numbered.is.count in
          let count_t : length t.images ≡ m = refuted.numbered.is.count in
          let quotients : place_in degree t.images / b ≡ place_in degree action.images / b = ap (λ n. n / b) index_t ∙ same_quotient index at b pos (omega arith) under ∙ ap (λ n. n / b) (sym index_a) in
          let alike : take (l * degree + j) (concat t.images) ≡ take (l * degree + j) (concat action.images) =
          images_alike degree l j t.images action.images image (count_t ∙ sym count_a) (omega (arith, list, count_t)) (subst (λ n. All (IsPerm n) t.images) same_t refuted.numbered.is.perms) (subst (λ n. All (IsPerm n) action.images) same_a numbered.is.perms)
          (subst (λ n. place_in degree t.images / (factorial (degree - j) * factorial degree ^ (n - 1 - l)) ≡ place_in degree action.images / (factorial (degree - j) * factorial degree ^ (n - 1 - l))) (sym count_t) quotients) in
          let deep : l * degree + j ≡ depth = omega (arith, div-add-mod' (depth - 1) degree, some) in
          none t (record {
            degree = same_t ∙ sym same_a;
            perms = subst (λ n. IsPermTuple n t) (sym count_a) refuted.numbered.is;
            same = subst (λ n. take n (concat t.images) ≡ take n (concat action.images)) deep alike;
          }) refuted.goal refuted.refutes
    ]

-- the degree of an action by its number
pub degree_of_block : (m g next degree index : ℕ) (action : PermTuple) → g ≡ m → IsNumbered m action next → 1 ≤ degree → index < factorial degree ^ g → perm_tuples_below g degree + index + 1 ≡ next → action.degree ≡ degree
degree_of_block m g next degree index action e numbered points within place =
    let at = ap (λ n. perm_tuples_below n degree + index + 1) (sym e) ∙ place in
    let room : index < factorial degree ^ m = subst (λ n. index < factorial degree ^ n) e within in
    perm_degree_is m next degree action numbered points (omega (arith, at)) (omega (arith, at, room))

-- a stretch that is cut off at the greatest number ends no later
pub end_of_cut : (i b cut next new : ℕ) → 1 ≤ b → i < next → next ≤ 4611686018427387904 → cut ≡ min b 18446744073709551615 → new ≡ min (next + (cut - i % cut)) 18446744073709551615 → (next < new) × (new ≤ next + (b - i % b))
end_of_cut i b cut next new h below small e f =
    elim (cases_lt 18446744073709551615 b) [
      | inl more ↦
          let all : i % cut ≡ i = mod-eq_of_lt (omega (arith, e, below, small, more)) in
          let rest : i % b ≡ i = mod-eq_of_lt (omega (arith, below, small, more)) in
          (omega (arith, e, f, all, below, small, more), omega (arith, e, f, all, rest, below, small, more))
      | inr less ↦
          let same : cut ≡ b = omega (arith, e, less) in
          let rest : i % cut ≡ i % b = ap (λ n. i % n) same in
          (omega (arith, same, rest, f, mod_below i b h, small), omega (arith, same, rest, f))
    ]

-- the images of an action by the degree of its block
pub whole_in_block : (m g next degree index depth : ℕ) (action : PermTuple) → g ≡ m → IsNumbered m action next → 1 ≤ degree → index < factorial degree ^ g → perm_tuples_below g degree + index + 1 ≡ next → depth ≤ length action.images * action.degree → depth ≤ g * degree
whole_in_block m g next degree index depth action e numbered points within place whole =
    let size : length action.images * action.degree ≡ g * degree = ap (λ n. n * action.degree) (numbered.is.count ∙ sym e) ∙ ap (λ n. g * n) (degree_of_block m g next degree index action e numbered points within place) in
    omega (arith, whole, size)

-- what a walk has passed after a stretch
pub passes : (ask : Inquiry) (action : PermTuple) (g next degree index depth cut new : ℕ) → g ≡ ask.group.generators → IsNumbered ask.group.generators action next → 1 ≤ degree → index < factorial degree ^ g
    → perm_tuples_below g degree + index + 1 ≡ next → 1 ≤ depth → depth ≤ length action.images * action.degree → NoneBegin ask action depth → NoneAmong (RefutedAt ask) 0 (next - 1) → next ≤ 4611686018427387904
    → cut ≡ min (stretch degree g depth) 18446744073709551615 → new ≡ min (next + (cut - index % cut)) 18446744073709551615 → (next < new) × NoneAmong (RefutedAt ask) 0 (new - 1)
passes ask action g next degree index depth cut new e numbered points within place some whole none before small is_cut is_new =
    let m : ℕ = ask.group.generators in
    let deep : depth ≤ m * degree = subst (λ n. depth ≤ n * degree) e (whole_in_block m g next degree index depth action e numbered points within place whole) in
    let cut_here : cut ≡ min (stretch degree m depth) 18446744073709551615 = is_cut ∙ ap (λ n. min (stretch degree n depth) 18446744073709551615) e in
    let ends = end_of_cut index (stretch degree m depth) cut next new (stretch-pos degree m depth) (omega (arith, place)) small cut_here is_new in
    (ends.0, none_in_stretch ask action next degree index depth new numbered points (subst (λ n. index < factorial degree ^ n) e within) (ap (λ n. perm_tuples_below n degree + index + 1) (sym e) ∙ place) some deep none before ends.1)

-- where it isn't cut off, it ends there
exact_of_cut : (i b cut next new : ℕ) → 1 ≤ b → i < next → next ≤ 4611686018427387904 → new ≤ 4611686018427387904 → cut ≡ min b 18446744073709551615 → new ≡ min (next + (cut - i % cut)) 18446744073709551615 → new ≡ next + (b - i % b)
exact_of_cut i b cut next new h below small less e f =
    elim (cases_lt 18446744073709551615 b) [
      | inl more ↦
          let all : i % cut ≡ i = mod-eq_of_lt (omega (arith, e, below, small, more)) in
          absurd (omega (arith, e, f, all, below, small, more, less))
      | inr few ↦
          let same : cut ≡ b = omega (arith, e, few) in
          let rest : i % cut ≡ i % b = ap (λ n. i % n) same in
          omega (arith, same, rest, f, less)
    ]

-- the first number behind a stretch
pub behind_stretch : (m g next degree index depth cut new : ℕ) (action : PermTuple) → g ≡ m → IsNumbered m action next → 1 ≤ degree → index < factorial degree ^ g → perm_tuples_below g degree + index + 1 ≡ next → next ≤ 4611686018427387904
    → cut ≡ min (stretch degree g depth) 18446744073709551615 → new ≡ min (next + (cut - index % cut)) 18446744073709551615 → new ≤ 4611686018427387904 → IsBehind action.degree (length action.images) depth next new
behind_stretch m g next degree index depth cut new action e numbered points within place small is_cut is_new less =
    let here : IsBehind degree g depth next new = record {
      index = index;
      place = place;
      rest = exact_of_cut index (stretch degree g depth) cut next new (stretch-pos degree g depth) (omega (arith, place)) small less is_cut is_new;
    } in
    subst (λ n. IsBehind action.degree n depth next new) (e ∙ sym numbered.is.count) (subst (λ n. IsBehind n g depth next new) (sym (degree_of_block m g next degree index action e numbered points within place)) here)
