use Rattle.std.proofs.Common.{◌≡◌, ℕ, suc, ◌+◌, ◌-◌, ◌*◌, ◌/◌, ◌%◌, ◌^◌, ◌<◌, ◌≤◌, List, [], ◌∷◌, ◌++◌, length, drop, take, set, map, All, sym, ◌∙◌, ap, subst, arith}
use Rattle.std.proofs.Math.Nat.{mul_comm, div-one, div-div-eq-div-mul, mod-eq_of_lt}
use Rattle.std.proofs.lemmas.Nat.{mod_below}
use borrow.Rule.Slice.PartMut.{put_mid, post_of}
use Rattle.std.proofs.lemmas.List.{drop_all, append_assoc, append-nil, length-append, length-map, length-drop, length-set, length-take-le, drop_at, drop-set-lt, take_rest, take_more_set}
use Rattle.std.proofs.lemmas.List.Elements.{All-weaker}
use Rattle.mg_numbers.specs.Blocks.{Earlier, IsNth}
use Rattle.mg_numbers.specs.Perms.{IsPerm, factorial}
use Rattle.mg_numbers.proofs.BlocksNth.{IsNth-nth}
use Rattle.mg_numbers.proofs.BlocksSteps.{digit_of_rest, rest_of_rest}
use Rattle.mg_numbers.proofs.PermsRank.{perm_at, bump, factorial-pos, IsPerm-perm_at, perms_ranking}

-- A list is filled from its end with a permutation of the last places, and the rest is what that doesn't tell of the index.
pub record PermFrom (index : ℕ) (out : List ℕ) (start rest : ℕ) : Type 0 where
  pub within : start ≤ length out
  pub left : rest ≡ index / factorial (length out - start)
  pub filled : drop start out ≡ perm_at (length out - start) (index % factorial (length out - start))

pub PermFrom-none : (index : ℕ) (out : List ℕ) → PermFrom index out (length out) index
PermFrom-none index out =
    let none : length out - length out ≡ 0 = omega arith in
    record {
      within = omega arith;
      left = sym (ap (λ k. index / factorial k) none ∙ div-one index);
      filled = drop_all (length out) out (omega arith) ∙ ap (λ k. perm_at k (index % factorial k)) (sym none);
    }

pub PermFrom-more : (index : ℕ) (out new : List ℕ) (start rest points q : ℕ) → 0 < start → PermFrom index out start rest → points ≡ length out - (start - 1) → q ≡ rest % points → length new ≡ length out → drop (start - 1) new ≡ q ∷ map (bump q) (drop start out) → PermFrom index new (start - 1) (rest / points)
PermFrom-more index out new start rest points q some d named image same front =
    let k = length out - start in
    let f = factorial k in
    let positive = factorial-pos k in
    let size : length new - (start - 1) ≡ suc k = omega (arith, same, d.within) in
    let next : points ≡ suc k = omega (arith, named, d.within) in
    let product : factorial (suc k) ≡ f * suc k = mul_comm (suc k) f in
    let more : rest % points ≡ index / f % suc k = ap (λ n. rest % n) next ∙ ap (λ n. n % suc k) d.left in
    let digit : index % factorial (suc k) / f ≡ q = ap (λ v. index % v / f) product ∙ digit_of_rest index f (suc k) positive (omega arith) ∙ sym more ∙ sym image in
    let below : index % factorial (suc k) % f ≡ index % f = ap (λ v. index % v % f) product ∙ rest_of_rest index f (suc k) positive (omega arith) in
    let all : perm_at (suc k) (index % factorial (suc k)) ≡ q ∷ map (bump q) (perm_at k (index % f)) = ap (λ n. n ∷ map (bump n) (perm_at k (index % factorial (suc k) % f))) digit ∙ ap (λ r. q ∷ map (bump q) (perm_at k r)) below in
    record {
      within = omega (arith, same, d.within);
      left = ap (λ n. rest / n) next ∙ ap (λ n. n / suc k) d.left ∙ div-div-eq-div-mul index f (suc k) ∙ ap (λ v. index / v) (sym product) ∙ ap (λ n. index / factorial n) (sym size);
      filled = front ∙ ap (λ l. q ∷ map (bump q) l) d.filled ∙ sym all ∙ ap (λ n. perm_at n (index % factorial n)) (sym size);
    }

-- the images there are small enough to be raised
pub PermFrom-small : (index : ℕ) (out : List ℕ) (start rest : ℕ) → length out < 2 ^ 32 → 0 < start → PermFrom index out start rest → All (λ x. x + 1 < 2 ^ 32) (drop start out)
PermFrom-small index out start rest few some d =
    let k = length out - start in
    let perm : IsPerm k (drop start out) = subst (IsPerm k) (sym d.filled) (IsPerm-perm_at k (index % factorial k) (mod_below index (factorial k) (factorial-pos k))) in
    All-weaker (λ x. x < k) (λ x. x + 1 < 2 ^ 32) (λ x h. omega (arith, d.within)) (drop start out) perm.below

-- at the first place the whole permutation is there
pub IsNth-from_loop : (index degree start rest : ℕ) (out : List ℕ) → start ≤ 0 → length out ≡ degree → index < factorial degree → PermFrom index out start rest → IsNth (IsPerm degree) Earlier (index + 1) out
IsNth-from_loop index degree start rest out none long there d =
    let first : start ≡ 0 = omega arith in
    let whole : length out - start ≡ degree = omega (arith, long) in
    let e : out ≡ perm_at degree index = ap (λ n. drop n out) (sym first) ∙ d.filled ∙ ap (λ n. perm_at n (index % factorial n)) whole ∙ ap (perm_at degree) (mod-eq_of_lt there) in
    subst (λ l. IsNth (IsPerm degree) Earlier (index + 1) l) (sym e) (IsNth-nth (IsPerm degree) Earlier (λ i. i < factorial degree) (perms_ranking degree) index there)

-- what stands behind the place that is written is what stood there
behind : (out : List ℕ) (start q : ℕ) → 0 < start → start ≤ length out → let now = set out (start - 1) q in take (length now - (start - 1 + 1)) (drop (start - 1 + 1) now) ≡ drop start out
behind out start q some within =
    let s = start - 1 in
    let now = set out s q in
    let e : s + 1 ≡ start = omega arith in
    take_rest now (s + 1) ∙ drop-set-lt (s + 1) out s q (omega arith) ∙ ap (λ n. drop n out) e

pub small_behind : (index : ℕ) (out : List ℕ) (start rest q : ℕ) → length out < 2 ^ 32 → 0 < start → PermFrom index out start rest → let now = set out (start - 1) q in All (λ x. x + 1 < 2 ^ 32) (take (length now - (start - 1 + 1)) (drop (start - 1 + 1) now))
small_behind index out start rest q few some d =
    subst (λ l. All (λ x. x + 1 < 2 ^ 32) l) (sym (behind out start q some d.within)) (PermFrom-small index out start rest few some d)

-- after the image is written and the later ones made room for it, the permutation has one place more
pub PermFrom-written : (index : ℕ) (out images : List ℕ) (start rest points q : ℕ) → 0 < start → PermFrom index out start rest → points ≡ length out - (start - 1) → q ≡ rest % points → let now = set out (start - 1) q in images ≡ map (bump q) (take (length now - (start - 1 + 1)) (drop (start - 1 + 1) now)) → PermFrom index (put_mid (start - 1 + 1) (length now - (start - 1 + 1)) now images) (start - 1) (rest / points)
PermFrom-written index out images start rest points q some d named image raised =
    let s = start - 1 in
    let now = set out s q in
    let m = length now - (s + 1) in
    let long : length now ≡ length out = length-set out s q in
    let tail : images ≡ map (bump q) (drop start out) = raised ∙ ap (map (bump q)) (behind out start q some d.within) in
    let after : post_of (s + 1) m now ≡ [] = drop_all m (drop (s + 1) now) (omega (arith, length-drop (s + 1) now)) in
    let front : take (s + 1) now ≡ take s out ++ q ∷ [] = take_more_set out s q (omega (arith, d.within)) in
    let whole : put_mid (s + 1) m now images ≡ take s out ++ q ∷ map (bump q) (drop start out) = ap (λ l. l ++ (images ++ post_of (s + 1) m now)) front ∙ append_assoc (take s out) (q ∷ []) (images ++ post_of (s + 1) m now) ∙ ap (λ l. take s out ++ q ∷ (images ++ l)) after ∙ ap (λ l. take s out ++ q ∷ l) (append-nil images ∙ tail) in
    let cut : length (take s out) ≡ s = length-take-le s out (omega (arith, d.within)) in
    let sizes : length (put_mid (s + 1) m now images) ≡ length out = ap length whole ∙ length-append (take s out) (q ∷ map (bump q) (drop start out)) ∙ omega (arith, cut, length-map (drop start out) (bump q), length-drop start out, d.within) in
    PermFrom-more index out (put_mid (s + 1) m now images) start rest points q some d named image sizes (ap (drop s) whole ∙ drop_at (take s out) (q ∷ map (bump q) (drop start out)) s cut)
