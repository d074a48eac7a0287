-- A sum is kept while the map changes: a residue that is raised by one adds to it what its generator brings.
use Rattle.std.proofs.Common.{◌≡◌, ℕ, zero, suc, ◌+◌, ◌-◌, ◌*◌, ◌/◌, ◌%◌, ◌<◌, ◌≤◌, Bool, true, false, ℤ, List, [], ◌∷◌, length, sum_by, get_or, set, replicate, refl, sym, ap, subst, ◌∙◌, inl, inr, arith}
use Rattle.std.specs.Prelude.{slice_index_or}
use Rattle.std.proofs.Math.Nat.{one-mul, add-mul, mul-add, zero-mul, mul_comm, zero-mod, mod_self, mod-add-mod, add-mod-mod, mul-add-mod_self_right, div-add-mod'}
use Rattle.std.proofs.lemmas.Nat.{mod_below, mod-mul-add}
use Rattle.std.proofs.lemmas.Bool.{cases_lt, cases_eq}
use Rattle.std.proofs.lemmas.List.{length-set, length-replicate, get_or-set_same, get_or-set_other, get_or_default}
use Rattle.std.proofs.lemmas.List.Elements.{All-get_or}
use Rattle.mg_words.specs.Word.{IsOver}
use Rattle.mg_numbers.specs.Residues.{ResidueTuple, IsResidueTuple}
use Rattle.mg_cyclic.specs.Map.{residue_of_word, added_by_letter}
use Rattle.mg_cyclic.specs.Exponents.{DependsOnFirst, Tallies, IsTally, tallied, brought}
use Rattle.mg_cyclic.specs.Kept.{IsKept, Keep, IsStepsAt, IsRaised, IsRenewed, IsNextOne}
use Rattle.mg_cyclic.specs.declared.kept.Kept.{Kept}
use Rattle.mg_cyclic.proofs.Sums.{tuple}

-- where all residues are 0, every word sums to 0
tallied_nothing : (n g : ℕ) (ps ms : List ℕ) → tallied n ps ms (replicate g 0) % n ≡ 0
tallied_nothing n zero ps ms = zero-mod n
tallied_nothing n (suc g) [] ms = zero-mod n
tallied_nothing n (suc g) (p ∷ ps) [] = zero-mod n
tallied_nothing n (suc g) (p ∷ ps) (m ∷ ms) =
    let zeros : List ℕ = replicate g 0 in
    let whole : p * 0 + m * (n - 0) + tallied n ps ms zeros ≡ m * n + tallied n ps ms zeros = omega (arith, mul_comm p 0, zero-mul p, let e : n - 0 ≡ n = omega arith in ap (λ k. m * k) e) in
    ap (λ k. k % n) whole ∙ mul-add-mod_self_right m n (tallied n ps ms zeros) ∙ tallied_nothing n g ps ms

pub sums_to_nothing : (n g letters : ℕ) (ps ms : List ℕ) (w : List ℤ) → g ≤ 64 → IsOver g w → Tallies ps ms w → IsTally letters ps ms → residue_of_word (tuple n (replicate g 0)) w ≡ 0
sums_to_nothing n g letters ps ms w few over tallies tally =
    let long : length (replicate g 0) ≡ g = length-replicate {A = ℕ} g 0 in
    ap (λ k. k % n) (tallies (tuple n (replicate g 0)) (subst (λ k. IsOver k w) (sym long) over) (omega (arith, long, few, tally.plus_count)) (omega (arith, long, few, tally.minus_count))) ∙ tallied_nothing n g ps ms

pub kept_nothing : (n g : ℕ) (w : List ℤ) (row : Kept) → g ≤ 64 → IsOver g w → Tallies row.tally.plus row.tally.minus w → IsTally (length w) row.tally.plus row.tally.minus → DependsOnFirst g row.reach w → IsStepsAt n row → row.sum ≡ 0 → IsKept (tuple n (replicate g 0)) w row
kept_nothing n g w row few over tallies tally depends steps sum =
    let long : length (replicate g 0) ≡ g = length-replicate {A = ℕ} g 0 in
    record {
      over = subst (λ k. IsOver k w) (sym long) over;
      tallies = tallies;
      tally = tally;
      depends = subst (λ k. DependsOnFirst k row.reach w) (sym long) depends;
      steps = steps;
      sums = sum ∙ sym (sums_to_nothing n g (length w) row.tally.plus row.tally.minus w few over tallies tally);
    }

-- another residue of one generator
tallied-set : (n i v : ℕ) (ps ms xs : List ℕ) → i < length xs → length xs ≤ length ps → length xs ≤ length ms
    → tallied n ps ms (set xs i v) + (get_or ps i 0 * get_or xs i 0 + get_or ms i 0 * (n - get_or xs i 0)) ≡ tallied n ps ms xs + (get_or ps i 0 * v + get_or ms i 0 * (n - v))
tallied-set n i v ps ms [] h j k = absurd (omega (arith, h))
tallied-set n i v [] ms (x ∷ xs) h j k = absurd (omega (arith, j))
tallied-set n i v (p ∷ ps) [] (x ∷ xs) h j k = absurd (omega (arith, k))
tallied-set n zero v (p ∷ ps) (m ∷ ms) (x ∷ xs) h j k = omega arith
tallied-set n (suc i) v (p ∷ ps) (m ∷ ms) (x ∷ xs) h j k = omega (arith, tallied-set n i v ps ms xs (omega (arith, h)) (omega (arith, j)) (omega (arith, k)))

pub stays_below : (n x : ℕ) → x < n → x % n ≡ x
stays_below n x h =
    let whole : 0 * n + x ≡ x = omega (arith, zero-mul n) in
    ap (λ k. k % n) (sym whole) ∙ mod-mul-add 0 n x h

-- the next residue adds what stands so often, less what its inverse does, but for multiples of the modulus
turned : (p m x n : ℕ) → x < n → (a : ℕ) × (b : ℕ) × (p * ((x + 1) % n) + m * (n - (x + 1) % n) + m + a * n ≡ p * x + m * (n - x) + p + b * n)
turned p m x n h =
    elim (cases_lt (x + 1) n) [
      | inl up ↦
          let v : (x + 1) % n ≡ x + 1 = stays_below n (x + 1) up in
          let left : n - x ≡ n - (x + 1) + 1 = omega (arith, up) in
          (0, 0, ap (λ k. p * k + m * (n - k) + m + 0 * n) v ∙ omega (arith, mul-add p x 1, mul-add m (n - (x + 1)) 1, ap (λ k. m * k) left))
      | inr last ↦
          let whole : x + 1 ≡ n = omega (arith, h, last) in
          let v : (x + 1) % n ≡ 0 = ap (λ k. k % n) whole ∙ mod_self n in
          let left : n - x ≡ 1 = omega (arith, whole) in
          let all : n - 0 ≡ n = omega arith in
          (p, m, ap (λ k. p * k + m * (n - k) + m + p * n) v ∙ omega (arith, mul_comm p 0, zero-mul p, ap (λ k. m * k) all, ap (λ k. m * k) left, ap (λ k. p * k) whole, mul-add p x 1))
    ]

-- so the new sum is the old one and what the generator brings
sum_turned : (p m n t u a b : ℕ) → 0 < n → u + m + a * n ≡ t + p + b * n → u % n ≡ (t % n + brought n p m) % n
sum_turned p m n t u a b some e =
    let z = n - m % n in
    let q = m / n in
    let times : (a + (q + 1)) * n ≡ a * n + (q * n + n) = add-mul a (q + 1) n ∙ ap (λ k. a * n + k) (add-mul q 1 n ∙ ap (λ k. q * n + k) (one-mul n)) in
    let level : b * n + (t + (p + z)) ≡ (a + (q + 1)) * n + u = omega (arith, e, times, div-add-mod' m n, mod_below m n some) in
    let swap : (t : ℕ) → (r : ℕ) → t + (r + z) ≡ r + (t + z) = λ t r. omega arith in
    sym (mul-add-mod_self_right (a + (q + 1)) n u) ∙ ap (λ k. k % n) (sym level) ∙ mul-add-mod_self_right b n (t + (p + z))
    ∙ ap (λ k. k % n) (swap t p) ∙ sym (mod-add-mod p n (t + z)) ∙ ap (λ k. k % n) (sym (swap t (p % n)))
    ∙ sym (add-mod-mod t (p % n + z) n) ∙ sym (mod-add-mod t n (brought n p m))

-- what is brought, by the exponent sum without its sign
is_brought : (p m n u a b : ℕ) → u < n → u + m + a * n ≡ p + b * n → u ≡ brought n p m
is_brought p m n u a b less e =
    let k = p % n + (n - m % n) in
    let none : 0 % n + brought n p m ≡ 0 + k % n = omega (arith, zero-mod n) in
    let whole : 0 + k ≡ k = omega arith in
    sym (stays_below n u less) ∙ sum_turned p m n 0 u a b (omega (arith, less)) (omega (arith, e)) ∙ ap (λ j. j % n) none ∙ add-mod-mod 0 k n ∙ ap (λ j. j % n) whole

pub brought_forth : (p m n : ℕ) → 2 ≤ n → m ≤ p → (p - m + (m - p)) % n ≡ brought n p m
brought_forth p m n some h =
    let d = p - m + (m - p) in
    is_brought p m n (d % n) (d / n) 0 (mod_below d n (omega (arith, some))) (omega (arith, h, div-add-mod' d n, zero-mul n))

pub brought_back : (p m n : ℕ) → 2 ≤ n → p < m → 0 < (p - m + (m - p)) % n → n - (p - m + (m - p)) % n ≡ brought n p m
brought_back p m n some h rest =
    let d = p - m + (m - p) in
    let times : (d / n + 1) * n ≡ d / n * n + n = add-mul (d / n) 1 n ∙ ap (λ k. d / n * n + k) (one-mul n) in
    is_brought p m n (n - d % n) 0 (d / n + 1) (omega (arith, some, rest)) (omega (arith, h, times, div-add-mod' d n, zero-mul n, mod_below d n (omega (arith, some))))

pub brought_nothing : (p m n : ℕ) → 2 ≤ n → (p - m + (m - p)) % n ≡ 0 → 0 ≡ brought n p m
brought_nothing p m n some rest =
    let d = p - m + (m - p) in
    elim (cases_lt p m) [
      | inl less ↦ is_brought p m n 0 0 (d / n) (omega (arith, some)) (omega (arith, less, rest, div-add-mod' d n, zero-mul n))
      | inr more ↦ is_brought p m n 0 (d / n) 0 (omega (arith, some)) (omega (arith, more, rest, div-add-mod' d n, zero-mul n))
    ]

-- changing the residue of one generator changes the residue of the word by what the generator brings
word_turned : (place letters : ℕ) (s t : ResidueTuple) (w : List ℤ) (ps ms : List ℕ) → length s.residues ≤ 64 → IsOver (length s.residues) w → Tallies ps ms w → IsTally letters ps ms → IsNextOne place s t
    → residue_of_word t w ≡ (residue_of_word s w + brought s.modulus (get_or ps place 0) (get_or ms place 0)) % s.modulus
word_turned place letters s t w ps ms few over tallies tally turn =
    let n = s.modulus in
    let xs = s.residues in
    let x = get_or xs place 0 in
    let v = (x + 1) % n in
    let p = get_or ps place 0 in
    let m = get_or ms place 0 in
    let less : x < n = All-get_or (λ x. x < n) xs place 0 turn.there turn.is.below in
    let long : length t.residues ≡ length xs = ap length turn.residues ∙ length-set xs place v in
    let plus : length xs ≤ length ps = omega (arith, few, tally.plus_count) in
    let minus : length xs ≤ length ms = omega (arith, few, tally.minus_count) in
    let of_s = tallies s over plus minus in
    let of_t = tallies t (subst (λ k. IsOver k w) (sym long) over) (omega (arith, long, plus)) (omega (arith, long, minus)) in
    let changed = tallied-set n place v ps ms xs turn.there plus minus in
    let c = turned p m x n less in
    ap (λ k. k % t.modulus) of_t ∙ ap (λ k. tallied k ps ms t.residues % k) turn.modulus ∙ ap (λ l. tallied n ps ms l % n) turn.residues
    ∙ sum_turned p m n (tallied n ps ms xs) (tallied n ps ms (set xs place v)) c.0 c.1 (omega (arith, less)) (omega (arith, changed, c.2))
    ∙ ap (λ k. (k % n + brought n p m) % n) (sym of_s)

kept_raised : (place : ℕ) (s t : ResidueTuple) (w : List ℤ) (old new : Kept) → length s.residues ≤ 64 → IsNextOne place s t → IsRaised s.modulus place old new → IsKept s w old → IsKept t w new
kept_raised place s t w old new few turn raised kept =
    let long : length t.residues ≡ length s.residues = ap length turn.residues ∙ length-set s.residues place _ in
    let n = s.modulus in
    let some : 0 < n = omega (arith, turn.is.proper) in
    let p = get_or old.tally.plus place 0 in
    let m = get_or old.tally.minus place 0 in
    let step : get_or old.steps place 0 ≡ brought n p m = kept.steps place (omega (arith, turn.there, few)) in
    record {
      over = subst (λ k. IsOver k w) (sym long) kept.over;
      tallies = subst (λ a. Tallies a.plus a.minus w) (sym raised.tally) kept.tallies;
      tally = subst (λ a. IsTally (length w) a.plus a.minus) (sym raised.tally) kept.tally;
      depends = subst (λ r. DependsOnFirst (length t.residues) r w) (sym raised.reach) (subst (λ k. DependsOnFirst k old.reach w) (sym long) kept.depends);
      steps = λ k below. ap (λ l. get_or l k 0) raised.steps ∙ kept.steps k below
          ∙ ap (λ a. brought n (get_or a.plus k 0) (get_or a.minus k 0)) (sym raised.tally) ∙ ap (λ j. brought j (get_or new.tally.plus k 0) (get_or new.tally.minus k 0)) (sym turn.modulus);
      sums = raised.sum (omega (arith, kept.sums, mod_below (sum_by (added_by_letter s) w) n some)) (omega (arith, step, mod_below (p % n + (n - m % n)) n some))
          ∙ ap (λ k. (old.sum + k) % n) step ∙ ap (λ k. (k + brought n (get_or old.tally.plus place 0) (get_or old.tally.minus place 0)) % n) kept.sums
          ∙ sym (word_turned place (length w) s t w old.tally.plus old.tally.minus few kept.over kept.tallies kept.tally turn);
    }

-- a row whose table is renewed, where all residues are 0
kept_renewed : (n g : ℕ) (s : ResidueTuple) (w : List ℤ) (old new : Kept) → g ≤ 64 → s.residues ≡ replicate g 0 → IsRenewed n old new → IsKept s w old → IsKept (tuple n (replicate g 0)) w new
kept_renewed n g s w old new few zeros renewed kept =
    let long : length s.residues ≡ g = ap length zeros ∙ length-replicate {A = ℕ} g 0 in
    let over = subst (λ k. IsOver k w) long kept.over in
    let tallies = subst (λ a. Tallies a.plus a.minus w) (sym renewed.tally) kept.tallies in
    let tally = subst (λ a. IsTally (length w) a.plus a.minus) (sym renewed.tally) kept.tally in
    kept_nothing n g w new few over tallies tally
    (subst (λ r. DependsOnFirst g r w) (sym renewed.reach) (subst (λ k. DependsOnFirst k old.reach w) long kept.depends)) renewed.steps
    (renewed.sum ∙ kept.sums ∙ ap (λ l. residue_of_word (tuple s.modulus l) w) zeros ∙ sums_to_nothing s.modulus g (length w) old.tally.plus old.tally.minus w few over kept.tallies kept.tally)

-- rows of which those up to a place are changed in a way, and the others not yet
pub record ChangedUpTo (Is : Kept → Kept → Type 0) (i : ℕ) (old new : List Kept) : Type 0 where
  pub count : length new ≡ length old
  pub done : (k : ℕ) → (row : Kept) → k < i → Is (get_or old k row) (get_or new k row)
  pub left : (k : ℕ) → (row : Kept) → i ≤ k → get_or new k row ≡ get_or old k row

pub changed_more : (Is : Kept → Kept → Type 0) (i : ℕ) (old new : List Kept) (d next : Kept) → i < length old → Is (get_or new i d) next → ChangedUpTo Is i old new → ChangedUpTo Is (i + 1) old (set new i next)
changed_more Is i old new d next there changed before =
    let long : length (set new i next) ≡ length new = length-set new i next in
    record {
      count = long ∙ before.count;
      done = λ k row below. elim (cases_eq k i) [
        | inl here ↦
            let put : get_or (set new i next) k row ≡ next = ap (λ j. get_or (set new i next) j row) here ∙ get_or-set_same new i next row (omega (arith, there, before.count)) in
            let was : get_or new i d ≡ get_or old k row = get_or_default new i d row (omega (arith, there, before.count)) ∙ before.left i row (omega arith) ∙ ap (λ j. get_or old j row) (sym here) in
            subst (λ r. Is (get_or old k row) r) (sym put) (subst (λ r. Is r next) was changed)
        | inr other ↦ subst (λ r. Is (get_or old k row) r) (sym (get_or-set_other new i k next row other)) (before.done k row (omega (arith, below, other)))
      ];
      left = λ k row beyond. get_or-set_other new i k next row (λ e. absurd (omega (arith, e, beyond))) ∙ before.left k row (omega (arith, beyond));
    }

pub keep_raised : (place : ℕ) (words : List (List ℤ)) (s t : ResidueTuple) (old new : List Kept) (i : ℕ) → length s.residues ≤ 64 → IsNextOne place s t → length old ≤ i → ChangedUpTo (IsRaised s.modulus place) i old new → Keep words s old → Keep words t new
keep_raised place words s t old new i few turn whole raised keep =
    record {
      count = raised.count ∙ keep.count;
      each = λ k row below. kept_raised place s t (slice_index_or words k []) (get_or old k row) (get_or new k row) few turn (raised.done k row (omega (arith, below, whole, keep.count))) (keep.each k row below);
    }

pub keep_renewed : (n g : ℕ) (words : List (List ℤ)) (s : ResidueTuple) (old new : List Kept) (i : ℕ) → g ≤ 64 → s.residues ≡ replicate g 0 → length old ≤ i → ChangedUpTo (IsRenewed n) i old new → Keep words s old → Keep words (tuple n s.residues) new
keep_renewed n g words s old new i few zeros whole renewed keep =
    subst (λ l. Keep words (tuple n l) new) (sym zeros)
    (record {
      count = renewed.count ∙ keep.count;
      each = λ k row below. kept_renewed n g s (slice_index_or words k []) (get_or old k row) (get_or new k row) few zeros (renewed.done k row (omega (arith, below, whole, keep.count))) (keep.each k row below);
    })

-- a table of which the places before i are filled
pub filled_more : (f : ℕ → ℕ) (i x : ℕ) (old : List ℕ) → i < length old → x ≡ f i → ((k : ℕ) → k < i → get_or old k 0 ≡ f k) → (k : ℕ) → k < i + 1 → get_or (set old i x) k 0 ≡ f k
filled_more f i x old there put before k below =
    elim (cases_eq k i) [
      | inl here ↦ ap (λ j. get_or (set old i x) j 0) here ∙ get_or-set_same old i x 0 there ∙ put ∙ ap f (sym here)
      | inr other ↦ get_or-set_other old i k x 0 other ∙ before k (omega (arith, below, other))
    ]

-- the sum below the modulus, or less the modulus
pub added_once : (n x y : ℕ) → x < n → y < n → n ≤ x + y → x + y - n ≡ (x + y) % n
added_once n x y less more over =
    let whole : 1 * n + (x + y - n) ≡ x + y = omega (arith, over, one-mul n) in
    sym (mod-mul-add 1 n (x + y - n) (omega (arith, less, more, over))) ∙ ap (λ k. k % n) whole

-- the map that is raised at a place
pub next_one : (place : ℕ) (s t : ResidueTuple) (higher : Bool) → IsResidueTuple (length s.residues) s → place < length s.residues
    → (higher ≡ true → get_or s.residues place 0 + 1 < s.modulus) → (higher ≡ true → t ≡ tuple s.modulus (set s.residues place (get_or s.residues place 0 + 1)))
    → (higher ≡ false → get_or s.residues place 0 + 1 ≡ s.modulus) → (higher ≡ false → t ≡ tuple s.modulus (set s.residues place 0)) → IsNextOne place s t
next_one place s t true is there up raised last around =
    let x = get_or s.residues place 0 in
    let v : (x + 1) % s.modulus ≡ x + 1 = stays_below s.modulus (x + 1) (up refl) in
    record { is = is; there = there; modulus = ap (λ (u : ResidueTuple). u.modulus) (raised refl); residues = ap (λ (u : ResidueTuple). u.residues) (raised refl) ∙ ap (set s.residues place) (sym v) }
next_one place s t false is there up raised last around =
    let x = get_or s.residues place 0 in
    let v : (x + 1) % s.modulus ≡ 0 = ap (λ k. k % s.modulus) (last refl) ∙ mod_self s.modulus in
    record { is = is; there = there; modulus = ap (λ (u : ResidueTuple). u.modulus) (around refl); residues = ap (λ (u : ResidueTuple). u.residues) (around refl) ∙ ap (set s.residues place) (sym v) }
