-- How units change the letters and the signs of a state.
use Rattle.std.proofs.Common.{◌≡◌, ℕ, ◌+◌, ◌*◌, ◌^◌, ◌<◌, ◌≤◌, Bool, true, false, ℤ, List, [], ◌∷◌, ◌++◌, set, length, refl, ap, ◌∙◌, add-one, arith}
use Rattle.std.proofs.Math.Nat.{pow-suc}
use Rattle.std.proofs.lemmas.List.{length-append}
use Rattle.std.proofs.lemmas.List.Sums.{sum_by-set, get_or-le-sum_by}
use Rattle.mg_words.specs.Reduction.{free_form}
use Rattle.mg_words.proofs.Chains.{length-inv}
use Rattle.mg_words.proofs.Free.{free_form-length}
use Rattle.mg_present.specs.Same.{signed}
use Rattle.mg_nielsen.specs.Expressed.{Expressed, empty, turned}
use Rattle.mg_nielsen.specs.Moves.{letters_in, signs_in, member_at, trim, trimmed, on_side, stepped, IsSingle, IsFactor, one, two, peeled}

signs_of : Expressed → ℕ
signs_of e = length e.signs

-- the sums change by one member
pub letters_set : (list : List Expressed) (i : ℕ) (e : Expressed) → i < length list → letters_in (set list i e) + length (member_at list i).word ≡ letters_in list + length e.word
letters_set list i e below = sum_by-set (λ (e : Expressed). length e.word) list i e empty below

pub signs_set : (list : List Expressed) (i : ℕ) (e : Expressed) → i < length list → signs_in (set list i e) + length (member_at list i).signs ≡ signs_in list + length e.signs
signs_set list i e below = sum_by-set (λ (e : Expressed). length e.signs) list i e empty below

-- one member has no more signs than all
pub signs_at : (list : List Expressed) (i : ℕ) → i < length list → length (member_at list i).signs ≤ signs_in list
signs_at list i below = get_or-le-sum_by (λ (e : Expressed). length e.signs) list i empty below

signed_length : (inverse : Bool) (w : List ℤ) → length (signed inverse w) ≡ length w
signed_length false w = refl
signed_length true w = length-inv w

product_length : (u v : List ℤ) → length (free_form (u ++ v)) ≤ length u + length v
product_length u v = omega (arith, free_form-length (u ++ v), length-append u v)

trim_signs : (word signs : List ℤ) → length (trim word signs).signs ≤ length signs
trim_signs [] signs = omega arith
trim_signs (x ∷ word) signs = omega arith

side_signs : (left : Bool) (m f : Expressed) → length (on_side left m f).signs ≤ length m.signs + length f.signs
side_signs false m f = product_length m.signs f.signs
side_signs true m f = omega (arith, product_length f.signs m.signs)

pub stepped_signs : (members : List Expressed) (place other : ℕ) (inverse left : Bool) → other < length members
    → length (trimmed (stepped members place other inverse left)).signs ≤ length (member_at members place).signs + signs_in members
stepped_signs members place other inverse left there =
    let e : Expressed = stepped members place other inverse left in
    omega (
      arith,
      trim_signs e.word e.signs,
      side_signs left (member_at members place) (turned inverse (member_at members other)),
      signed_length inverse (member_at members other).signs,
      signs_at members other there,
    )

single_signs : (members : List Expressed) (p : Expressed) → IsSingle members p → length p.signs ≤ signs_in members
single_signs members p s =
    omega (arith, ap (λ (e : Expressed). length e.signs) s.is, signed_length s.inverse (member_at members s.place).signs, signs_at members s.place s.there)

factor_signs : (members : List Expressed) (p : Expressed) → IsFactor members p → length p.signs ≤ signs_in members + signs_in members
factor_signs members p (one s) = omega (arith, single_signs members p s)
factor_signs members p (two a b s t e) =
    omega (arith, ap (λ (e : Expressed). length e.signs) e, product_length a.signs b.signs, single_signs members a s, single_signs members b t)

pub peeled_signs : (members : List Expressed) (p rest : Expressed) → IsFactor members p → length (peeled p rest).signs ≤ length rest.signs + signs_in members + signs_in members
peeled_signs members p rest f = omega (arith, product_length rest.signs p.signs, factor_signs members p f)

-- three times as many signs with each unit
turned_round : (k x : ℕ) → k * (x * 3) ≡ 3 * (k * x)
turned_round k x = grind arith

power_next : (k n : ℕ) → k * 3 ^ (n + 1) ≡ 3 * (k * 3 ^ n)
power_next k n = ap (λ e. k * 3 ^ e) (add-one n) ∙ (ap (λ x. k * x) (pow-suc 3 n) ∙ turned_round k (3 ^ n))

pub growth_next : (k n held after : ℕ) → held ≤ k * 3 ^ n → after ≤ 3 * held → after ≤ k * 3 ^ (n + 1)
growth_next k n held after h l = omega (arith, power_next k n)
