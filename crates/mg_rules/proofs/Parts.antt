-- Two ways to cut one word, and words that end another.
use Rattle.std.proofs.Common.{◌≡◌, ◌≢◌, ℕ, zero, suc, ◌<◌, ◌⊎◌, ℤ, List, [], ◌∷◌, ◌++◌, length, refl, sym, ap, subst, ◌∙◌, inl, inr, arith}
use Rattle.std.specs.Prelude.{None, Some, slice_get}
use Rattle.std.specs.List.{AllByRecursion}
use Rattle.mg_rules.specs.Rule.{Rule, rule_numbered}

-- the first cut comes no later than the second one
pub record CutFirst (a b c d : List ℤ) : Type 0 where
  pub middle : List ℤ
  pub longer : c ≡ a ++ middle
  pub rest : b ≡ middle ++ d

-- the second cut comes before the first one
pub record CutLast (a b c d : List ℤ) : Type 0 where
  pub middle : List ℤ
  pub some : middle ≢ []
  pub longer : a ≡ c ++ middle
  pub rest : d ≡ middle ++ b

cons_not_nil : (x : ℤ) (xs : List ℤ) → x ∷ xs ≢ []
cons_not_nil x xs e = cc

pub cuts : (a b c d : List ℤ) → a ++ b ≡ c ++ d → CutFirst a b c d ⊎ CutLast a b c d
cuts [] b c d e = inl (record { middle = c; longer = refl; rest = e })
cuts (x ∷ a) b [] d e = inr (record { middle = x ∷ a; some = cons_not_nil x a; longer = refl; rest = sym e })
cuts (x ∷ a) b (y ∷ c) d e =
    let same : x ≡ y = cc in
    let tails : a ++ b ≡ c ++ d = cc in
    elim (cuts a b c d tails) [
      | inl cut ↦ inl (record { middle = cut.middle; longer = ap (λ t. y ∷ t) cut.longer ∙ ap (λ z. z ∷ (a ++ cut.middle)) (sym same); rest = cut.rest })
      | inr cut ↦ inr (record { middle = cut.middle; some = cut.some; longer = ap (λ t. x ∷ t) cut.longer ∙ ap (λ z. z ∷ (c ++ cut.middle)) same; rest = cut.rest })
    ]

-- beginnings of one length of one word are one
pub same_front : (a b c d : List ℤ) → a ++ b ≡ c ++ d → length a ≡ length c → (a ≡ c) × (b ≡ d)
same_front [] b [] d e h = (refl, e)
same_front [] b (y ∷ c) d e h = absurd (omega arith)
same_front (x ∷ a) b [] d e h = absurd (omega arith)
same_front (x ∷ a) b (y ∷ c) d e h =
    let same : x ≡ y = cc in
    let tails : a ++ b ≡ c ++ d = cc in
    let rest = same_front a b c d tails (omega arith) in
    (ap (λ t. x ∷ t) rest.0 ∙ ap (λ z. z ∷ c) same, rest.1)

-- a list is empty or has a last member
pub last_cases : (w : List ℤ) → (w ≡ []) ⊎ ((v : List ℤ) × (x : ℤ) × (w ≡ v ++ x ∷ []))
last_cases [] = inl refl
last_cases (x ∷ w) =
    elim (last_cases w) [
      | inl e ↦ inr ([], x, ap (λ t. x ∷ t) e)
      | inr last ↦ inr (x ∷ last.0, last.1, ap (λ t. x ∷ t) last.2)
    ]

pub empty_front : (a b : List ℤ) → a ++ b ≡ [] → a ≡ []
empty_front [] b e = refl
empty_front (x ∷ a) b e = cc

pub no_length : (w : List ℤ) → length w ≡ 0 → w ≡ []
no_length [] h = refl
no_length (x ∷ w) h = absurd (omega arith)

pub some_length : (w : List ℤ) → w ≢ [] → 0 < length w
some_length [] h = absurd (h refl)
some_length (x ∷ w) h = omega arith

pub from_length : (w : List ℤ) → 0 < length w → w ≢ []
from_length w h e = let n : length w ≡ 0 = ap length e in omega arith

-- ---- rules by their numbers

all_at : (P : Rule → Type 0) (rules : List Rule) (n : ℕ) (rule : Rule) → AllByRecursion P rules → slice_get rules n ≡ Some rule → P rule
all_at P [] n rule all e = absurd (let no : None ≡ Some rule = e in cc)
all_at P (r ∷ rules) zero rule all e = let same : r ≡ rule = cc in subst P same all.0
all_at P (r ∷ rules) (suc n) rule all e = all_at P rules n rule all.1 e

pub all_numbered : (P : Rule → Type 0) (rules : List Rule) (number : ℕ) (rule : Rule) → AllByRecursion P rules → rule_numbered rules number ≡ Some rule → P rule
all_numbered P rules zero rule all e = absurd (let no : None ≡ Some rule = e in cc)
all_numbered P rules (suc n) rule all e = all_at P rules n rule all e
