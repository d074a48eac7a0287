-- Lemmas on the first record of a list that settles a key, and on verdicts of a log with more behind it.
use Rattle.std.proofs.Common.{◌≡◌, ◌≢◌, ℕ, zero, suc, ◌+◌, ◌-◌, ◌<◌, ◌≤◌, ◌⊎◌, inl, inr, List, [], ◌∷◌, ◌++◌, length, take, Option, Some, ap, sym, ◌∙◌, subst, arith}
use Rattle.std.specs.Prelude.{slice_get}
use Rattle.std.specs.List.{AllByRecursion}
use Rattle.std.proofs.lemmas.Option.{slice_get_within}
use Rattle.mg_core.specs.declared.entries.Entry.{Entry}
use Rattle.mg_core.specs.Log.{facts_of, VerdictIn, Settled}
use Rattle.mg_core.specs.Index.{FirstAt, NoneSettles}

-- what stands at an index of two lists behind each other
pub get_left : {X : Type 0} (xs ys : List X) (i : ℕ) (x : X) → slice_get xs i ≡ Some x → slice_get (xs ++ ys) i ≡ Some x
get_left [] ys i x h = absurd (cc)
get_left (y ∷ xs) ys zero x h = h
get_left (y ∷ xs) ys (suc i) x h = get_left xs ys i x h

pub get_right : {X : Type 0} (xs ys : List X) (i : ℕ) → slice_get (xs ++ ys) (length xs + i) ≡ slice_get ys i
get_right [] ys i = (let e : 0 + i ≡ i = omega arith in ap (slice_get ys) e)
get_right (x ∷ xs) ys i =
    let e : length (x ∷ xs) + i ≡ suc (length xs + i) = omega arith in
    ap (slice_get (x ∷ (xs ++ ys))) e ∙ get_right xs ys i

pub get_either : {X : Type 0} (xs ys : List X) (i : ℕ) (x : X) → slice_get (xs ++ ys) i ≡ Some x → (slice_get xs i ≡ Some x) ⊎ ((k : ℕ) × (i ≡ length xs + k) × (slice_get ys k ≡ Some x))
get_either [] ys i x h = inr (i, omega arith, h)
get_either (y ∷ xs) ys zero x h = inl h
get_either (y ∷ xs) ys (suc i) x h = elim (get_either xs ys i x h) [ inl there ↦ inl there | inr there ↦ inr (there.0, omega (arith, there.1), there.2) ]

pub all_get : {X : Type 0} (P : X → Type 0) (xs : List X) (i : ℕ) (x : X) → AllByRecursion P xs → slice_get xs i ≡ Some x → P x
all_get P [] i x h there = absurd (cc)
all_get P (y ∷ xs) zero x h there = (let same : y ≡ x = cc in subst P same h.0)
all_get P (y ∷ xs) (suc i) x h there = all_get P xs i x h.1 there

pub all_map : {X : Type 0} (P Q : X → Type 0) (xs : List X) → ((x : X) → P x → Q x) → AllByRecursion P xs → AllByRecursion Q xs
all_map P Q [] f h = tt
all_map P Q (x ∷ xs) f h = (f x h.0, all_map P Q xs f h.1)

pub all_both : {X : Type 0} (P Q : X → Type 0) (xs : List X) → AllByRecursion P xs → AllByRecursion Q xs → AllByRecursion (λ x. P x × Q x) xs
all_both P Q [] f g = tt
all_both P Q (x ∷ xs) f g = ((f.0, g.0), all_both P Q xs f.1 g.1)

get_taken : {X : Type 0} (xs : List X) (i j : ℕ) (x : X) → j < i → slice_get xs j ≡ Some x → slice_get (take i xs) j ≡ Some x
get_taken [] i j x small h = absurd (cc)
get_taken (y ∷ xs) zero j x small h = absurd (omega (arith, small))
get_taken (y ∷ xs) (suc i) zero x small h = h
get_taken (y ∷ xs) (suc i) (suc j) x small h = get_taken xs i j x (omega (arith, small)) h

module _ {R K : Type 0} (settles : R → Option K) where
  -- the first that is met is the first one
  pub first_met : (xs : List R) (key : K) (i : ℕ) (r : R) → AllByRecursion (λ q. settles q ≢ Some key) (take i xs) → slice_get xs i ≡ Some r → settles r ≡ Some key → FirstAt settles xs key i r
  first_met xs key i r none there settled = record {
    there = there;
    settles_it = settled;
    before = λ j q small here. all_get (λ q. settles q ≢ Some key) (take i xs) j q none (get_taken xs i j q small here);
  }

  -- a verdict is the first fact that settles the key
  pub first_of_verdict : (log : List (Entry R)) (key : K) (n : ℕ) (r : R) → VerdictIn settles log key n r → FirstAt settles (facts_of log) key (n - 1) r
  first_of_verdict log key n r h = record {
    there = h.fact.there;
    settles_it = h.verdict;
    before = λ j q small there.
        let one : (j + 1) - 1 ≡ j = omega arith in
        h.first (j + 1) q (omega (arith, h.fact.from_one)) (record { from_one = omega arith; there = ap (slice_get (facts_of log)) one ∙ there });
  }

  pub verdict_of_first : (log : List (Entry R)) (key : K) (n : ℕ) (r : R) → 1 ≤ n → FirstAt settles (facts_of log) key (n - 1) r → VerdictIn settles log key n r
  verdict_of_first log key n r from_one h = record {
    fact = record { from_one = from_one; there = h.there };
    verdict = h.settles_it;
    first = λ m q small fact. h.before (m - 1) q (omega (arith, fact.from_one)) fact.there;
  }

  -- a first one stays it with more behind the list, and was it there, or stands in what came behind
  pub first_more : (xs ys : List R) (key : K) (i : ℕ) (r : R) → FirstAt settles xs key i r → FirstAt settles (xs ++ ys) key i r
  first_more xs ys key i r h = record {
    there = get_left xs ys i r h.there;
    settles_it = h.settles_it;
    before = λ j q small there. elim (get_either xs ys j q there) [ inl here ↦ h.before j q small here | inr behind ↦ absurd (omega (arith, slice_get_within xs i r h.there, behind.1, small)) ];
  }

  pub first_behind : (xs ys : List R) (key : K) (i : ℕ) (r : R) → AllByRecursion (λ q. settles q ≢ Some key) xs → FirstAt settles ys key i r → FirstAt settles (xs ++ ys) key (length xs + i) r
  first_behind xs ys key i r none h = record {
    there = get_right xs ys i ∙ h.there;
    settles_it = h.settles_it;
    before = λ j q small there. elim (get_either xs ys j q there) [ inl here ↦ all_get (λ q. settles q ≢ Some key) xs j q none here | inr behind ↦ h.before behind.0 q (omega (arith, behind.1, small)) behind.2 ];
  }

  -- of a log with these facts, the first that settles the key is its verdict
  pub verdict_at : (log : List (Entry R)) (facts : List R) (key : K) (i : ℕ) (r : R) → facts_of log ≡ facts → FirstAt settles facts key i r → VerdictIn settles log key (i + 1) r
  verdict_at log facts key i r same h =
      let one : (i + 1) - 1 ≡ i = omega arith in
      verdict_of_first log key (i + 1) r (omega arith) (subst (λ fs. FirstAt settles fs key ((i + 1) - 1) r) (sym same) (subst (λ j. FirstAt settles facts key j r) (sym one) h))

  -- where none settles the key, the log has no verdict for it
  pub not_settled : (log : List (Entry R)) (facts : List R) (key : K) → facts_of log ≡ facts → NoneSettles settles facts key → Settled settles log key → ⊥
  not_settled log facts key same none h =
      let first = first_of_verdict log key h.0 h.1 h.2 in
      all_get (λ r. settles r ≢ Some key) facts (h.0 - 1) h.1 none (subst (λ fs. slice_get fs (h.0 - 1) ≡ Some h.1) same first.there) first.settles_it
