-- What is settled stays settled, and a kept record that settles a key settles it for good.
use Rattle.std.proofs.Common.{◌≡◌, ◌≢◌, ℕ, zero, suc, ◌-◌, ◌<◌, ◌≤◌, List, [], ◌∷◌, ◌++◌, length, refl, ap, sym, ◌∙◌, subst, arith}
use Rattle.std.specs.Prelude.{Option, Some, slice_get}
use Rattle.mg_core.specs.declared.entries.Entry.{Entry}
use Rattle.mg_core.specs.Log.{facts_of, IsFact, Settled}
use Rattle.mg_core.proofs.Logs.{facts_of-append}

-- a member of the front is a member of the whole
pub get-front : {X : Type 0} (xs ys : List X) (i : ℕ) (x : X) → slice_get xs i ≡ Some x → slice_get (xs ++ ys) i ≡ Some x
get-front [] ys i x there = absurd (cc there)
get-front (y ∷ xs) ys zero x there = there
get-front (y ∷ xs) ys (suc i) x there = get-front xs ys i x there

-- before a member of the front all members are of the front
pub get-before : {X : Type 0} (xs ys : List X) (i j : ℕ) (x y : X) → slice_get xs i ≡ Some x → j ≤ i → slice_get (xs ++ ys) j ≡ Some y → slice_get xs j ≡ Some y
get-before [] ys i j x y there low at = absurd (cc there)
get-before (z ∷ xs) ys i zero x y there low at = at
get-before (z ∷ xs) ys zero (suc j) x y there low at = absurd (omega arith)
get-before (z ∷ xs) ys (suc i) (suc j) x y there low at = get-before xs ys i j x y there (omega arith) at

-- the first member behind the front
pub get-behind : {X : Type 0} (xs ys : List X) (y : X) → slice_get (xs ++ y ∷ ys) (length xs) ≡ Some y
get-behind [] ys y = refl
get-behind (x ∷ xs) ys y = get-behind xs ys y

-- up to the front's length members are of the front
pub get-within : {X : Type 0} (xs ys : List X) (j : ℕ) (y : X) → j < length xs → slice_get (xs ++ ys) j ≡ Some y → slice_get xs j ≡ Some y
get-within [] ys j y low at = absurd (omega arith)
get-within (x ∷ xs) ys zero y low at = at
get-within (x ∷ xs) ys (suc j) y low at = get-within xs ys j y (omega arith) at

module _ {R K : Type 0} (settles : R → Option K) where
  fact_grows : (log more : List (Entry R)) (n : ℕ) (r : R) → IsFact log n r → IsFact (log ++ more) n r
  fact_grows log more n r fact = record {
    from_one = fact.from_one;
    there = subst (λ (facts : List R). slice_get facts (n - 1) ≡ Some r) (sym (facts_of-append log more)) (get-front (facts_of log) (facts_of more) (n - 1) r fact.there);
  }

  fact_was : (log more : List (Entry R)) (n m : ℕ) (r q : R) → IsFact log n r → m < n → IsFact (log ++ more) m q → IsFact log m q
  fact_was log more n m r q fact low other = record {
    from_one = other.from_one;
    there = get-before (facts_of log) (facts_of more) (n - 1) (m - 1) r q fact.there (omega arith)
        (subst (λ (facts : List R). slice_get facts (m - 1) ≡ Some q) (facts_of-append log more) other.there);
  }

  -- what a log settles it settles with more behind it
  pub settled_grows : (log more : List (Entry R)) (key : K) → Settled settles log key → Settled settles (log ++ more) key
  settled_grows log more key s = (
    s.0,
    s.1,
    record {
      fact = fact_grows log more s.0 s.1 s.2.fact;
      verdict = s.2.verdict;
      first = λ m q low other. s.2.first m q low (fact_was log more s.0 m s.1 q s.2.fact low other);
    },
  )

  -- where nothing settles the key, no fact does
  pub none_settles : (log : List (Entry R)) (key : K) → (Settled settles log key → ⊥) → (fuel m : ℕ) (q : R) → m ≤ fuel → IsFact log m q → settles q ≢ Some key
  none_settles log key unsettled zero m q few fact verdict = let low = fact.from_one in absurd (omega arith)
  none_settles log key unsettled (suc fuel) m q few fact verdict =
      unsettled (m, q, record { fact = fact; verdict = verdict; first = λ k r low other. none_settles log key unsettled fuel k r (omega arith) other })

  -- a kept entry whose first record settles a key that wasn't settled settles it
  pub kept_settles : (log : List (Entry R)) (entry : Entry R) (first : R) (rest : List R) (key : K) → (Settled settles log key → ⊥) → facts_of (entry ∷ []) ≡ first ∷ rest → settles first ≡ Some key → Settled settles (log ++ entry ∷ []) key
  kept_settles log entry first rest key unsettled brings verdict =
      let facts : facts_of (log ++ entry ∷ []) ≡ facts_of log ++ first ∷ rest = facts_of-append log (entry ∷ []) ∙ ap (λ (fs : List R). facts_of log ++ fs) brings in
      let place : suc (length (facts_of log)) - 1 ≡ length (facts_of log) = omega arith in (
        suc (length (facts_of log)),
        first,
        record {
          fact = record {
            from_one = omega arith;
            there = subst (λ (fs : List R). slice_get fs (suc (length (facts_of log)) - 1) ≡ Some first) (sym facts)
                (subst (λ (i : ℕ). slice_get (facts_of log ++ first ∷ rest) i ≡ Some first) (sym place) (get-behind (facts_of log) rest first));
          };
          verdict = verdict;
          first = λ m q low other.
              let one = other.from_one in
              none_settles log key unsettled m m q (omega arith)
              (record { from_one = other.from_one; there = get-within (facts_of log) (first ∷ rest) (m - 1) q (omega arith) (subst (λ (fs : List R). slice_get fs (m - 1) ≡ Some q) facts other.there) });
        },
      )
