use Rattle.std.proofs.Common.{◌≡◌, ◌≢◌, ◌↔◌, ℕ, zero, suc, ◌+◌, ◌-◌, ◌<◌, ◌≤◌, ◌⊎◌, List, [], ◌∷◌, length, map, get_or, refl, sym, ◌∙◌, ap, subst, inl, inr, arith}
use Rattle.std.proofs.Math.Nat.{lt_irrefl}
use Rattle.std.specs.List.{Contains, AllPairs, range_with_len}
use Rattle.std.proofs.lemmas.List.FromFn.{length-map-range_with_len, get_or-map-range_with_len}
use Rattle.mg_numbers.specs.Blocks.{IsNth}

-- y is in the list, by cases on the list
abbrev In : {X : Type 0} → List X → X → Type 0
In [] y = ⊥
In (x ∷ xs) y = (x ≡ y) ⊎ In xs y

In-from_Contains : {X : Type 0} (xs : List X) (y : X) → Contains xs y → In xs y
In-from_Contains [] y (k, l, e) = omega arith
In-from_Contains (x ∷ xs) y (zero, l, e) = inl e
In-from_Contains (x ∷ xs) y (suc k, l, e) = inr (In-from_Contains xs y (k, omega arith, e))

Contains-from_In : {X : Type 0} (xs : List X) (y : X) → In xs y → Contains xs y
Contains-from_In [] y h = absurd h
Contains-from_In (x ∷ xs) y (inl e) = (0, omega arith, e)
Contains-from_In (x ∷ xs) y (inr h) = let r = Contains-from_In xs y h in (suc r.0, omega arith, r.2)

-- the list without one place of y
abbrev without : {X : Type 0} (ys : List X) (y : X) → In ys y → List X
without [] y h = []
without (x ∷ ys) y (inl e) = ys
without (x ∷ ys) y (inr h) = x ∷ without ys y h

length-without : {X : Type 0} (ys : List X) (y : X) (h : In ys y) → suc (length (without ys y h)) ≡ length ys
length-without [] y h = absurd h
length-without (x ∷ ys) y (inl e) = refl
length-without (x ∷ ys) y (inr h) = ap suc (length-without ys y h)

-- whatever isn't y stays
In-without : {X : Type 0} (ys : List X) (y z : X) (h : In ys y) → y ≢ z → In ys z → In (without ys y h) z
In-without [] y z h other i = absurd h
In-without (x ∷ ys) y z (inl e) other (inl f) = absurd (other (sym e ∙ f))
In-without (x ∷ ys) y z (inl e) other (inr i) = i
In-without (x ∷ ys) y z (inr h) other (inl f) = inl f
In-without (x ∷ ys) y z (inr h) other (inr i) = inr (In-without ys y z h other i)

-- a list of things no two of which are alike is no longer than one that has them all
length-le-from_apart : {X : Type 0} (xs ys : List X) → AllPairs (λ x y. x ≢ y) xs → ((z : X) → In xs z → In ys z) → length xs ≤ length ys
length-le-from_apart [] ys apart sub = omega arith
length-le-from_apart {X} (x ∷ xs) ys apart sub =
    let h = sub x (inl refl) in
    let others : (z : X) → In xs z → In (without ys x h) z = λ z i. let k = Contains-from_In xs z i in In-without ys x z h (λ e. apart 0 (suc k.0) z (omega arith) (omega (arith, k.1)) (e ∙ sym k.2)) (sub z (inr i)) in
    omega (arith, length-le-from_apart xs (without ys x h) (λ i j d a b. apart (suc i) (suc j) d (omega arith) (omega arith)) others, length-without ys x h)

-- a thing has one number
pub IsNth-one_number : {A : Type 0} (P : A → Type 0) (Before : A → A → Type 0) (n m : ℕ) (x : A) → IsNth P Before n x → IsNth P Before m x → n ≡ m
IsNth-one_number P Before n m x a b =
    omega (arith, a.number, b.number, length-le-from_apart a.earlier b.earlier a.once (λ z i. In-from_Contains b.earlier z ((b.just z).1 ((a.just z).0 (Contains-from_In a.earlier z i)))), length-le-from_apart b.earlier a.earlier b.once (λ z i. In-from_Contains a.earlier z ((a.just z).1 ((b.just z).0 (Contains-from_In b.earlier z i)))))

-- The things that are P are numbered from 0 in their order, by rank, and nth is the way back from each number that there is.
pub record Ranking {A : Type 0} (P : A → Type 0) (Before : A → A → Type 0) (Fits : ℕ → Type 0) : Type 0 where
  pub rank : A → ℕ
  pub nth : ℕ → A
  pub fits : (x : A) → P x → Fits (rank x)
  pub is : (i : ℕ) → Fits i → P (nth i)
  pub back : (x : A) → P x → nth (rank x) ≡ x
  pub forth : (i : ℕ) → Fits i → rank (nth i) ≡ i
  pub rises : (x y : A) → P x → P y → Before x y → rank x < rank y
  pub total : (x y : A) → P x → P y → Before x y ⊎ ((x ≡ y) ⊎ Before y x)
  pub lower : (i j : ℕ) → i < j → Fits j → Fits i

module _ {A : Type 0} (P : A → Type 0) (Before : A → A → Type 0) (Fits : ℕ → Type 0) (r : Ranking P Before Fits) where
  -- what has a lower rank comes before
  pub Before-from_rank : (x y : A) → P x → P y → r.rank x < r.rank y → Before x y
  Before-from_rank x y p q below =
      elim (r.total x y p q) [ inl b ↦ b | inr (inl e) ↦ absurd (lt_irrefl (r.rank y) (subst (λ z. r.rank z < r.rank y) e below)) | inr (inr b) ↦ absurd (omega (arith, r.rises y x q p b)) ]

  -- the things of the ranks below i
  first_of_rank : ℕ → List A
  first_of_rank i = map r.nth (range_with_len 0 i)

  -- the thing of rank i is the one with the number i + 1
  pub IsNth-nth : (i : ℕ) → Fits i → IsNth P Before (i + 1) (r.nth i)
  unfolding first_of_rank
  IsNth-nth i there =
      let at : (k : ℕ) → (d : A) → k < i → get_or (first_of_rank i) k d ≡ r.nth k = λ k d l. get_or-map-range_with_len r.nth 0 i k k d l (omega arith) in
      let long : length (first_of_rank i) ≡ i = length-map-range_with_len r.nth 0 i in
      record {
        is = r.is i there;
        earlier = first_of_rank i;
        once = λ a b d below within e. omega (arith, long, sym (r.forth a (r.lower a i (omega (arith, long)) there)) ∙ ap r.rank (sym (at a d (omega (arith, long))) ∙ e ∙ at b d (omega (arith, long))) ∙ r.forth b (r.lower b i (omega (arith, long)) there));
        just = λ y. (
          λ has. let k = has.0 in
              let small : k < i = omega (arith, long, has.1) in
              let fits : Fits k = r.lower k i small there in
              let same : r.nth k ≡ y = sym (at k y small) ∙ has.2 in
              (subst P same (r.is k fits), Before-from_rank y (r.nth i) (subst P same (r.is k fits)) (r.is i there) (omega (arith, small, r.forth i there, sym (r.forth k fits) ∙ ap r.rank same))),
          λ h. let small : r.rank y < i = omega (arith, r.rises y (r.nth i) h.0 (r.is i there) h.1, r.forth i there) in
              (r.rank y, omega (arith, long, small), at (r.rank y) y small ∙ r.back y h.0),
        );
        number = ap (λ n. n + 1) (sym long);
      }

  -- each number from 1 that there is belongs to something
  pub each_number : (n : ℕ) → 1 ≤ n → Fits (n - 1) → (x : A) × IsNth P Before n x
  each_number n one there = (r.nth (n - 1), subst (λ k. IsNth P Before k (r.nth (n - 1))) (omega arith) (IsNth-nth (n - 1) there))

  -- each thing has the number after its rank
  pub IsNth-rank : (x : A) → P x → IsNth P Before (r.rank x + 1) x
  IsNth-rank x p = subst (λ y. IsNth P Before (r.rank x + 1) y) (r.back x p) (IsNth-nth (r.rank x) (r.fits x p))

  -- the number is the one after the rank
  pub number_is : (n : ℕ) (x : A) → IsNth P Before n x → n ≡ r.rank x + 1
  number_is n x h = IsNth-one_number P Before n (r.rank x + 1) x h (IsNth-rank x h.is)

  -- a number belongs to one thing
  pub one_thing : (n : ℕ) (x y : A) → IsNth P Before n x → IsNth P Before n y → x ≡ y
  one_thing n x y h k =
      let same : r.rank x ≡ r.rank y = omega (arith, number_is n x h, number_is n y k) in
      sym (r.back x h.is) ∙ ap r.nth same ∙ r.back y k.is

  -- what comes before has the smaller number, and the other way round
  pub in_order : (n k : ℕ) (x y : A) → IsNth P Before n x → IsNth P Before k y → Before x y ↔ (n < k)
  in_order n k x y h j =
      (λ b. omega (arith, number_is n x h, number_is k y j, r.rises x y h.is j.is b), λ l. Before-from_rank x y h.is j.is (omega (arith, number_is n x h, number_is k y j)))
