-- The least of some causes, and of more.
use Rattle.std.proofs.Common.{◌≡◌, ℕ, ◌<◌, ◌≤◌, ◌⊎◌, inl, inr, ⊎_elim, Option, None, Some, List, [], ◌∷◌, ◌++◌, Contains, refl, sym, ap, subst, ◌∙◌, append_assoc, append-nil, arith, zero, suc, length, get_or}
use Rattle.std.specs.List.{flat_map, AllByRecursion}
use Rattle.std.proofs.lemmas.Bool.{cases_lt}
use Rattle.std.proofs.lemmas.Grind.{flat_map-append}
use Rattle.std.proofs.lemmas.List.Elements.{Contains-push, Contains-append_left, Contains-append_right, Contains-append_cases}
use Rattle.mg_lex.specs.Cause.{cause_number}
use Rattle.mg_names.specs.Cause.{Shown, IsFirst}
use Rattle.mg_names.specs.declared.least.Fault.{Fault}
use Rattle.mg_names.specs.Least.{IsLeastOf, IsNotAfter, Gets, shown_of, least_of}

abbrev pub AllAfter : Shown → List Shown → Type 0
AllAfter first all = AllByRecursion (IsNotAfter first) all

pub not_after-trans : (r s t : Shown) → IsNotAfter r s → IsNotAfter s t → IsNotAfter r t
not_after-trans r s t (inl a) (inl b) = inl (omega arith)
not_after-trans r s t (inl a) (inr b) = let e = b.0 in inl (omega arith)
not_after-trans r s t (inr a) (inl b) = let e = a.0 in inl (omega arith)
not_after-trans r s t (inr a) (inr b) = let e = a.0 in let f = a.1 in let g = b.0 in let h = b.1 in inr (omega arith, omega arith)

-- of two causes one stands before the other, or both are the same
ordered : (a b c d : ℕ) → ((a < b) ⊎ ((a ≡ b) × (c ≤ d)) → ⊥) → (b < a) ⊎ ((b ≡ a) × (d ≤ c))
ordered a b c d n =
    ⊎_elim (λ h. absurd (n (inl h)))
    (λ (h : b ≤ a). ⊎_elim (λ (k : b < a). inl k)
    (λ (k : a ≤ b). let e : a ≡ b = omega arith in
    ⊎_elim (λ (l : d < c). inr (sym e, omega arith)) (λ (l : c ≤ d). absurd (n (inr (e, l)))) (cases_lt d c))
    (cases_lt b a))
    (cases_lt a b)

pub not_after-total : (s t : Shown) → (IsNotAfter s t → ⊥) → IsNotAfter t s
not_after-total s t n = ordered s.place t.place (cause_number s.cause) (cause_number t.cause) n

pub all_after-append : (s : Shown) (xs ys : List Shown) → AllAfter s xs → AllAfter s ys → AllAfter s (xs ++ ys)
all_after-append s [] ys h k = k
all_after-append s (x ∷ xs) ys h k = (h.0, all_after-append s xs ys h.1 k)

pub all_after-less : (r s : Shown) (xs : List Shown) → IsNotAfter r s → AllAfter s xs → AllAfter r xs
all_after-less r s [] h k = tt
all_after-less r s (x ∷ xs) h k = (not_after-trans r s x h k.0, all_after-less r s xs h k.1)

-- one cause alone is the least
pub only : (t : Shown) → IsFirst (t ∷ []) t
only t = record { among = Contains-push [] t; least = (inr (refl, omega arith), tt) }

-- one more cause is the least, or the least stays
pub new_least : (all : List Shown) (s t : Shown) → IsFirst all s → (IsNotAfter s t → ⊥) → IsFirst (all ++ t ∷ []) t
new_least all s t h n = record {
  among = Contains-push all t;
  least = all_after-append t all (t ∷ []) (all_after-less t s all (not_after-total s t n) h.least) (inr (refl, omega arith), tt);
}

pub same_least : (all : List Shown) (s t : Shown) → IsFirst all s → IsNotAfter s t → IsFirst (all ++ t ∷ []) s
same_least all s t h k = record {
  among = Contains-append_left all (t ∷ []) s h.among;
  least = all_after-append s all (t ∷ []) h.least (k, tt);
}

pub offered_none : (all : List Shown) (t : Shown) → all ≡ [] → IsFirst (all ++ t ∷ []) t
offered_none all t e = subst (λ (xs : List Shown). IsFirst (xs ++ t ∷ []) t) (sym e) (only t)

pub offered_less : (all : List Shown) (r : Option Fault) (s : Option Shown) (l : Fault) (t : Shown) → least_of r ≡ s → r ≡ Some l → IsLeastOf all s → (IsNotAfter (shown_of l) t → ⊥) → IsFirst (all ++ t ∷ []) t
offered_less all r s l t e f h n =
    new_least all (shown_of l) t (subst (λ (o : Option Shown). IsLeastOf all o) (sym e ∙ ap least_of f) h) n

-- causes that are found one after another
pub gets_none : (o : Option Shown) → Gets [] o o
gets_none o all h = subst (λ (xs : List Shown). IsLeastOf xs o) (sym (append-nil all)) h

pub gets_same : (a b : List Shown) (o p : Option Shown) → a ≡ b → Gets b o p → Gets a o p
gets_same a b o p e g = subst (λ (xs : List Shown). Gets xs o p) (sym e) g

pub gets_nil : (a : List Shown) (o : Option Shown) → a ≡ [] → Gets a o o
gets_nil a o e = gets_same a [] o o e (gets_none o)

pub gets_both : (a b : List Shown) (o p q : Option Shown) → Gets a o p → Gets b p q → Gets (a ++ b) o q
gets_both a b o p q f g all h = subst (λ (xs : List Shown). IsLeastOf xs q) (append_assoc all a b) (g (all ++ a) (f all h))

pub gets_more : {X : Type 0} (f : X → List Shown) (a b : List X) (o p q : Option Shown) → Gets (flat_map f a) o p → Gets (flat_map f b) p q → Gets (flat_map f (a ++ b)) o q
gets_more f a b o p q g h =
    subst (λ (xs : List Shown). Gets xs o q) (sym (flat_map-append f a b)) (gets_both (flat_map f a) (flat_map f b) o p q g h)

pub gets_one : {X : Type 0} (f : X → List Shown) (x : X) (o p : Option Shown) → Gets (f x) o p → Gets (flat_map f (x ∷ [])) o p
gets_one f x o p g = subst (λ (xs : List Shown). Gets xs o p) (sym (append-nil (f x))) g

-- the least of causes depends on which they are alone
all_at : (s : Shown) (xs : List Shown) (k : ℕ) (y : Shown) → AllAfter s xs → k < length xs → IsNotAfter s (get_or xs k y)
all_at s [] k y h l = absurd (omega arith)
all_at s (x ∷ xs) zero y h l = h.0
all_at s (x ∷ xs) (suc k) y h l = all_at s xs k y h.1 (omega arith)

all_from : (P : Shown → Type 0) (ys : List Shown) → ((y : Shown) → Contains ys y → P y) → AllByRecursion P ys
all_from P [] f = tt
all_from P (y ∷ ys) f =
    (f y (0, omega arith, refl), all_from P ys (λ z c. f z (Contains-append_right (y ∷ []) ys z c)))

not_among : (s : Shown) → Contains [] s → ⊥
not_among s c = let l = c.1 in omega arith

pub same_least_of : (xs ys : List Shown) (o : Option Shown) → ((s : Shown) → Contains xs s → Contains ys s) → ((s : Shown) → Contains ys s → Contains xs s) → IsLeastOf xs o → IsLeastOf ys o
same_least_of xs [] None f g h = refl
same_least_of xs (y ∷ ys) None f g h =
    absurd (not_among y (subst (λ (zs : List Shown). Contains zs y) h (g y (0, omega arith, refl))))
same_least_of xs ys (Some s) f g h = record {
  among = f s h.among;
  least = all_from (IsNotAfter s) ys (λ y c.
      let there = g y c in subst (λ (z : Shown). IsNotAfter s z) there.2 (all_at s xs there.0 y h.least there.1));
}

in_either : (a b c : List Shown) (s : Shown) → ((t : Shown) → Contains b t → Contains c t) → Contains (a ++ b) s → Contains (a ++ c) s
in_either a b c s f h =
    ⊎_elim (λ (k : Contains a s). Contains-append_left a c s k) (λ (k : Contains b s). Contains-append_right a c s (f s k)) (Contains-append_cases a b s h)

pub gets_as : (a b : List Shown) (o p : Option Shown) → ((s : Shown) → Contains a s → Contains b s) → ((s : Shown) → Contains b s → Contains a s) → Gets a o p → Gets b o p
gets_as a b o p f g h all k = same_least_of (all ++ a) (all ++ b) p (λ s. in_either all a b s f) (λ s. in_either all b a s g) (h all k)

turned : (a b : List Shown) (s : Shown) → Contains (a ++ b) s → Contains (b ++ a) s
turned a b s h =
    ⊎_elim (λ (k : Contains a s). Contains-append_right b a s k) (λ (k : Contains b s). Contains-append_left b a s k) (Contains-append_cases a b s h)

pub gets_turned : (a b : List Shown) (o p : Option Shown) → Gets (a ++ b) o p → Gets (b ++ a) o p
gets_turned a b o p = gets_as (a ++ b) (b ++ a) o p (turned a b) (turned b a)

-- the causes of the left sides and of the right sides, found side by side
module _ {X : Type 0} (f g : X → List Shown) where
  abbrev pub both : X → List Shown
  both x = f x ++ g x

  apart : (xs : List X) (s : Shown) → Contains (flat_map both xs) s → Contains (flat_map f xs ++ flat_map g xs) s
  apart [] s h = h
  apart (x ∷ xs) s h =
      ⊎_elim (λ (k : Contains (f x ++ g x) s).
      ⊎_elim (λ (l : Contains (f x) s). Contains-append_left (f x ++ flat_map f xs) (g x ++ flat_map g xs) s (Contains-append_left (f x) (flat_map f xs) s l))
      (λ (l : Contains (g x) s). Contains-append_right (f x ++ flat_map f xs) (g x ++ flat_map g xs) s (Contains-append_left (g x) (flat_map g xs) s l))
      (Contains-append_cases (f x) (g x) s k))
      (λ (k : Contains (flat_map both xs) s).
      ⊎_elim (λ (l : Contains (flat_map f xs) s). Contains-append_left (f x ++ flat_map f xs) (g x ++ flat_map g xs) s (Contains-append_right (f x) (flat_map f xs) s l))
      (λ (l : Contains (flat_map g xs) s). Contains-append_right (f x ++ flat_map f xs) (g x ++ flat_map g xs) s (Contains-append_right (g x) (flat_map g xs) s l))
      (Contains-append_cases (flat_map f xs) (flat_map g xs) s (apart xs s k)))
      (Contains-append_cases (f x ++ g x) (flat_map both xs) s h)

  lefts_in : (xs : List X) (s : Shown) → Contains (flat_map f xs) s → Contains (flat_map both xs) s
  lefts_in [] s h = h
  lefts_in (x ∷ xs) s h =
      ⊎_elim (λ (k : Contains (f x) s). Contains-append_left (f x ++ g x) (flat_map both xs) s (Contains-append_left (f x) (g x) s k))
      (λ (k : Contains (flat_map f xs) s). Contains-append_right (f x ++ g x) (flat_map both xs) s (lefts_in xs s k))
      (Contains-append_cases (f x) (flat_map f xs) s h)

  rights_in : (xs : List X) (s : Shown) → Contains (flat_map g xs) s → Contains (flat_map both xs) s
  rights_in [] s h = h
  rights_in (x ∷ xs) s h =
      ⊎_elim (λ (k : Contains (g x) s). Contains-append_left (f x ++ g x) (flat_map both xs) s (Contains-append_right (f x) (g x) s k))
      (λ (k : Contains (flat_map g xs) s). Contains-append_right (f x ++ g x) (flat_map both xs) s (rights_in xs s k))
      (Contains-append_cases (g x) (flat_map g xs) s h)

  together : (xs : List X) (s : Shown) → Contains (flat_map f xs ++ flat_map g xs) s → Contains (flat_map both xs) s
  together xs s h = ⊎_elim (lefts_in xs s) (rights_in xs s) (Contains-append_cases (flat_map f xs) (flat_map g xs) s h)

  pub gets_apart : (xs : List X) (o p : Option Shown) → Gets (flat_map both xs) o p → Gets (flat_map f xs ++ flat_map g xs) o p
  gets_apart xs o p = gets_as (flat_map both xs) (flat_map f xs ++ flat_map g xs) o p (apart xs) (together xs)
