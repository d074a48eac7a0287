-- The first members of lists.
use Rattle.std.proofs.Common.{◌≡◌, ℕ, zero, suc, ◌+◌, ◌<◌, ◌≤◌, List, [], ◌∷◌, ◌++◌, length, take, drop, set, get_or, map, refl, ap, sym, ◌∙◌, subst, arith, add-one}
use Rattle.std.specs.Prelude.{Some, slice_get}
use Rattle.std.specs.List.{AllByRecursion}
use Rattle.mg_workers.specs.Rows.{EachPair}
use Rattle.mg_workers.proofs.Rounds.{at_place}

pub all_taken : {X : Type 0} (P : X → Type 0) (xs : List X) (i : ℕ) → length xs ≤ i → AllByRecursion P (take i xs) → AllByRecursion P xs
all_taken P [] i all h = tt
all_taken P (x ∷ xs) zero all h = absurd (omega arith)
all_taken P (x ∷ xs) (suc i) all h = (h.0, all_taken P xs i (omega arith) h.1)

all_suc : {X : Type 0} (P : X → Type 0) (xs : List X) (i : ℕ) (x : X) → slice_get xs i ≡ Some x → P x → AllByRecursion P (take i xs) → AllByRecursion P (take (suc i) xs)
all_suc P [] i x e here h = absurd (cc)
all_suc P (y ∷ xs) zero x e here h = let same : x ≡ y = cc in (subst P same here, tt)
all_suc P (y ∷ xs) (suc i) x e here h = (h.0, all_suc P xs i x e here h.1)

pub all_more : {X : Type 0} (P : X → Type 0) (xs : List X) (i : ℕ) (x : X) → slice_get xs i ≡ Some x → P x → AllByRecursion P (take i xs) → AllByRecursion P (take (i + 1) xs)
all_more P xs i x e here h = subst (λ n. AllByRecursion P (take n xs)) (sym (add-one i)) (all_suc P xs i x e here h)

pub all_more_at : {X : Type 0} (P : X → Type 0) (xs : List X) (i : ℕ) (x : X) → i < length xs → x ≡ get_or xs i x → P x → AllByRecursion P (take i xs) → AllByRecursion P (take (i + 1) xs)
all_more_at P xs i x within is here h = all_more P xs i x (at_place xs i x within ∙ ap (λ v. Some v) (sym is)) here h

pub pairs_taken : {X Y : Type 0} (R : X → Y → Type 0) (xs : List X) (ys : List Y) (i : ℕ) → length xs ≤ i → EachPair R (take i xs) ys → EachPair R xs ys
pairs_taken R [] [] i all h = tt
pairs_taken R [] (y ∷ ys) zero all h = absurd h
pairs_taken R [] (y ∷ ys) (suc i) all h = absurd h
pairs_taken R (x ∷ xs) ys zero all h = absurd (omega arith)
pairs_taken R (x ∷ xs) [] (suc i) all h = absurd h
pairs_taken R (x ∷ xs) (y ∷ ys) (suc i) all h = (h.0, pairs_taken R xs ys i (omega arith) h.1)

pairs_suc : {X Y : Type 0} (R : X → Y → Type 0) (xs : List X) (ys : List Y) (i : ℕ) (x : X) (y : Y) → slice_get xs i ≡ Some x → R x y → EachPair R (take i xs) ys → EachPair R (take (suc i) xs) (ys ++ y ∷ [])
pairs_suc R [] ys i x y e here h = absurd (cc)
pairs_suc R (w ∷ xs) [] zero x y e here h = let same : x ≡ w = cc in (subst (λ v. R v y) same here, tt)
pairs_suc R (w ∷ xs) (z ∷ ys) zero x y e here h = absurd h
pairs_suc R (w ∷ xs) [] (suc i) x y e here h = absurd h
pairs_suc R (w ∷ xs) (z ∷ ys) (suc i) x y e here h = (h.0, pairs_suc R xs ys i x y e here h.1)

pub pairs_more : {X Y : Type 0} (R : X → Y → Type 0) (xs : List X) (ys : List Y) (i : ℕ) (x : X) (y : Y) → slice_get xs i ≡ Some x → R x y → EachPair R (take i xs) ys → EachPair R (take (i + 1) xs) (ys ++ y ∷ [])
pairs_more R xs ys i x y e here h = subst (λ n. EachPair R (take n xs) (ys ++ y ∷ [])) (sym (add-one i)) (pairs_suc R xs ys i x y e here h)

-- the member at a place is put in
put_suc : {X : Type 0} (R : X → X → Type 0) (xs ys : List X) (i : ℕ) (x y : X) → slice_get ys i ≡ Some x → drop i ys ≡ drop i xs → R x y → EachPair R (take i xs) (take i ys) →
    EachPair R (take (suc i) xs) (take (suc i) (set ys i y)) × (drop (suc i) (set ys i y) ≡ drop (suc i) xs)
put_suc R xs [] i x y e same here h = absurd (cc)
put_suc R [] (w ∷ ys) zero x y e same here h = absurd (cc)
put_suc R (v ∷ xs) (w ∷ ys) zero x y e same here h =
    let first : x ≡ v = cc in
    let rest : ys ≡ xs = cc in ((subst (λ u. R u y) first here, tt), rest)
put_suc R [] (w ∷ ys) (suc i) x y e same here h = absurd h
put_suc R (v ∷ xs) (w ∷ ys) (suc i) x y e same here h =
    let rest = put_suc R xs ys i x y e same here h.1 in ((h.0, rest.0), rest.1)

pub pairs_put : {X : Type 0} (R : X → X → Type 0) (xs ys : List X) (i : ℕ) (x y : X) → slice_get ys i ≡ Some x → drop i ys ≡ drop i xs → R x y → EachPair R (take i xs) (take i ys) →
    EachPair R (take (i + 1) xs) (take (i + 1) (set ys i y)) × (drop (i + 1) (set ys i y) ≡ drop (i + 1) xs)
pairs_put R xs ys i x y e same here h =
    subst (λ n. EachPair R (take n xs) (take n (set ys i y)) × (drop n (set ys i y) ≡ drop n xs)) (sym (add-one i)) (put_suc R xs ys i x y e same here h)

map_suc : {X : Type 0} (f : X → X) (xs : List X) (i : ℕ) (x : X) → slice_get (map f (take i xs) ++ drop i xs) i ≡ Some x → set (map f (take i xs) ++ drop i xs) i (f x) ≡ map f (take (suc i) xs) ++ drop (suc i) xs
map_suc f [] zero x e = absurd (cc)
map_suc f [] (suc i) x e = absurd (cc)
map_suc f (w ∷ xs) zero x e = let same : x ≡ w = cc in ap (λ v. f v ∷ xs) same
map_suc f (w ∷ xs) (suc i) x e = ap (λ ys. f w ∷ ys) (map_suc f xs i x e)

pub map_put : {X : Type 0} (f : X → X) (xs : List X) (i : ℕ) (x : X) → slice_get (map f (take i xs) ++ drop i xs) i ≡ Some x → set (map f (take i xs) ++ drop i xs) i (f x) ≡ map f (take (i + 1) xs) ++ drop (i + 1) xs
map_put f xs i x e = subst (λ n. set (map f (take i xs) ++ drop i xs) i (f x) ≡ map f (take n xs) ++ drop n xs) (sym (add-one i)) (map_suc f xs i x e)

pub map_taken : {X : Type 0} (f : X → X) (xs : List X) (i : ℕ) → length xs ≤ i → map f (take i xs) ++ drop i xs ≡ map f xs
map_taken f [] zero all = refl
map_taken f [] (suc i) all = refl
map_taken f (x ∷ xs) zero all = absurd (omega arith)
map_taken f (x ∷ xs) (suc i) all = ap (λ ys. f x ∷ ys) (map_taken f xs i (omega arith))

pub taken_whole : {X : Type 0} (xs : List X) (i : ℕ) → length xs ≤ i → take i xs ≡ xs
taken_whole [] zero all = refl
taken_whole [] (suc i) all = refl
taken_whole (x ∷ xs) zero all = absurd (omega arith)
taken_whole (x ∷ xs) (suc i) all = ap (λ ys. x ∷ ys) (taken_whole xs i (omega arith))

drop_suc : {X : Type 0} (xs : List X) (i : ℕ) (d : X) → i < length xs → drop i xs ≡ get_or xs i d ∷ drop (suc i) xs
drop_suc [] i d within = absurd (omega arith)
drop_suc (x ∷ xs) zero d within = refl
drop_suc (x ∷ xs) (suc i) d within = drop_suc xs i d (omega arith)

pub drop_at : {X : Type 0} (xs : List X) (i : ℕ) (d : X) → i < length xs → drop i xs ≡ get_or xs i d ∷ drop (i + 1) xs
drop_at xs i d within = subst (λ n. drop i xs ≡ get_or xs i d ∷ drop n xs) (sym (add-one i)) (drop_suc xs i d within)

-- of a list that goes on at a place with these members
pub record GoesOn {X : Type 0} (xs : List X) (i next : ℕ) (x : X) (rest : List X) : Type 0 where
  pub within : i < length xs
  pub here : (d : X) → get_or xs i d ≡ x
  pub taken : take next xs ≡ take i xs ++ x ∷ []
  pub dropped : drop next xs ≡ rest
  pub set_taken : (y : X) → take next (set xs i y) ≡ take i xs ++ y ∷ []
  pub set_dropped : (y : X) → drop next (set xs i y) ≡ rest

goes_suc : {X : Type 0} (xs : List X) (i : ℕ) (x : X) (rest : List X) → drop i xs ≡ x ∷ rest → GoesOn xs i (suc i) x rest
goes_suc [] zero x rest e = absurd (cc)
goes_suc [] (suc i) x rest e = absurd (cc)
goes_suc (y ∷ xs) zero x rest e =
    let first : y ≡ x = cc in
    let same : xs ≡ rest = cc in
    record { within = omega arith; here = λ d. first; taken = ap (λ v. v ∷ []) first; dropped = same; set_taken = λ z. refl; set_dropped = λ z. same }
goes_suc (y ∷ xs) (suc i) x rest e =
    let h = goes_suc xs i x rest e in
    record {
      within = omega (arith, h.within);
      here = h.here;
      taken = ap (λ vs. y ∷ vs) h.taken;
      dropped = h.dropped;
      set_taken = λ z. ap (λ vs. y ∷ vs) (h.set_taken z);
      set_dropped = h.set_dropped;
    }

pub goes_on : {X : Type 0} (xs : List X) (i : ℕ) (x : X) (rest : List X) → drop i xs ≡ x ∷ rest → GoesOn xs i (i + 1) x rest
goes_on xs i x rest e = subst (λ n. GoesOn xs i n x rest) (sym (add-one i)) (goes_suc xs i x rest e)

none_dropped : {X : Type 0} (ys : List X) (i : ℕ) (x : X) → drop i ys ≡ [] → slice_get ys i ≡ Some x → ⊥
none_dropped [] i x e there = cc
none_dropped (y ∷ ys) zero x e there = cc
none_dropped (y ∷ ys) (suc i) x e there = none_dropped ys i x e there

-- what two lists have behind a place they have there
pub get_dropped : {X : Type 0} (xs ys : List X) (i : ℕ) (x : X) → drop i ys ≡ drop i xs → slice_get ys i ≡ Some x → slice_get xs i ≡ Some x
get_dropped xs [] i x e there = absurd (cc)
get_dropped [] (y ∷ ys) zero x e there = absurd (cc)
get_dropped (w ∷ xs) (y ∷ ys) zero x e there = let same : w ≡ y = cc in ap (λ v. Some v) same ∙ there
get_dropped [] (y ∷ ys) (suc i) x e there = absurd (none_dropped ys i x e there)
get_dropped (w ∷ xs) (y ∷ ys) (suc i) x e there = get_dropped xs ys i x e there
