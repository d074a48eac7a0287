-- Lists with what holds of each member, and lists that are put together.
use Rattle.std.proofs.Common.{◌≡◌, ℕ, zero, suc, Bool, true, false, Some, List, [], ◌∷◌, ◌++◌, map, length, refl, subst, arith}
use Rattle.std.specs.Prelude.{slice_get, if◌then◌else◌, Contains}
use Rattle.std.specs.List.{AllByRecursion, AllZip}

pub get_append : {X : Type 0} (xs ys : List X) (i : ℕ) (x : X) → slice_get xs i ≡ Some x → slice_get (xs ++ ys) i ≡ Some x
get_append [] ys i x e = absurd cc
get_append (a ∷ xs) ys zero x e = e
get_append (a ∷ xs) ys (suc i) x e = get_append xs ys i x e

pub get_last : {X : Type 0} (xs : List X) (x : X) → slice_get (xs ++ x ∷ []) (length xs) ≡ Some x
get_last [] x = refl
get_last (a ∷ xs) x = get_last xs x

pub get_past : {X : Type 0} (xs : List X) (x : X) → slice_get xs (length xs) ≡ Some x → ⊥
get_past [] x e = cc
get_past (a ∷ xs) x e = get_past xs x e

pub all_append : {X : Type 0} (P : X → Type 0) (xs ys : List X) → AllByRecursion P xs → AllByRecursion P ys → AllByRecursion P (xs ++ ys)
all_append P [] ys h k = k
all_append P (x ∷ xs) ys h k = (h.0, all_append P xs ys h.1 k)

pub all_left : {X : Type 0} (P : X → Type 0) (xs ys : List X) → AllByRecursion P (xs ++ ys) → AllByRecursion P xs
all_left P [] ys h = tt
all_left P (x ∷ xs) ys h = (h.0, all_left P xs ys h.1)

pub all_right : {X : Type 0} (P : X → Type 0) (xs ys : List X) → AllByRecursion P (xs ++ ys) → AllByRecursion P ys
all_right P [] ys h = h
all_right P (x ∷ xs) ys h = all_right P xs ys h.1

pub all_more : {X : Type 0} (P Q : X → Type 0) → ((x : X) → P x → Q x) → (xs : List X) → AllByRecursion P xs → AllByRecursion Q xs
all_more P Q f [] h = tt
all_more P Q f (x ∷ xs) h = (f x h.0, all_more P Q f xs h.1)

pub all_map : {X Y : Type 0} (P : X → Type 0) (f : Y → X) (ys : List Y) → AllByRecursion (λ y. P (f y)) ys → AllByRecursion P (map f ys)
all_map P f [] h = tt
all_map P f (y ∷ ys) h = (h.0, all_map P f ys h.1)

pub all_unmap : {X Y : Type 0} (P : X → Type 0) (f : Y → X) (ys : List Y) → AllByRecursion P (map f ys) → AllByRecursion (λ y. P (f y)) ys
all_unmap P f [] h = tt
all_unmap P f (y ∷ ys) h = (h.0, all_unmap P f ys h.1)

pub all_of : {X : Type 0} (P : X → Type 0) → ((x : X) → P x) → (xs : List X) → AllByRecursion P xs
all_of P f [] = tt
all_of P f (x ∷ xs) = (f x, all_of P f xs)

pub all_get : {X : Type 0} (P : X → Type 0) (xs : List X) (i : ℕ) (x : X) → AllByRecursion P xs → slice_get xs i ≡ Some x → P x
all_get P [] i x h e = absurd cc
all_get P (a ∷ xs) zero x h e = let same : a ≡ x = cc in subst P same h.0
all_get P (a ∷ xs) (suc i) x h e = all_get P xs i x h.1 e

pub zip_append : {X Y : Type 0} (R : X → Y → Type 0) (xs : List X) (ys : List Y) (x : X) (y : Y) → AllZip R xs ys → R x y → AllZip R (xs ++ x ∷ []) (ys ++ y ∷ [])
zip_append R [] [] x y h r = (r, tt)
zip_append R [] (b ∷ ys) x y h r = absurd h
zip_append R (a ∷ xs) [] x y h r = absurd h
zip_append R (a ∷ xs) (b ∷ ys) x y h r = (h.0, zip_append R xs ys x y h.1 r)

pub zip_more : {X Y : Type 0} (R S : X → Y → Type 0) → ((x : X) (y : Y) → R x y → S x y) → (xs : List X) (ys : List Y) → AllZip R xs ys → AllZip S xs ys
zip_more R S f [] [] h = tt
zip_more R S f [] (b ∷ ys) h = absurd h
zip_more R S f (a ∷ xs) [] h = absurd h
zip_more R S f (a ∷ xs) (b ∷ ys) h = (f a b h.0, zip_more R S f xs ys h.1)

pub zip_get : {X Y : Type 0} (R : X → Y → Type 0) (xs : List X) (ys : List Y) (i : ℕ) (x : X) → AllZip R xs ys → slice_get xs i ≡ Some x → (y : Y) × (slice_get ys i ≡ Some y) × R x y
zip_get R [] ys i x h e = absurd cc
zip_get R (a ∷ xs) [] i x h e = absurd h
zip_get R (a ∷ xs) (b ∷ ys) zero x h e = let same : a ≡ x = cc in (b, refl, subst (λ z. R z b) same h.0)
zip_get R (a ∷ xs) (b ∷ ys) (suc i) x h e = zip_get R xs ys i x h.1 e

pub zip_left : {X Y : Type 0} (R : X → Y → Type 0) (P : X → Type 0) → ((x : X) (y : Y) → R x y → P x) → (xs : List X) (ys : List Y) → AllZip R xs ys → AllByRecursion P xs
zip_left R P f [] ys h = tt
zip_left R P f (x ∷ xs) [] h = absurd h
zip_left R P f (x ∷ xs) (y ∷ ys) h = (f x y h.0, zip_left R P f xs ys h.1)

-- parts of the empty list
pub none_left : {X : Type 0} (xs ys : List X) → xs ++ ys ≡ [] → xs ≡ []
none_left [] ys e = refl
none_left (x ∷ xs) ys e = absurd cc

pub none_right : {X : Type 0} (xs ys : List X) → xs ++ ys ≡ [] → ys ≡ []
none_right [] ys e = e
none_right (x ∷ xs) ys e = absurd cc

pub none_if : {X : Type 0} (b : Bool) (x : X) (xs : List X) → (if b then x ∷ xs else []) ≡ [] → b ≡ false
none_if true x xs e = absurd cc
none_if false x xs e = refl

pub none_unless : {X : Type 0} (b : Bool) (x : X) (xs : List X) → (if b then [] else x ∷ xs) ≡ [] → b ≡ true
none_unless true x xs e = refl
none_unless false x xs e = absurd cc

pub contains_head : {X : Type 0} (x y : X) (xs : List X) → y ≡ x → Contains (y ∷ xs) x
contains_head x y xs e = (0, omega arith, e)

pub contains_tail : {X : Type 0} (x y : X) (xs : List X) → Contains xs x → Contains (y ∷ xs) x
contains_tail x y xs h = (suc h.0, omega (arith, h.1), h.2)
