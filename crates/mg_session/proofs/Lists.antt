-- Lists of which each member has a property.
use Rattle.std.proofs.Common.{◌≡◌, ℕ, zero, suc, List, [], ◌∷◌, ◌++◌, set, Some}
use Rattle.std.specs.Prelude.{slice_get}
use Rattle.std.specs.List.{AllByRecursion}
use Rattle.mg_workers.proofs.Pairs.{Others}

pub all-append : {X : Type 0} (P : X → Type 0) (xs ys : List X) → AllByRecursion P xs → AllByRecursion P ys → AllByRecursion P (xs ++ ys)
all-append P [] ys h g = g
all-append P (x ∷ xs) ys h g = (h.0, all-append P xs ys h.1 g)

pub all-front : {X : Type 0} (P : X → Type 0) (xs ys : List X) → AllByRecursion P (xs ++ ys) → AllByRecursion P xs
all-front P [] ys h = tt
all-front P (x ∷ xs) ys h = (h.0, all-front P xs ys h.1)

pub all-back : {X : Type 0} (P : X → Type 0) (xs ys : List X) → AllByRecursion P (xs ++ ys) → AllByRecursion P ys
all-back P [] ys h = h
all-back P (x ∷ xs) ys h = all-back P xs ys h.1

pub all-both : {X : Type 0} (P Q R : X → Type 0) → ((x : X) → P x → Q x → R x) → (xs : List X) → AllByRecursion P xs → AllByRecursion Q xs → AllByRecursion R xs
all-both P Q R f [] h g = tt
all-both P Q R f (x ∷ xs) h g = (f x h.0 g.0, all-both P Q R f xs h.1 g.1)

-- one place is changed: its new member has Q, and so have the members elsewhere, which are others
pub all-set : {X : Type 0} (P Q : X → Type 0) (Other : X → X → Type 0) (xs : List X) (i : ℕ) (x y : X) → slice_get xs i ≡ Some x → Q y → ((z : X) → Other x z → P z → Q z) → Others Other xs i x → AllByRecursion P xs → AllByRecursion Q (set xs i y)
all-set P Q Other [] i x y there new keep others h = absurd (cc)
all-set P Q Other (w ∷ ws) zero x y there new keep others h = (new, all-both (λ z. Other x z) P Q keep ws others h.1)
all-set P Q Other (w ∷ ws) (suc i) x y there new keep others h = (keep w others.0 h.0, all-set P Q Other ws i x y there new keep others.1 h.1)
