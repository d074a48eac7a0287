-- What holds of each word of a list of generators, of commutators or of conjugates.
use Rattle.std.proofs.Common.{◌≡◌, ℕ, zero, suc, ◌*◌, ◌≤◌, ℤ, pos, List, [], ◌∷◌, ◌++◌, map, length, refl, sym, ap, subst, ◌⊎◌, inl, inr, arith}
use Rattle.std.specs.List.{AllByRecursion}
use Rattle.std.proofs.Math.Nat.{mul-suc, mul_comm}
use Rattle.std.proofs.lemmas.List.{length-append, length-map}
use Rattle.mg_words.specs.Word.{inv, commutator_of}
use Rattle.mg_questions.specs.Goals.{generators, commutators, conjugates, conjugates_by}

abbrev pub Each : (List ℤ → Type 0) → List (List ℤ) → Type 0
Each P ws = AllByRecursion P ws

pub each_more : (P Q : List ℤ → Type 0) (ws : List (List ℤ)) → ((w : List ℤ) → P w → Q w) → Each P ws → Each Q ws
each_more P Q [] f h = tt
each_more P Q (w ∷ ws) f h = (f w h.0, each_more P Q ws f h.1)

pub each_any : (P : List ℤ → Type 0) (ws : List (List ℤ)) → ((w : List ℤ) → P w) → Each P ws
each_any P [] f = tt
each_any P (w ∷ ws) f = (f w, each_any P ws f)

pub each_both : (P Q : List ℤ → Type 0) (ws : List (List ℤ)) → Each P ws → Each Q ws → Each (λ w. P w × Q w) ws
each_both P Q [] h k = tt
each_both P Q (w ∷ ws) h k = ((h.0, k.0), each_both P Q ws h.1 k.1)

pub each_append : (P : List ℤ → Type 0) (us vs : List (List ℤ)) → Each P us → Each P vs → Each P (us ++ vs)
each_append P [] vs h k = k
each_append P (u ∷ us) vs h k = (h.0, each_append P us vs h.1 k)

pub each_left : (P : List ℤ → Type 0) (us vs : List (List ℤ)) → Each P (us ++ vs) → Each P us
each_left P [] vs h = tt
each_left P (u ∷ us) vs h = (h.0, each_left P us vs h.1)

pub each_right : (P : List ℤ → Type 0) (us vs : List (List ℤ)) → Each P (us ++ vs) → Each P vs
each_right P [] vs h = h
each_right P (u ∷ us) vs h = each_right P us vs h.1

pub each_map : (P : List ℤ → Type 0) (f : List ℤ → List ℤ) (ws : List (List ℤ)) → Each (λ w. P (f w)) ws → Each P (map f ws)
each_map P f [] h = tt
each_map P f (w ∷ ws) h = (h.0, each_map P f ws h.1)

pub each_of_map : (P : List ℤ → Type 0) (f : List ℤ → List ℤ) (ws : List (List ℤ)) → Each P (map f ws) → Each (λ w. P (f w)) ws
each_of_map P f [] h = tt
each_of_map P f (w ∷ ws) h = (h.0, each_of_map P f ws h.1)

-- generators
pub each_generator : (P : List ℤ → Type 0) (m : ℕ) → ((n : ℕ) → 1 ≤ n → n ≤ m → P (pos n ∷ [])) → Each P (generators m)
each_generator P zero f = tt
each_generator P (suc m) f =
    each_append P (generators m) ((pos (suc m) ∷ []) ∷ []) (each_generator P m (λ n h k. f n h (omega arith))) (f (suc m) (omega arith) (omega arith), tt)

last_or_before : (n m : ℕ) → n ≤ suc m → (n ≡ suc m) ⊎ (n ≤ m)
last_or_before zero m h = inr (omega arith)
last_or_before (suc n) zero h = inl (omega arith)
last_or_before (suc n) (suc m) h =
    elim (last_or_before n m (omega arith)) as (λ _. (suc n ≡ suc (suc m)) ⊎ (suc n ≤ suc m)) [
      | inl last ↦ inl (ap suc last)
      | inr before ↦ inr (omega arith)
    ]

pub generator_at : (P : List ℤ → Type 0) (m n : ℕ) → 1 ≤ n → n ≤ m → Each P (generators m) → P (pos n ∷ [])
generator_at P zero n h k each = absurd (omega arith)
generator_at P (suc m) n h k each =
    elim (last_or_before n m k) as (λ _. P (pos n ∷ [])) [
      | inl last ↦ subst (λ (j : ℕ). P (pos j ∷ [])) (sym last) ((each_right P (generators m) ((pos (suc m) ∷ []) ∷ []) each).0)
      | inr before ↦ generator_at P m n h before (each_left P (generators m) ((pos (suc m) ∷ []) ∷ []) each)
    ]

pub length-generators : (m : ℕ) → length (generators m) ≡ m
length-generators zero = refl
length-generators (suc m) = omega (arith, length-append (generators m) ((pos (suc m) ∷ []) ∷ []), length-generators m)

-- commutators
pub each_commutator : (P Q : List ℤ → Type 0) (us : List (List ℤ)) → ((u v : List ℤ) → Q u → Q v → P (commutator_of u v)) → Each Q us → Each P (commutators us)
each_commutator P Q [] f h = tt
each_commutator P Q (u ∷ us) f h =
    each_append P (map (commutator_of u) us) (commutators us) (each_map P (commutator_of u) us (each_more Q (λ v. P (commutator_of u v)) us (λ v. f u v h.0) h.1)) (each_commutator P Q us f h.1)

-- a relation that is symmetric, and holds of each word and itself, holds of each two words
pub each_pair : (P : List ℤ → Type 0) (R : List ℤ → List ℤ → Type 0) (us : List (List ℤ)) → ((u : List ℤ) → R u u) → ((u v : List ℤ) → R u v → R v u) → ((u v : List ℤ) → P (commutator_of u v) → R u v)
    → Each P (commutators us) → Each (λ u. Each (R u) us) us
each_pair P R [] itself turn f h = tt
each_pair P R (u ∷ us) itself turn f h =
    let first : Each (R u) us =
    each_more (λ v. P (commutator_of u v)) (R u) us (f u) (each_of_map P (commutator_of u) us (each_left P (map (commutator_of u) us) (commutators us) h)) in
    let rest : Each (λ v. Each (R v) us) us = each_pair P R us itself turn f (each_right P (map (commutator_of u) us) (commutators us) h) in
    ((itself u, first), each_both (λ v. R v u) (λ v. Each (R v) us) us (each_more (R u) (λ v. R v u) us (turn u) first) rest)

pub length-commutators : (us : List (List ℤ)) → length (commutators us) ≤ length us * length us
length-commutators [] = omega arith
length-commutators (u ∷ us) =
    omega (arith, length-append (map (commutator_of u) us) (commutators us), length-map us (commutator_of u), length-commutators us, mul-suc (suc (length us)) (length us), mul_comm (suc (length us)) (length us), mul-suc (length us) (length us))

-- conjugates
abbrev pub Both : (List ℤ → Type 0) → List ℤ → List ℤ → Type 0
Both P x h = P (x ++ h ++ inv x) × P (inv x ++ h ++ x)

pub each_conjugate_by : (P : List ℤ → Type 0) (x : List ℤ) (hs : List (List ℤ)) → Each (Both P x) hs → Each P (conjugates_by x hs)
each_conjugate_by P x [] h = tt
each_conjugate_by P x (w ∷ hs) h = (h.0.0, (h.0.1, each_conjugate_by P x hs h.1))

pub each_of_conjugates_by : (P : List ℤ → Type 0) (x : List ℤ) (hs : List (List ℤ)) → Each P (conjugates_by x hs) → Each (Both P x) hs
each_of_conjugates_by P x [] h = tt
each_of_conjugates_by P x (w ∷ hs) h = ((h.0, h.1.0), each_of_conjugates_by P x hs h.1.1)

pub each_conjugate : (P : List ℤ → Type 0) (xs hs : List (List ℤ)) → Each (λ x. Each (Both P x) hs) xs → Each P (conjugates xs hs)
each_conjugate P [] hs h = tt
each_conjugate P (x ∷ xs) hs h = each_append P (conjugates_by x hs) (conjugates xs hs) (each_conjugate_by P x hs h.0) (each_conjugate P xs hs h.1)

pub each_of_conjugates : (P : List ℤ → Type 0) (xs hs : List (List ℤ)) → Each P (conjugates xs hs) → Each (λ x. Each (Both P x) hs) xs
each_of_conjugates P [] hs h = tt
each_of_conjugates P (x ∷ xs) hs h =
    (each_of_conjugates_by P x hs (each_left P (conjugates_by x hs) (conjugates xs hs) h), each_of_conjugates P xs hs (each_right P (conjugates_by x hs) (conjugates xs hs) h))

length-conjugates_by : (x : List ℤ) (hs : List (List ℤ)) → length (conjugates_by x hs) ≡ 2 * length hs
length-conjugates_by x [] = refl
length-conjugates_by x (h ∷ hs) = omega (arith, length-conjugates_by x hs)

pub length-conjugates : (xs hs : List (List ℤ)) → length (conjugates xs hs) ≡ 2 * length hs * length xs
length-conjugates [] hs = omega arith
length-conjugates (x ∷ xs) hs =
    omega (arith, length-append (conjugates_by x hs) (conjugates xs hs), length-conjugates_by x hs, length-conjugates xs hs, mul-suc (2 * length hs) (length xs))
