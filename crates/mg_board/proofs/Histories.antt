-- Beginnings of one list, the stamps of a number, and numbers among others.
use Rattle.std.proofs.Common.{◌≡◌, ◌≢◌, ℕ, ◌≤◌, ◌⊎◌, inl, inr, Bool, true, false, cond, nat_eq, nat_lt, List, [], ◌∷◌, ◌++◌, length, if◌then◌else◌, refl, ap, sym, ◌∙◌, arith, append_assoc, length-append, append-nil, eq-eqb, ne_eqb, tests}
use mathlib.Core.List.{IsPrefix}
use Rattle.mg_board.specs.History.{stamps_of, IsAmong, longer}
use Rattle.mg_board.specs.Seats.{shorter}

module _ {X : Type 0} where
  pub prefix_self : (xs : List X) → IsPrefix xs xs
  prefix_self xs = ([], append-nil xs)

  pub prefix_more : (xs ys : List X) → IsPrefix xs (xs ++ ys)
  prefix_more xs ys = (ys, refl)

  pub prefix_trans : (xs ys zs : List X) → IsPrefix xs ys → IsPrefix ys zs → IsPrefix xs zs
  prefix_trans xs ys zs p q = (p.0 ++ q.0, sym (append_assoc xs p.0 q.0) ∙ (ap (λ w. w ++ q.0) p.1 ∙ q.1))

  -- of two beginnings of one list the shorter begins the longer
  pub prefix_shorter : (xs ys zs : List X) → IsPrefix xs zs → IsPrefix ys zs → length xs ≤ length ys → IsPrefix xs ys
  prefix_shorter [] ys zs p q le = (ys, refl)
  prefix_shorter (x ∷ xs) [] zs p q le = absurd (omega arith)
  prefix_shorter (x ∷ xs) (y ∷ ys) [] p q le = absurd (cc (p.1))
  prefix_shorter (x ∷ xs) (y ∷ ys) (z ∷ zs) p q le =
      let heads : x ≡ y = cc (p.1, q.1) in
      let rest = prefix_shorter xs ys zs (p.0, cc (p.1)) (q.0, cc (q.1)) (omega arith) in
      (rest.0, cc (heads, rest.1))

is_empty : {X : Type 0} (xs : List X) → length xs ≡ 0 → xs ≡ []
is_empty [] e = refl
is_empty (x ∷ xs) e = absurd (omega (arith, e))

module _ {X : Type 0} (by : X → ℕ) where
  pub stamps_append : (n : ℕ) (xs ys : List X) → stamps_of by n (xs ++ ys) ≡ stamps_of by n xs ++ stamps_of by n ys
  stamps_append n [] ys = refl
  stamps_append n (x ∷ xs) ys =
      elim (nat_eq (by x) n) as (λ b. cond b (x ∷ stamps_of by n (xs ++ ys)) (stamps_of by n (xs ++ ys)) ≡ cond b (x ∷ stamps_of by n xs) (stamps_of by n xs) ++ stamps_of by n ys) [
        | true ↦ ap (λ zs. x ∷ zs) (stamps_append n xs ys)
        | false ↦ stamps_append n xs ys
      ]

  pub stamps_here : (n : ℕ) (x : X) → by x ≡ n → stamps_of by n (x ∷ []) ≡ x ∷ []
  stamps_here n x e = ap (λ b. cond b (x ∷ []) []) (eq-eqb (by x) n e)

  pub stamps_else : (n : ℕ) (x : X) → by x ≢ n → stamps_of by n (x ∷ []) ≡ []
  stamps_else n x e = ap (λ b. cond b (x ∷ []) []) (ne_eqb (by x) n e)

pub among_left : (n : ℕ) (ms ks : List ℕ) → IsAmong n ms → IsAmong n (ms ++ ks)
among_left n [] ks h = absurd h
among_left n (m ∷ ms) ks h = elim h [ inl e ↦ inl e | inr e ↦ inr (among_left n ms ks e) ]

pub among_right : (n : ℕ) (ms ks : List ℕ) → IsAmong n ks → IsAmong n (ms ++ ks)
among_right n [] ks h = h
among_right n (m ∷ ms) ks h = inr (among_right n ms ks h)

pub among_either : (n : ℕ) (ms ks : List ℕ) → IsAmong n (ms ++ ks) → IsAmong n ms ⊎ IsAmong n ks
among_either n [] ks h = inr h
among_either n (m ∷ ms) ks h = elim h [ inl e ↦ inl (inl e) | inr e ↦ elim (among_either n ms ks e) [ inl l ↦ inl (inr l) | inr r ↦ inr r ] ]

module _ {X : Type 0} where
  -- the longer and the shorter of two lists are the lists, one way or the other
  pub longer_cases : (P : List X → List X → Type 0) (xs ys : List X) → (length ys ≤ length xs → P xs ys) → (length xs ≤ length ys → P ys xs) → P (longer xs ys) (shorter xs ys)
  longer_cases P xs ys first second =
      let go : (b : Bool) → nat_lt (length xs) (length ys) ≡ b → P (if b then ys else xs) (if b then xs else ys) = λ b. elim b as (λ b. nat_lt (length xs) (length ys) ≡ b → P (if b then ys else xs) (if b then xs else ys)) [
        | true ↦ λ e. second (grind (arith, tests))
        | false ↦ λ e. first (grind (arith, tests))
      ] in
      go (nat_lt (length xs) (length ys)) refl

module _ {X : Type 0} (by : X → ℕ) where
  -- a list between two with the same stamps of a number has them too
  pub squeezed : (n : ℕ) (xs ys zs : List X) → IsPrefix xs ys → IsPrefix ys zs → stamps_of by n zs ≡ stamps_of by n xs → stamps_of by n zs ≡ stamps_of by n ys
  squeezed n xs ys zs p q e =
      let first : stamps_of by n ys ≡ stamps_of by n xs ++ stamps_of by n p.0 = sym (ap (stamps_of by n) p.1) ∙ stamps_append by n xs p.0 in
      let second : stamps_of by n zs ≡ stamps_of by n ys ++ stamps_of by n q.0 = sym (ap (stamps_of by n) q.1) ∙ stamps_append by n ys q.0 in
      let one = length-append (stamps_of by n xs) (stamps_of by n p.0) in
      let two = length-append (stamps_of by n ys) (stamps_of by n q.0) in
      let l1 = ap length first in let l2 = ap length second in let l3 = ap length e in
      let nothing : stamps_of by n q.0 ≡ [] = is_empty (stamps_of by n q.0) (omega (arith, one, two, l1, l2, l3)) in
      second ∙ (ap (λ l. stamps_of by n ys ++ l) nothing ∙ append-nil (stamps_of by n ys))
