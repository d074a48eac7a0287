-- The passes that a board gives, one after another.
use Rattle.std.proofs.Common.{◌≡◌, ℕ, zero, suc, ◌+◌, ◌-◌, ◌<◌, List, [], ◌∷◌, ◌++◌, length, length-append, refl, ap, sym, ◌∙◌, arith}
use Rattle.mg_board.specs.History.{IsAmong}
use Rattle.mg_board.specs.Passes.{BoardState, PassState, dealt, IsAlone}
use Rattle.mg_board.specs.Seats.{numbers_from, newcomer, others}
use Rattle.mg_board.proofs.Views.{among_from}

pub numbers_more : (n k : ℕ) → 0 < k → numbers_from n k ≡ n ∷ numbers_from (n + 1) (k - 1)
numbers_more n zero h = absurd (omega arith)
numbers_more n (suc k) h = (let e : suc k - 1 ≡ k = omega arith in ap (λ z. n ∷ numbers_from (n + 1) z) (sym e))

pub numbers_fresh : (n k : ℕ) → IsAmong n (numbers_from (n + 1) k) → ⊥
numbers_fresh n k h = (let t = among_from n (n + 1) k h in omega (arith, t.0))

module _ {X : Type 0} where
  pub others_of : (opening : List X) (n k : ℕ) → 0 < k → others (newcomer opening n k) ≡ newcomer opening (n + 1) (k - 1)
  others_of opening n zero h = absurd (omega arith)
  others_of opening n (suc k) h = (let e : suc k - 1 ≡ k = omega arith in ap (newcomer opening (n + 1)) (sym e))

  -- one pass of the board, with its own number alone
  abbrev pub one : BoardState X → ℕ → PassState X
  one shown n = record { board = shown.board; opening = shown.opening; number = n; numbers = n ∷ []; seen = shown.opening }

  pub dealt_more : (shown : BoardState X) (n k : ℕ) → dealt shown n (k + 1) ≡ dealt shown n k ++ one shown (n + k) ∷ []
  dealt_more shown n zero = (let e : 0 + 1 ≡ suc zero = omega arith in let f : n + 0 ≡ n = omega arith in ap (dealt shown n) e ∙ ap (λ m. one shown m ∷ []) (sym f))
  dealt_more shown n (suc k) =
      let e : suc k + 1 ≡ suc (k + 1) = omega arith in
      let f : (n + 1) + k ≡ n + suc k = omega arith in
      ap (dealt shown n) e ∙ ap (λ l. one shown n ∷ l) (dealt_more shown (n + 1) k ∙ ap (λ m. dealt shown (n + 1) k ++ one shown m ∷ []) f)

snoc_is : {A : Type 0} (xs ys : List A) (x y : A) → xs ++ x ∷ [] ≡ ys ++ y ∷ [] → (xs ≡ ys) × (x ≡ y)
snoc_is [] [] x y e = (refl, cc (e))
snoc_is [] (z ∷ ys) x y e = (let l = ap length e in let m = length-append ys (y ∷ []) in absurd (omega (arith, l, m)))
snoc_is (z ∷ xs) [] x y e = (let l = ap length e in let m = length-append xs (x ∷ []) in absurd (omega (arith, l, m)))
snoc_is (z ∷ xs) (w ∷ ys) x y e =
    let heads : z ≡ w = cc (e) in
    let rest = snoc_is xs ys x y (cc (e)) in
    (cc (heads, rest.0), rest.1)

module _ {X : Type 0} where
  -- the last pass that a board gave, and the others
  pub last_dealt : (shown : BoardState X) (k : ℕ) (xs : List (PassState X)) (x : PassState X) → dealt shown 0 (k + 1) ≡ xs ++ x ∷ [] → (xs ≡ dealt shown 0 k) × IsAlone shown k x
  last_dealt shown k xs x e =
      let both = snoc_is xs (dealt shown 0 k) x (one shown (0 + k)) (sym e ∙ dealt_more shown 0 k) in
      let k_is : 0 + k ≡ k = omega arith in
      (both.0, record { board = ap (λ p. p.board) both.1; number = ap (λ p. p.number) both.1 ∙ k_is; numbers = ap (λ p. p.numbers) both.1 ∙ ap (λ n. n ∷ []) k_is })

  -- a pass that has seen more stands for its number alone as before
  pub still_alone : (shown : BoardState X) (n : ℕ) (old new : PassState X) → new ≡ record old { seen = new.seen } → IsAlone shown n old → IsAlone shown n new
  still_alone shown n old new same alone =
      record { board = ap (λ p. p.board) same ∙ alone.board; number = ap (λ p. p.number) same ∙ alone.number; numbers = ap (λ p. p.numbers) same ∙ alone.numbers }
