-- Whether a text is accepted is decided by the one pass, so of the numbers with an accepted text there is a first one.
use Rattle.std.proofs.Common.{◌≡◌, ℕ, zero, suc, ◌+◌, ◌<◌, ◌≤◌, Bool, true, false, ℤ, List, [], ◌∷◌, ◌++◌, length, drop, refl, ap, subst, ◌⊎◌, inl, inr, arith}
use Rattle.std.specs.Prelude.{nat_abs}
use Rattle.std.proofs.lemmas.Bool.{cases_lt}
use Rattle.mg_numbers.specs.Plain.{NoneAmong, First}
use Rattle.mg_words.specs.Letter.{IsLetterOf}
use Rattle.mg_words.specs.Reduction.{free_form}
use Rattle.mg_words.proofs.Free.{same_or_not}
use Rattle.mg_present.specs.Ask.{Inquiry, IsAsked}
use Rattle.mg_present.specs.Same.{Holds}
use Rattle.mg_derive.specs.declared.symbol.Symbol.{Symbol}
use Rattle.mg_derive.specs.declared.symbol.Symbol.TheVariants.{Letter, Relator, Member, Cut}
use Rattle.mg_derive.specs.Symbols.{IsPlaceIn, IsSymbolOf, word_of}
use Rattle.mg_derive.specs.Reading.{Goes, Runs}
use Rattle.mg_derive.specs.Acceptance.{IsAccepted, AcceptedAt}
use Rattle.mg_derive.proofs.Numbers.{numbered_each}
use Rattle.mg_derive.proofs.Parts.{accepted_from_runs, runs_from_accepted}
use Rattle.mg_derive.proofs.Ends.{accepted_text}
use Rattle.mg_derive.proofs.Complete.{some_number, asked_is_over}

abbrev Decided : Type 0 → Type 0
Decided P = P ⊎ (P → ⊥)

-- ---- the parts of a decision

both : (P Q : Type 0) → Decided P → Decided Q → Decided (P × Q)
both P Q (inl p) (inl q) = inl (p, q)
both P Q (inl p) (inr n) = inr (λ h. n h.1)
both P Q (inr n) d = inr (λ h. n h.0)

all_three : (P Q R : Type 0) → Decided P → Decided Q → Decided R → Decided (P × Q × R)
all_three P Q R (inl p) (inl q) (inl r) = inl (p, q, r)
all_three P Q R (inl p) (inl q) (inr n) = inr (λ h. n h.2)
all_three P Q R (inl p) (inr n) d = inr (λ h. n h.1)
all_three P Q R (inr n) d e = inr (λ h. n h.0)

is_less : (a b : ℕ) → Decided (a < b)
is_less a b = elim (cases_lt a b) [ inl h ↦ inl h | inr h ↦ inr (λ k. absurd (omega (arith, h, k))) ]

is_false : (b : Bool) → Decided (b ≡ false)
is_false false = inl refl
is_false true = inr (λ e. cc)

-- two words are one or not
same_word : (u v : List ℤ) → Decided (u ≡ v)
same_word [] [] = inl refl
same_word [] (y ∷ v) = inr (λ e. absurd (omega (arith, ap length e)))
same_word (x ∷ u) [] = inr (λ e. absurd (omega (arith, ap length e)))
same_word (x ∷ u) (y ∷ v) =
    elim (same_or_not x y) [
      | inl e ↦ elim (same_word u v) [ inl f ↦ inl (cc (e, f)) | inr n ↦ inr (λ f. n (cc f)) ]
      | inr n ↦ inr (λ f. n (cc f))
    ]

no_goal : (goals : List (List ℤ)) → Decided (goals ≡ [])
no_goal [] = inl refl
no_goal (goal ∷ goals) = inr (λ e. absurd (omega (arith, ap length e)))

goal_first : (goals : List (List ℤ)) (written : List ℤ) → Decided (goals ≡ written ∷ drop 1 goals)
goal_first [] written = inr (λ e. absurd (omega (arith, ap length e)))
goal_first (goal ∷ goals) written =
    elim (same_word goal written) [ inl e ↦ inl (ap (λ w. w ∷ goals) e) | inr n ↦ inr (λ f. n (cc f)) ]

-- ---- the one pass

a_place : (words : List (List ℤ)) (place : ℕ) → Decided (IsPlaceIn words place)
a_place words place =
    elim (is_less 0 place) [
      | inl some ↦ elim (is_less place (length words + 1)) [
        | inl below ↦ inl (record { least = omega arith; most = omega arith })
        | inr not_below ↦ inr (λ h. not_below (omega (arith, h.most)))
      ]
      | inr none ↦ inr (λ h. none (omega (arith, h.least)))
    ]

a_letter : (m : ℕ) (x : ℤ) → Decided (IsLetterOf m x)
a_letter m x =
    elim (is_less 0 (nat_abs x)) [
      | inl some ↦ elim (is_less (nat_abs x) (m + 1)) [
        | inl below ↦ inl (record { least = omega arith; most = omega arith })
        | inr not_below ↦ inr (λ h. not_below (omega (arith, h.most)))
      ]
      | inr none ↦ inr (λ h. none (omega (arith, h.least)))
    ]

a_symbol : (ask : Inquiry) (symbol : Symbol) → Decided (IsSymbolOf ask symbol)
a_symbol ask (Letter x) = a_letter ask.group.generators x
a_symbol ask (Relator place inverse) = a_place ask.group.relators place
a_symbol ask (Member place inverse) = a_place ask.subgroup place
a_symbol ask Cut = inl tt

goes_or_not : (ask : Inquiry) (symbol : Symbol) (goals : List (List ℤ)) (members : Bool) (l w : List ℤ) (Rest : List (List ℤ) → Bool → List ℤ → List ℤ → Type 0)
    → ((g : List (List ℤ)) (b : Bool) (u v : List ℤ) → Decided (Rest g b u v)) → Decided (Goes ask symbol goals members l w Rest)
goes_or_not ask (Letter x) goals members l w Rest d =
    both (members ≡ false) (Rest goals false (free_form (l ++ x ∷ [])) (free_form (w ++ x ∷ []))) (is_false members) (d goals false (free_form (l ++ x ∷ [])) (free_form (w ++ x ∷ [])))
goes_or_not ask (Relator place inverse) goals members l w Rest d =
    let v : List ℤ = free_form (w ++ word_of ask (Relator place inverse)) in
    both (members ≡ false) (Rest goals false l v) (is_false members) (d goals false l v)
goes_or_not ask (Member place inverse) goals members l w Rest d = d goals true l (free_form (w ++ word_of ask (Member place inverse)))
goes_or_not ask Cut goals members l w Rest d =
    all_three (goals ≡ w ∷ drop 1 goals) (l ≡ []) (Rest (drop 1 goals) false [] []) (goal_first goals w) (same_word l []) (d (drop 1 goals) false [] [])

runs_or_not : (ask : Inquiry) (text : List Symbol) (goals : List (List ℤ)) (members : Bool) (l w : List ℤ) → Decided (Runs ask text goals members l w)
runs_or_not ask [] goals members l w = no_goal goals
runs_or_not ask (symbol ∷ text) goals members l w =
    all_three (0 < length goals) (IsSymbolOf ask symbol) (Goes ask symbol goals members l w (Runs ask text))
    (is_less 0 (length goals)) (a_symbol ask symbol) (goes_or_not ask symbol goals members l w (Runs ask text) (runs_or_not ask text))

-- ---- texts and numbers

accepted_or_not : (ask : Inquiry) (text : List Symbol) → IsAsked ask → Decided (IsAccepted ask text)
accepted_or_not ask text a =
    elim (runs_or_not ask text ask.goals false [] []) [
      | inl runs ↦ inl (accepted_from_runs ask text a runs)
      | inr never ↦ inr (λ h. never (runs_from_accepted ask text a h))
    ]

accepted_at_or_not : (ask : Inquiry) (n : ℕ) → IsAsked ask → Decided (AcceptedAt ask n)
accepted_at_or_not ask zero a = inr (λ h. absurd (omega (arith, h.numbered.number)))
accepted_at_or_not ask (suc n) a =
    let t = numbered_each ask (suc n) (omega arith) in
    elim (accepted_or_not ask t.0 a) [
      | inl accepted ↦ inl (record { text = t.0; numbered = t.1; accepted = accepted })
      | inr never ↦ inr (λ h. never (accepted_text ask t.0 (suc n) t.1 h))
    ]

-- ---- the first of numbers

first_upto : (P : ℕ → Type 0) → ((n : ℕ) → Decided (P n)) → (n : ℕ) → ((m : ℕ) × First P m) ⊎ NoneAmong P 0 n
first_upto P d zero = inr (λ k low high p. absurd (omega (arith, low, high)))
first_upto P d (suc n) =
    elim (first_upto P d n) [
      | inl found ↦ inl found
      | inr none ↦ elim (d (suc n)) [
        | inl p ↦ inl (suc n, record { from = omega arith; holds = p; least = λ k from below q. none k (omega (arith, from)) (omega (arith, below)) q })
        | inr never ↦ inr (λ k low high p. elim (cases_lt k (suc n)) [
          | inl below ↦ none k low (omega (arith, below)) p
          | inr above ↦ let e : k ≡ suc n = omega (arith, high, above) in never (subst P e p)
        ])
      ]
    ]

first_of : (P : ℕ → Type 0) → ((n : ℕ) → Decided (P n)) → (n : ℕ) → 1 ≤ n → P n → (m : ℕ) × First P m
first_of P d n from p =
    elim (first_upto P d n) [ inl found ↦ found | inr none ↦ absurd (none n (omega arith) (omega arith) p) ]

-- where some number is that of an accepted text, there is a first one
pub first_accepted : (ask : Inquiry) (n : ℕ) → IsAsked ask → AcceptedAt ask n → (m : ℕ) × First (AcceptedAt ask) m
first_accepted ask n a h =
    let from : 1 ≤ n = omega (arith, h.numbered.number) in
    first_of (AcceptedAt ask) (λ k. accepted_at_or_not ask k a) n from h

-- and so where each goal lies in the subgroup
pub first_of_true : (ask : Inquiry) → IsAsked ask → Holds ask → (n : ℕ) × First (AcceptedAt ask) n
first_of_true ask a h =
    let some = some_number ask (asked_is_over ask a) h in
    first_accepted ask some.0 a some.1
