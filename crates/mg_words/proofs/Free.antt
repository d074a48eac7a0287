-- The normal form of a word in the free group: each letter in turn, from the last to the first, is put
-- before a reduced word. Two words are freely equal exactly where their normal forms are one.
use Rattle.std.proofs.Common.{◌≡◌, ◌≢◌, ℕ, suc, ◌+◌, ◌-◌, ◌<◌, ◌≤◌, Bool, true, false, cond, ℤ, pos, neg_ℤ, List, [], ◌∷◌, ◌++◌, map, length, get_or, take, drop, refl, sym, ap, subst, ◌∙◌, ◌⊎◌, inl, inr, append_assoc, arith}
use Rattle.std.specs.Prelude.{◌↔◌}
use Rattle.std.specs.Bool.{Decides, ◌==◌}
use Rattle.std.specs.Ordering.{int_eq}
use Rattle.std.proofs.Math.IntN.{neg_ℤ-neg_ℤ}
use Rattle.std.proofs.lemmas.Bool.{false≢true}
use Rattle.std.proofs.lemmas.Bool.Decides.{Decides-int_eq, Decides-eqb}
use Rattle.std.proofs.lemmas.List.{append-nil, same_from_push, length-append, length_push, length-take, take-append-drop, take_more, take_all, drop_more, get_or_at, get_or_read, map-append, length-map, nil_from_length}
use Rattle.mg_words.specs.Letter.{IsLetterOf}
use Rattle.mg_words.specs.Word.{inv, IsOver, IsReduced}
use Rattle.mg_words.specs.Chain.{IsPiece, a_pair, a_relator, an_inverse, Inserts, Step, Leads, FreelyEqual}
use Rattle.mg_words.specs.Reduction.{IsFormOf, PushesReduced, cancel, onto, free_form}
use Rattle.mg_words.proofs.Chains.{inv-append, inv-cons, inv-inv, IsOver-append, IsOver-left, none_contained, Same-refl, Same-equal, Same-trans, Same-sym, Same-before, Same-pair}

-- two letters are one or not
decided : (r : Bool) (P : Type 0) → Decides r P → P ⊎ (P → ⊥)
decided true P d = inl (d.0 refl)
decided false P d = inr (λ p. false≢true (d.1 p))

refused : (r : Bool) (P : Type 0) → Decides r P → (P → ⊥) → r ≡ false
refused true P d n = absurd (n (d.0 refl))
refused false P d n = refl

pub same_or_not : (a b : ℤ) → (a ≡ b) ⊎ (a ≢ b)
same_or_not a b = decided (int_eq a b) (a ≡ b) (Decides-int_eq a b)

pub cancel-hit : (x y : ℤ) (w : List ℤ) → y ≡ neg_ℤ x → cancel x (y ∷ w) ≡ w
cancel-hit x y w e = ap (λ b. cond b w (x ∷ (y ∷ w))) ((Decides-int_eq y (neg_ℤ x)).1 e)

pub cancel-miss : (x y : ℤ) (w : List ℤ) → y ≢ neg_ℤ x → cancel x (y ∷ w) ≡ x ∷ (y ∷ w)
cancel-miss x y w n = ap (λ b. cond b w (x ∷ (y ∷ w))) (refused (int_eq y (neg_ℤ x)) (y ≡ neg_ℤ x) (Decides-int_eq y (neg_ℤ x)) n)

-- a reduced word by recursion: no letter is followed by its inverse
abbrev pub Apart : ℤ → List ℤ → Type 0
Apart x [] = Unit {0}
Apart x (y ∷ w) = y ≢ neg_ℤ x

abbrev pub IsApart : List ℤ → Type 0
IsApart [] = Unit {0}
IsApart (x ∷ w) = Apart x w × IsApart w

pub apart_from_reduced : (w : List ℤ) → IsReduced w → IsApart w
apart_from_reduced [] h = tt
apart_from_reduced (x ∷ []) h = (tt, tt)
apart_from_reduced (x ∷ (y ∷ w)) h =
    (λ e. h [] w x (ap (λ z. x ∷ (z ∷ w)) e), apart_from_reduced (y ∷ w) (λ b a z e. h (x ∷ b) a z (ap (λ v. x ∷ v) e)))

never_apart : (before after : List ℤ) (x : ℤ) → IsApart (before ++ x ∷ neg_ℤ x ∷ after) → ⊥
never_apart [] after x h = h.0 refl
never_apart (y ∷ before) after x h = never_apart before after x h.1

pub reduced_from_apart : (w : List ℤ) → IsApart w → IsReduced w
reduced_from_apart w h before after x e = never_apart before after x (subst (λ (t : List ℤ). IsApart t) e h)

cancel-apart : (x : ℤ) (w : List ℤ) → IsApart w → IsApart (cancel x w)
cancel-apart x [] h = (tt, tt)
cancel-apart x (y ∷ w) h =
    elim (same_or_not y (neg_ℤ x)) as (λ _. IsApart (cancel x (y ∷ w))) [
      | inl e ↦ subst (λ (t : List ℤ). IsApart t) (sym (cancel-hit x y w e)) h.1
      | inr n ↦ subst (λ (t : List ℤ). IsApart t) (sym (cancel-miss x y w n)) (n, h)
    ]

cancel-front : (x : ℤ) (w : List ℤ) → Apart x w → cancel x w ≡ x ∷ w
cancel-front x [] h = refl
cancel-front x (y ∷ w) h = cancel-miss x y w h

-- a letter and its inverse undo each other before a reduced word
pub cancel-cancel : (x : ℤ) (w : List ℤ) → IsApart w → cancel x (cancel (neg_ℤ x) w) ≡ w
cancel-cancel x [] h = cancel-hit x (neg_ℤ x) [] refl
cancel-cancel x (y ∷ w) h =
    elim (same_or_not y (neg_ℤ (neg_ℤ x))) as (λ _. cancel x (cancel (neg_ℤ x) (y ∷ w)) ≡ y ∷ w) [
      | inl e ↦ let k : y ≡ x = e ∙ neg_ℤ-neg_ℤ x in
          ap (cancel x) (cancel-hit (neg_ℤ x) y w e) ∙ (cancel-front x w (subst (λ (z : ℤ). Apart z w) k h.0) ∙ ap (λ z. z ∷ w) (sym k))
      | inr n ↦ ap (cancel x) (cancel-miss (neg_ℤ x) y w n) ∙ cancel-hit x (neg_ℤ x) (y ∷ w) refl
    ]

pub onto-append : (a b w : List ℤ) → onto (a ++ b) w ≡ onto a (onto b w)
onto-append [] b w = refl
onto-append (x ∷ a) b w = ap (cancel x) (onto-append a b w)

onto-apart : (a w : List ℤ) → IsApart w → IsApart (onto a w)
onto-apart [] w h = h
onto-apart (x ∷ a) w h = cancel-apart x (onto a w) (onto-apart a w h)

form-apart : (w : List ℤ) → IsApart (free_form w)
form-apart w = onto-apart w [] tt

form_of_apart : (w : List ℤ) → IsApart w → free_form w ≡ w
form_of_apart [] h = refl
form_of_apart (x ∷ w) h = ap (cancel x) (form_of_apart w h.1) ∙ cancel-front x w h.0

onto-cancel : (x : ℤ) (a w : List ℤ) → IsApart w → onto (cancel x a) w ≡ cancel x (onto a w)
onto-cancel x [] w h = refl
onto-cancel x (y ∷ a) w h =
    elim (same_or_not y (neg_ℤ x)) as (λ _. onto (cancel x (y ∷ a)) w ≡ cancel x (onto (y ∷ a) w)) [
      | inl e ↦ ap (λ t. onto t w) (cancel-hit x y a e) ∙ sym (ap (λ z. cancel x (cancel z (onto a w))) e ∙ cancel-cancel x (onto a w) (onto-apart a w h))
      | inr n ↦ ap (λ t. onto t w) (cancel-miss x y a n)
    ]

onto-form : (a w : List ℤ) → IsApart w → onto (free_form a) w ≡ onto a w
onto-form [] w h = refl
onto-form (x ∷ a) w h = onto-cancel x (free_form a) w h ∙ ap (cancel x) (onto-form a w h)

-- the normal form is reduced, and a reduced word is its own
pub IsReduced-free_form : (w : List ℤ) → IsReduced (free_form w)
IsReduced-free_form w = reduced_from_apart (free_form w) (form-apart w)

pub free_form-reduced : (w : List ℤ) → IsReduced w → free_form w ≡ w
free_form-reduced w h = form_of_apart w (apart_from_reduced w h)

pub free_form-free_form : (w : List ℤ) → free_form (free_form w) ≡ free_form w
free_form-free_form w = form_of_apart (free_form w) (form-apart w)

-- a part of a product may be put into normal form first
pub free_form-append : (a b : List ℤ) → free_form (a ++ b) ≡ onto a (free_form b)
free_form-append a b = onto-append a b []

pub free_form-left : (a b : List ℤ) → free_form (a ++ b) ≡ free_form (free_form a ++ b)
free_form-left a b = onto-append a b [] ∙ (sym (onto-form a (free_form b) (form-apart b)) ∙ sym (onto-append (free_form a) b []))

pub free_form-right : (a b : List ℤ) → free_form (a ++ b) ≡ free_form (a ++ free_form b)
free_form-right a b = onto-append a b [] ∙ (ap (onto a) (sym (free_form-free_form b)) ∙ sym (onto-append a (free_form b) []))

pub free_form-product : (a a' b b' : List ℤ) → free_form a ≡ free_form a' → free_form b ≡ free_form b' → free_form (a ++ b) ≡ free_form (a' ++ b')
free_form-product a a' b b' e f =
    free_form-left a b ∙ (ap (λ t. free_form (t ++ b)) e ∙ (sym (free_form-left a' b) ∙ (free_form-right a' b ∙ (ap (λ t. free_form (a' ++ t)) f ∙ sym (free_form-right a' b')))))

pub free_form-pair : (a : List ℤ) (x : ℤ) (b : List ℤ) → free_form (a ++ x ∷ neg_ℤ x ∷ b) ≡ free_form (a ++ b)
free_form-pair a x b =
    onto-append a (x ∷ neg_ℤ x ∷ b) [] ∙ (ap (onto a) (cancel-cancel x (free_form b) (form-apart b)) ∙ sym (onto-append a b []))

pub free_form-pair_back : (a : List ℤ) (x : ℤ) (b : List ℤ) → free_form (a ++ neg_ℤ x ∷ x ∷ b) ≡ free_form (a ++ b)
free_form-pair_back a x b = ap (λ z. free_form (a ++ neg_ℤ x ∷ z ∷ b)) (sym (neg_ℤ-neg_ℤ x)) ∙ free_form-pair a (neg_ℤ x) b

-- freely equal words have one normal form
piece_gone : (m : ℕ) (p a b : List ℤ) → IsPiece m [] p → free_form (a ++ (p ++ b)) ≡ free_form (a ++ b)
piece_gone m p a b (a_pair x l e) = ap (λ t. free_form (a ++ (t ++ b))) e ∙ free_form-pair a x b
piece_gone m p a b (a_relator c) = none_contained (free_form (a ++ (p ++ b)) ≡ free_form (a ++ b)) p c
piece_gone m p a b (an_inverse r c e) = none_contained (free_form (a ++ (p ++ b)) ≡ free_form (a ++ b)) r c

inserts_form : (m : ℕ) (u v : List ℤ) → Inserts m [] u v → free_form u ≡ free_form v
inserts_form m u v i =
    ap free_form i.without ∙ (sym (piece_gone m i.piece i.before i.after i.is_piece) ∙ ap free_form (sym i.with_it))

step_form : (m : ℕ) (u v : List ℤ) → Step m [] u v → free_form u ≡ free_form v
step_form m u v (inl i) = inserts_form m u v i
step_form m u v (inr i) = sym (inserts_form m v u i)

leads_form : (m : ℕ) (u v : List ℤ) (ws : List (List ℤ)) → Leads m [] u ws v → free_form u ≡ free_form v
leads_form m u v [] e = ap free_form e
leads_form m u v (t ∷ ts) h = step_form m u t h.0 ∙ leads_form m t v ts h.1

pub same_form : (m : ℕ) (u v : List ℤ) → FreelyEqual m u v → free_form u ≡ free_form v
same_form m u v h = leads_form m u v h.0 h.1

-- a word is freely equal to its normal form
cancel-freely : (m : ℕ) (x : ℤ) (w : List ℤ) → IsLetterOf m x → FreelyEqual m (x ∷ w) (cancel x w)
cancel-freely m x [] l = Same-refl m [] (x ∷ [])
cancel-freely m x (y ∷ w) l =
    elim (same_or_not y (neg_ℤ x)) as (λ _. FreelyEqual m (x ∷ (y ∷ w)) (cancel x (y ∷ w))) [
      | inl e ↦ subst (λ (t : List ℤ). FreelyEqual m (x ∷ (y ∷ w)) t) (sym (cancel-hit x y w e))
          (subst (λ (z : ℤ). FreelyEqual m (x ∷ (z ∷ w)) w) (sym e) (Same-pair m [] [] x w l))
      | inr n ↦ Same-equal m [] (x ∷ (y ∷ w)) (cancel x (y ∷ w)) (sym (cancel-miss x y w n))
    ]

pub free_form-freely : (m : ℕ) (u : List ℤ) → IsOver m u → FreelyEqual m u (free_form u)
free_form-freely m [] h = Same-refl m [] []
free_form-freely m (x ∷ u) h =
    Same-trans m [] (x ∷ u) (x ∷ free_form u) (cancel x (free_form u)) (Same-before m [] (x ∷ []) u (free_form u) (free_form-freely m u h.1)) (cancel-freely m x (free_form u) h.0)

cancel-over : (m : ℕ) (x : ℤ) (w : List ℤ) → IsLetterOf m x → IsOver m w → IsOver m (cancel x w)
cancel-over m x [] l h = (l, tt)
cancel-over m x (y ∷ w) l h =
    elim (same_or_not y (neg_ℤ x)) as (λ _. IsOver m (cancel x (y ∷ w))) [
      | inl e ↦ subst (λ (t : List ℤ). IsOver m t) (sym (cancel-hit x y w e)) h.1
      | inr n ↦ subst (λ (t : List ℤ). IsOver m t) (sym (cancel-miss x y w n)) (l, h)
    ]

pub IsOver-free_form : (m : ℕ) (u : List ℤ) → IsOver m u → IsOver m (free_form u)
IsOver-free_form m [] h = tt
IsOver-free_form m (x ∷ u) h = cancel-over m x (free_form u) h.0 (IsOver-free_form m u h.1)

-- words with one normal form are freely equal
pub freely_from_form : (m : ℕ) (u v : List ℤ) → IsOver m u → IsOver m v → free_form u ≡ free_form v → FreelyEqual m u v
freely_from_form m u v h k e =
    Same-trans m [] u (free_form u) v (free_form-freely m u h) (subst (λ (t : List ℤ). FreelyEqual m t v) (sym e) (Same-sym m [] v (free_form v) (free_form-freely m v k)))

-- freely equal reduced words are one
pub reduced_is_unique : (m : ℕ) (u v : List ℤ) → IsReduced u → IsReduced v → FreelyEqual m u v → u ≡ v
reduced_is_unique m u v h k e = sym (free_form-reduced u h) ∙ (same_form m u v e ∙ free_form-reduced v k)

-- the normal form is the freely reduced form, and no other reduced word is freely equal
pub IsFormOf-free_form : (w : List ℤ) → IsFormOf w (free_form w)
IsFormOf-free_form w = record {
  reduced = IsReduced-free_form w;
  over = λ m. IsOver-free_form m w;
  equal = λ m. free_form-freely m w;
}

pub free_form_is_the_one : (m : ℕ) (w v : List ℤ) → IsReduced v → FreelyEqual m w v → v ≡ free_form w
free_form_is_the_one m w v h e = sym (free_form-reduced v h) ∙ sym (same_form m w v e)

-- inverses
pub IsReduced-inv : (w : List ℤ) → IsReduced w → IsReduced (inv w)
IsReduced-inv w h before after x e =
    h (inv after) (inv before) x
    (sym (inv-inv w) ∙ (ap inv e ∙ (inv-append before (x ∷ neg_ℤ x ∷ after) ∙ (ap (λ t. t ++ inv before) (inv-append (x ∷ neg_ℤ x ∷ []) after)
    ∙ (append_assoc (inv after) (neg_ℤ (neg_ℤ x) ∷ neg_ℤ x ∷ []) (inv before) ∙ ap (λ z. inv after ++ z ∷ neg_ℤ x ∷ inv before) (neg_ℤ-neg_ℤ x))))))

cancel-inverse : (x : ℤ) (r : List ℤ) → free_form (inv (x ∷ r)) ≡ free_form (inv (cancel x r))
cancel-inverse x [] = refl
cancel-inverse x (y ∷ r) =
    elim (same_or_not y (neg_ℤ x)) as (λ _. free_form (inv (x ∷ (y ∷ r))) ≡ free_form (inv (cancel x (y ∷ r)))) [
      | inl e ↦ ap free_form (inv-append (x ∷ y ∷ []) r) ∙ (ap (λ z. free_form (inv r ++ neg_ℤ z ∷ neg_ℤ x ∷ [])) e ∙ (ap (λ z. free_form (inv r ++ z ∷ neg_ℤ x ∷ [])) (neg_ℤ-neg_ℤ x)
          ∙ (free_form-pair (inv r) x [] ∙ (ap free_form (append-nil (inv r)) ∙ ap (λ t. free_form (inv t)) (sym (cancel-hit x y r e))))))
      | inr n ↦ ap (λ t. free_form (inv t)) (sym (cancel-miss x y r n))
    ]

form_of_inverse : (w : List ℤ) → free_form (inv w) ≡ free_form (inv (free_form w))
form_of_inverse [] = refl
form_of_inverse (x ∷ w) =
    ap free_form (inv-cons x w) ∙ (free_form-left (inv w) (neg_ℤ x ∷ []) ∙ (ap (λ t. free_form (t ++ neg_ℤ x ∷ [])) (form_of_inverse w)
    ∙ (sym (free_form-left (inv (free_form w)) (neg_ℤ x ∷ [])) ∙ (ap free_form (sym (inv-cons x (free_form w))) ∙ cancel-inverse x (free_form w)))))

pub free_form-inv : (w : List ℤ) → free_form (inv w) ≡ inv (free_form w)
free_form-inv w = form_of_inverse w ∙ free_form-reduced (inv (free_form w)) (IsReduced-inv (free_form w) (IsReduced-free_form w))

pub free_form-times_inverse : (w : List ℤ) → free_form (w ++ inv w) ≡ []
free_form-times_inverse [] = refl
free_form-times_inverse (x ∷ w) =
    ap (λ t. free_form (x ∷ w ++ t)) (inv-cons x w) ∙ (ap (λ t. cancel x (free_form t)) (sym (append_assoc w (inv w) (neg_ℤ x ∷ [])))
    ∙ (ap (cancel x) (free_form-left (w ++ inv w) (neg_ℤ x ∷ []) ∙ ap (λ t. free_form (t ++ neg_ℤ x ∷ [])) (free_form-times_inverse w)) ∙ cancel-hit x (neg_ℤ x) [] refl))

pub free_form-inverse_times : (w : List ℤ) → free_form (inv w ++ w) ≡ []
free_form-inverse_times w = ap (λ t. free_form (inv w ++ t)) (sym (inv-inv w)) ∙ free_form-times_inverse (inv w)

-- a quotient is 1 exactly where the two normal forms are one
pub free_form-quotient : (u v : List ℤ) → free_form u ≡ free_form v → free_form (u ++ inv v) ≡ []
free_form-quotient u v e = free_form-product u v (inv v) (inv v) e refl ∙ free_form-times_inverse v

pub same_from_quotient : (u v : List ℤ) → free_form (u ++ inv v) ≡ [] → free_form u ≡ free_form v
same_from_quotient u v e =
    ap free_form (sym (append-nil u)) ∙ (free_form-product u u [] (inv v ++ v) refl (sym (free_form-inverse_times v))
    ∙ (ap free_form (sym (append_assoc u (inv v) v)) ∙ (free_form-left (u ++ inv v) v ∙ ap (λ t. free_form (t ++ v)) e)))

-- a normal form is no longer than its word
cancel-length : (x : ℤ) (w : List ℤ) → length (cancel x w) ≤ suc (length w)
cancel-length x [] = omega arith
cancel-length x (y ∷ w) =
    elim (same_or_not y (neg_ℤ x)) as (λ _. length (cancel x (y ∷ w)) ≤ suc (length (y ∷ w))) [
      | inl e ↦ omega (arith, ap length (cancel-hit x y w e))
      | inr n ↦ omega (arith, ap length (cancel-miss x y w n))
    ]

pub free_form-length : (w : List ℤ) → length (free_form w) ≤ length w
free_form-length [] = omega arith
free_form-length (x ∷ w) = omega (arith, cancel-length x (free_form w), free_form-length w)

-- a list is empty or ends with a letter
pub last_of : (w : List ℤ) → (w ≡ []) ⊎ ((rest : List ℤ) × (x : ℤ) × (w ≡ rest ++ x ∷ []))
last_of [] = inl refl
last_of (x ∷ w) =
    elim (last_of w) as (λ _. (x ∷ w ≡ []) ⊎ ((rest : List ℤ) × (y : ℤ) × (x ∷ w ≡ rest ++ y ∷ []))) [
      | inl e ↦ inr ([], x, ap (λ t. x ∷ t) e)
      | inr s ↦ inr (x ∷ s.0, s.1, ap (λ t. x ∷ t) s.2)
    ]

empty_not_push : (rest : List ℤ) (y : ℤ) → [] ≢ rest ++ y ∷ []
empty_not_push [] y e = cc
empty_not_push (x ∷ rest) y e = cc

-- it ends with a given letter or not
pub ends_or_not : (y : ℤ) (w : List ℤ) → ((rest : List ℤ) × (w ≡ rest ++ y ∷ [])) ⊎ ((rest : List ℤ) → w ≢ rest ++ y ∷ [])
ends_or_not y w =
    elim (last_of w) as (λ _. ((rest : List ℤ) × (w ≡ rest ++ y ∷ [])) ⊎ ((rest : List ℤ) → w ≢ rest ++ y ∷ [])) [
      | inl e ↦ inr (λ rest k. empty_not_push rest y (sym e ∙ k))
      | inr s ↦ elim (same_or_not s.1 y) as (λ _. ((rest : List ℤ) × (w ≡ rest ++ y ∷ [])) ⊎ ((rest : List ℤ) → w ≢ rest ++ y ∷ [])) [
        | inl e ↦ inl (s.0, s.2 ∙ ap (λ z. s.0 ++ z ∷ []) e)
        | inr n ↦ inr (λ rest k. n (same_from_push s.0 rest s.1 y (sym s.2 ∙ k)).1)
      ]
    ]

pub IsReduced-left : (a b : List ℤ) → IsReduced (a ++ b) → IsReduced a
IsReduced-left a b h before after x e =
    h before (after ++ b) x (ap (λ t. t ++ b) e ∙ append_assoc before (x ∷ neg_ℤ x ∷ after) b)

pub IsReduced-right : (a b : List ℤ) → IsReduced (a ++ b) → IsReduced b
IsReduced-right a b h before after x e =
    h (a ++ before) after x (ap (λ t. a ++ t) e ∙ sym (append_assoc a before (x ∷ neg_ℤ x ∷ after)))

pub IsReduced-nil : IsReduced []
IsReduced-nil = reduced_from_apart [] tt

-- a reduced word stays reduced under a last letter that its end doesn't undo
pub IsReduced-push : (w : List ℤ) (x : ℤ) → IsReduced w → ((rest : List ℤ) → w ≢ rest ++ neg_ℤ x ∷ []) → IsReduced (w ++ x ∷ [])
IsReduced-push w x h n before after z e =
    elim (last_of after) as (λ _. ⊥) [
      | inl k ↦ let s = same_from_push w (before ++ z ∷ []) x (neg_ℤ z) (e ∙ (ap (λ t. before ++ z ∷ neg_ℤ z ∷ t) k ∙ sym (append_assoc before (z ∷ []) (neg_ℤ z ∷ [])))) in
          n before (s.0 ∙ ap (λ y. before ++ y ∷ []) (sym (ap neg_ℤ s.1 ∙ neg_ℤ-neg_ℤ z)))
      | inr k ↦ let s = same_from_push w (before ++ z ∷ neg_ℤ z ∷ k.0) x k.1 (e ∙ (ap (λ t. before ++ z ∷ neg_ℤ z ∷ t) k.2 ∙ sym (append_assoc before (z ∷ neg_ℤ z ∷ k.0) (k.1 ∷ [])))) in
          h before k.0 z s.0
    ]

-- what a reducing push makes
pub pushes_by_cancel : (old rest : List ℤ) (x y : ℤ) → old ≡ rest ++ y ∷ [] → y ≡ neg_ℤ x → PushesReduced old x rest
pushes_by_cancel old rest x y e k = record {
  cancels = λ r f. (same_from_push rest r y (neg_ℤ x) (sym e ∙ f)).0;
  appends = λ n. absurd (n rest (e ∙ ap (λ z. rest ++ z ∷ []) k));
}

pub pushes_by_append : (old : List ℤ) (x : ℤ) → ((rest : List ℤ) → old ≢ rest ++ neg_ℤ x ∷ []) → PushesReduced old x (old ++ x ∷ [])
pushes_by_append old x n = record { cancels = λ r f. absurd (n r f); appends = λ _. refl }

pub IsReduced-pushed : (old : List ℤ) (x : ℤ) (new : List ℤ) → IsReduced old → PushesReduced old x new → IsReduced new
IsReduced-pushed old x new h p =
    elim (ends_or_not (neg_ℤ x) old) as (λ _. IsReduced new) [
      | inl s ↦ subst (λ (t : List ℤ). IsReduced t) (sym (p.cancels s.0 s.1)) (IsReduced-left s.0 (neg_ℤ x ∷ []) (subst (λ (t : List ℤ). IsReduced t) s.1 h))
      | inr n ↦ subst (λ (t : List ℤ). IsReduced t) (sym (p.appends n)) (IsReduced-push old x h n)
    ]

pub pushed_form : (old : List ℤ) (x : ℤ) (new rest : List ℤ) → PushesReduced old x new → free_form (new ++ rest) ≡ free_form (old ++ x ∷ rest)
pushed_form old x new rest p =
    elim (ends_or_not (neg_ℤ x) old) as (λ _. free_form (new ++ rest) ≡ free_form (old ++ x ∷ rest)) [
      | inl s ↦ ap (λ t. free_form (t ++ rest)) (p.cancels s.0 s.1) ∙ (sym (free_form-pair_back s.0 x rest)
          ∙ (ap free_form (sym (append_assoc s.0 (neg_ℤ x ∷ []) (x ∷ rest))) ∙ ap (λ t. free_form (t ++ x ∷ rest)) (sym s.1)))
      | inr n ↦ ap (λ t. free_form (t ++ rest)) (p.appends n) ∙ ap free_form (append_assoc old (x ∷ []) rest)
    ]

pub pushed_is : (old : List ℤ) (x : ℤ) (new : List ℤ) → IsReduced old → PushesReduced old x new → new ≡ free_form (old ++ x ∷ [])
pushed_is old x new h p =
    sym (free_form-reduced new (IsReduced-pushed old x new h p)) ∙ (ap free_form (sym (append-nil new)) ∙ pushed_form old x new [] p)

-- one more letter behind a normal form
pub pushed_onto : (w : List ℤ) (x : ℤ) (new : List ℤ) → PushesReduced (free_form w) x new → new ≡ free_form (w ++ x ∷ [])
pushed_onto w x new p = pushed_is (free_form w) x new (IsReduced-free_form w) p ∙ sym (free_form-left w (x ∷ []))

pub pushed-length : (old : List ℤ) (x : ℤ) (new : List ℤ) → PushesReduced old x new → length new ≤ length old + 1
pushed-length old x new p =
    elim (ends_or_not (neg_ℤ x) old) as (λ _. length new ≤ length old + 1) [
      | inl s ↦ omega (arith, ap length (p.cancels s.0 s.1), simp length-append at (ap length s.1))
      | inr n ↦ omega (arith, simp length-append at (ap length (p.appends n)))
    ]

-- a word times letters, each of which is pushed with reduction
pub pushed_over : (m : ℕ) (old : List ℤ) (x : ℤ) (new : List ℤ) → IsOver m old → IsLetterOf m x → PushesReduced old x new → IsOver m new
pushed_over m old x new h l p =
    elim (ends_or_not (neg_ℤ x) old) as (λ _. IsOver m new) [
      | inl s ↦ subst (λ (t : List ℤ). IsOver m t) (sym (p.cancels s.0 s.1)) (IsOver-left m s.0 (neg_ℤ x ∷ []) (subst (λ (t : List ℤ). IsOver m t) s.1 h))
      | inr n ↦ subst (λ (t : List ℤ). IsOver m t) (sym (p.appends n)) (IsOver-append m old (x ∷ []) h (l, tt))
    ]

-- reduced words by their places
pub undone_at : (w : List ℤ) (k : ℕ) (d : ℤ) → k + 1 < length w → get_or w (k + 1) d ≡ neg_ℤ (get_or w k d) → IsReduced w → ⊥
undone_at w k d l e h =
    h (take k w) (drop (k + 1 + 1) w) (get_or w k d)
    (sym (take-append-drop k w) ∙ ap (λ t. take k w ++ t) (drop_more w k d (omega arith) ∙ ap (λ t. get_or w k d ∷ t) (drop_more w (k + 1) d l ∙ ap (λ z. z ∷ drop (k + 1 + 1) w) e)))

pub reduced_by_places : (w : List ℤ) (d : ℤ) → ((k : ℕ) → k + 1 < length w → get_or w (k + 1) d ≢ neg_ℤ (get_or w k d)) → IsReduced w
reduced_by_places w d h before after x e =
    h (length before)
    (let m = simp length-append at (ap length e) in omega arith)
    (ap (λ t. get_or t (length before + 1) d) (e ∙ sym (append_assoc before (x ∷ []) (neg_ℤ x ∷ after)))
    ∙ (get_or_at (before ++ x ∷ []) (neg_ℤ x) after d (length before + 1) (length_push before x)
    ∙ ap neg_ℤ (sym (ap (λ t. get_or t (length before) d) e ∙ get_or_at before x (neg_ℤ x ∷ after) d (length before) refl))))

-- the steps of loops that push letters with reduction
pub reduced_as_form : (w v : List ℤ) → v ≡ free_form w → IsReduced v
reduced_as_form w v e = subst (λ (t : List ℤ). IsReduced t) (sym e) (IsReduced-free_form w)

pub pushed_next : (w old new : List ℤ) (i : ℕ) (x : ℤ) → i < length w → x ≡ get_or w i x → old ≡ free_form (take i w) → PushesReduced old x new → new ≡ free_form (take (i + 1) w)
pushed_next w old new i x l r e p =
    pushed_onto (take i w) x new (subst (λ (t : List ℤ). PushesReduced t x new) e p) ∙ ap free_form (ap (λ z. take i w ++ z ∷ []) r ∙ sym (take_more w i x l))

pub pushed_room : (w v : List ℤ) (i : ℕ) → i < length w → v ≡ free_form (take i w) → length v + 1 ≤ length w
pushed_room w v i l e = omega (arith, ap length e, free_form-length (take i w), length-take i w)

pub pushed_all : (w v : List ℤ) (i : ℕ) → length w ≤ i → v ≡ free_form (take i w) → v ≡ free_form w
pushed_all w v i l e = e ∙ ap free_form (take_all i w l)

pub undone_read : (w : List ℤ) (i : ℕ) (x y : ℤ) → 1 ≤ i → i < length w → x ≡ get_or w i x → y ≡ get_or w (i - 1) y → x ≡ neg_ℤ y → IsReduced w → ⊥
undone_read w i x y a l e f k =
    let p : i - 1 + 1 ≡ i = omega arith in
    undone_at w (i - 1) (pos 0) (omega arith)
    (ap (λ j. get_or w j (pos 0)) p ∙ (sym (get_or_read w i x l e (pos 0)) ∙ (k ∙ ap neg_ℤ (get_or_read w (i - 1) y (omega arith) f (pos 0)))))

pub pushed_back : (u ys old new : List ℤ) (y x : ℤ) → x ≡ neg_ℤ y → old ≡ free_form (u ++ map neg_ℤ ys) → PushesReduced old x new → new ≡ free_form (u ++ map neg_ℤ (ys ++ y ∷ []))
pushed_back u ys old new y x k e p =
    pushed_onto (u ++ map neg_ℤ ys) x new (subst (λ (t : List ℤ). PushesReduced t x new) e p)
    ∙ ap free_form (ap (λ z. (u ++ map neg_ℤ ys) ++ z ∷ []) k ∙ (append_assoc u (map neg_ℤ ys) (neg_ℤ y ∷ []) ∙ ap (λ t. u ++ t) (sym (map-append neg_ℤ ys (y ∷ [])))))

pub back_room : (u ys w : List ℤ) → w ≡ free_form (u ++ map neg_ℤ ys) → length w ≤ length u + length ys
back_room u ys w e = omega (arith, ap length e, free_form-length (u ++ map neg_ℤ ys), length-append u (map neg_ℤ ys), length-map ys neg_ℤ)

-- the quotient is empty exactly where the two words are freely equal
pub quotient_decides : (m : ℕ) (u v w : List ℤ) (r : Bool) → r ≡ (length w == 0) → w ≡ free_form (u ++ inv v) → IsOver m u → IsOver m v → (r ≡ true → FreelyEqual m u v) × (FreelyEqual m u v → r ≡ true)
quotient_decides m u v w r k e h j = (
  λ t. freely_from_form m u v h j (same_from_quotient u v (sym e ∙ nil_from_length w ((Decides-eqb (length w) 0).0 (sym k ∙ t)))),
  λ s. k ∙ (Decides-eqb (length w) 0).1 (ap length (e ∙ free_form-quotient u v (same_form m u v s))),
)

-- over any generators that two words are over, they are freely equal exactly where their normal forms are one
pub form_decides : (m : ℕ) (u v : List ℤ) → IsOver m u → IsOver m v → (free_form u ≡ free_form v) ↔ FreelyEqual m u v
form_decides m u v h k = (freely_from_form m u v h k, same_form m u v)
