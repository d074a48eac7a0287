-- Words act by products of permutations, and words that are the same by the same one; what that refutes.
use Rattle.std.proofs.Common.{◌≡◌, ◌≢◌, ℕ, zero, suc, ◌+◌, ◌<◌, ◌≤◌, Bool, true, false, ℤ, pos, negsuc, neg_ℤ, List, [], ◌∷◌, ◌++◌, length, get_or, drop, All, refl, sym, ap, subst, ◌∙◌, inl, inr, append_assoc, arith}
use Rattle.std.specs.Prelude.{Contains, slice_index_or}
use Rattle.std.specs.List.{AllByRecursion}
use Rattle.std.proofs.lemmas.List.{get_or_past, drop_more, drop_all}
use Rattle.std.proofs.lemmas.List.Elements.{All-from_recursion, All-contains, All-get_or}
use Rattle.std.proofs.lemmas.Bool.{cases_lt}
use Rattle.mg_words.specs.Word.{inv}
use Rattle.mg_words.specs.Chain.{IsPiece, a_pair, a_relator, an_inverse, Inserts, Leads}
use Rattle.mg_words.proofs.Chains.{inv-cons}
use Rattle.mg_numbers.specs.Perms.{IsPerm, PermTuple, IsPermTuple}
use Rattle.mg_present.specs.Presentation.{Group}
use Rattle.mg_present.specs.Ask.{Inquiry}
use Rattle.mg_present.specs.Same.{Same, signed, product, Lies, Holds}
use Rattle.mg_action.specs.Permutation.{identity, product_of}
use Rattle.mg_action.specs.Action.{perm_of_generator, perm_of_letter, perm_of_word, IsAction, image_of_zero, Refutes}
use Rattle.mg_action.proofs.Permutations.{same_points, IsPerm-identity, IsPerm-product, IsPerm-inverse, at-identity, at-product, product-identity_left, product-identity_right, product-assoc, product-inverse_left, product-inverse_right}

module _ (action : PermTuple) (each : All (IsPerm action.degree) action.images) where
  abbrev d : ℕ
  d = action.degree

  abbrev of : List ℤ → List ℕ
  of w = perm_of_word action w

  pub generator-perm : (place : ℕ) → IsPerm d (perm_of_generator action place)
  generator-perm zero = IsPerm-identity d
  generator-perm (suc n) =
      elim (cases_lt n (length action.images)) [
        | inl there ↦ All-get_or (IsPerm d) action.images n (identity d) there each
        | inr past ↦ subst (IsPerm d) (sym (get_or_past action.images n (identity d) past)) (IsPerm-identity d)
      ]

  pub letter-perm : (x : ℤ) → IsPerm d (perm_of_letter action x)
  letter-perm (pos place) = generator-perm place
  letter-perm (negsuc n) = IsPerm-inverse d (perm_of_generator action (suc n)) (generator-perm (suc n))

  pub word-perm : (w : List ℤ) → IsPerm d (of w)
  word-perm [] = IsPerm-identity d
  word-perm (x ∷ w) = IsPerm-product d (perm_of_letter action x) (of w) (letter-perm x) (word-perm w)

  -- a product of words acts by the product of their permutations
  pub word-append : (u v : List ℤ) → of (u ++ v) ≡ product_of (of u) (of v)
  word-append [] v = sym (product-identity_left d (of v) (word-perm v))
  word-append (x ∷ u) v =
      ap (product_of (perm_of_letter action x)) (word-append u v) ∙ sym (product-assoc d (perm_of_letter action x) (of u) (of v) (letter-perm x) (word-perm u))

  -- the first letter acts first
  pub word-step : (x : ℤ) (w : List ℤ) (p : ℕ) → p < d → get_or (of (x ∷ w)) p 0 ≡ get_or (of w) (get_or (perm_of_letter action x) p 0) 0
  word-step x w p h = at-product d (perm_of_letter action x) (of w) (letter-perm x) p h

  -- a letter and its inverse undo each other
  letter-pair : (x : ℤ) → product_of (perm_of_letter action x) (perm_of_letter action (neg_ℤ x)) ≡ identity d
  letter-pair (pos zero) = product-identity_left d (identity d) (IsPerm-identity d)
  letter-pair (pos (suc n)) = product-inverse_right d (perm_of_generator action (suc n)) (generator-perm (suc n))
  letter-pair (negsuc n) = product-inverse_left d (perm_of_generator action (suc n)) (generator-perm (suc n))

  word-letter : (x : ℤ) → of (x ∷ []) ≡ perm_of_letter action x
  word-letter x = product-identity_right d (perm_of_letter action x) (letter-perm x)

  -- what stands between two words that undo each other may act as the identity
  word-between : (u v w : List ℤ) → of v ≡ identity d → of (u ++ (v ++ w)) ≡ of (u ++ w)
  word-between u v w e =
      let inner : of (v ++ w) ≡ of w = word-append v w ∙ ap (λ p. product_of p (of w)) e ∙ product-identity_left d (of w) (word-perm w) in
      word-append u (v ++ w) ∙ ap (product_of (of u)) inner ∙ sym (word-append u w)

  -- a word and its inverse undo each other
  pub word-times_inverse : (w : List ℤ) → of (w ++ inv w) ≡ identity d
  word-times_inverse [] = refl
  word-times_inverse (x ∷ w) =
      let shape : x ∷ w ++ inv (x ∷ w) ≡ (x ∷ []) ++ ((w ++ inv w) ++ neg_ℤ x ∷ []) =
      ap (λ t. x ∷ w ++ t) (inv-cons x w) ∙ ap (λ t. x ∷ t) (sym (append_assoc w (inv w) (neg_ℤ x ∷ []))) in
      ap of shape ∙ word-between (x ∷ []) (w ++ inv w) (neg_ℤ x ∷ []) (word-times_inverse w) ∙ ap (product_of (perm_of_letter action x)) (word-letter (neg_ℤ x)) ∙ letter-pair x

  -- the inverse of a word that acts as the identity does so too
  inverse-identity : (w : List ℤ) → of w ≡ identity d → of (inv w) ≡ identity d
  inverse-identity w e =
      sym (product-identity_left d (of (inv w)) (word-perm (inv w))) ∙ ap (λ p. product_of p (of (inv w))) (sym e) ∙ sym (word-append w (inv w)) ∙ word-times_inverse w

  -- the inverse of a word that fixes the point 0 fixes it too
  inverse-fixes : (w : List ℤ) → 1 ≤ d → image_of_zero action w ≡ 0 → image_of_zero action (inv w) ≡ 0
  inverse-fixes w points e =
      ap (λ k. get_or (of (inv w)) k 0) (sym e) ∙ sym (at-product d (of w) (of (inv w)) (word-perm w) 0 (omega arith)) ∙ ap (λ p. get_or p 0 0) (sym (word-append w (inv w)) ∙ word-times_inverse w) ∙ at-identity d 0 (omega arith)

  signed-fixes : (inverse : Bool) (w : List ℤ) → 1 ≤ d → image_of_zero action w ≡ 0 → image_of_zero action (signed inverse w) ≡ 0
  signed-fixes false w points e = e
  signed-fixes true w points e = inverse-fixes w points e

  append-fixes : (u v : List ℤ) → 1 ≤ d → image_of_zero action u ≡ 0 → image_of_zero action v ≡ 0 → image_of_zero action (u ++ v) ≡ 0
  append-fixes u v points e f =
      ap (λ p. get_or p 0 0) (word-append u v) ∙ at-product d (of u) (of v) (word-perm u) 0 (omega arith) ∙ ap (λ k. get_or (of v) k 0) e ∙ f

  -- a product of words that fix the point 0, and of their inverses, fixes it
  product-fixes : (members : List (List ℤ)) (factors : List (ℕ × Bool)) → 1 ≤ d → AllByRecursion (λ (factor : ℕ × Bool). factor.0 < length members) factors
      → AllByRecursion (λ w. image_of_zero action w ≡ 0) members → image_of_zero action (product members factors) ≡ 0
  product-fixes members [] points there fixed = at-identity d 0 (omega arith)
  product-fixes members (factor ∷ factors) points there fixed =
      let w : List ℤ = slice_index_or members factor.0 [] in
      let member : image_of_zero action w ≡ 0 = All-get_or (λ w. image_of_zero action w ≡ 0) members factor.0 [] there.0 (All-from_recursion (λ w. image_of_zero action w ≡ 0) members fixed) in
      append-fixes (signed factor.1 w) (product members factors) points (signed-fixes factor.1 w points member) (product-fixes members factors points there.1 fixed)

  -- pieces act as the identity where the relators do, so steps keep the permutation
  module _ (m : ℕ) (relators : List (List ℤ)) (trivial : AllByRecursion (λ relator. of relator ≡ identity d) relators) where
    relator-identity : (relator : List ℤ) → Contains relators relator → of relator ≡ identity d
    relator-identity relator there = All-contains (λ w. of w ≡ identity d) relators relator (All-from_recursion (λ w. of w ≡ identity d) relators trivial) there

    piece-identity : (piece : List ℤ) → IsPiece m relators piece → of piece ≡ identity d
    piece-identity piece (a_pair x l e) = ap of e ∙ ap (product_of (perm_of_letter action x)) (word-letter (neg_ℤ x)) ∙ letter-pair x
    piece-identity piece (a_relator there) = relator-identity piece there
    piece-identity piece (an_inverse relator there e) = ap of e ∙ inverse-identity relator (relator-identity relator there)

    inserted : (u v : List ℤ) → Inserts m relators u v → of u ≡ of v
    inserted u v i = ap of i.without ∙ sym (word-between i.before i.piece i.after (piece-identity i.piece i.is_piece)) ∙ ap of (sym i.with_it)

    led : (u v : List ℤ) (words : List (List ℤ)) → Leads m relators u words v → of u ≡ of v
    led u v [] e = ap of e
    led u v (w ∷ words) h =
        elim h.0 as (λ _. of u ≡ of w) [ inl i ↦ inserted u w i | inr i ↦ sym (inserted w u i) ] ∙ led w v words h.1

-- one more letter of a word
pub image_step : (action : PermTuple) (word : List ℤ) (i p next target : ℕ) (x : ℤ) → next ≡ get_or (perm_of_letter action x) p 0 → x ≡ get_or word i x → i < length word → p < action.degree → IsPermTuple (length action.images) action
    → get_or (perm_of_word action (drop i word)) p 0 ≡ target → get_or (perm_of_word action (drop (i + 1) word)) next 0 ≡ target
image_step action word i p next target x letter is there h perms rest =
    let whole : drop i word ≡ x ∷ drop (i + 1) word = drop_more word i x there ∙ ap (λ y. y ∷ drop (i + 1) word) (sym is) in
    ap (λ k. get_or (perm_of_word action (drop (i + 1) word)) k 0) letter ∙ sym (word-step action perms.perms x (drop (i + 1) word) p h) ∙ ap (λ w. get_or (perm_of_word action w) p 0) (sym whole) ∙ rest

-- and after the last
pub image_end : (action : PermTuple) (word : List ℤ) (i p target : ℕ) → get_or (perm_of_word action (drop i word)) p 0 ≡ target → length word ≤ i → p < action.degree → p ≡ target
image_end action word i p target rest past h =
    sym (at-identity action.degree p h) ∙ (ap (λ w. get_or (perm_of_word action w) p 0) (sym (drop_all i word past)) ∙ rest)

-- a word fixes each point where its permutation is the identity
pub fixes_points : (action : PermTuple) → IsPermTuple (length action.images) action → (w : List ℤ) → ((k : ℕ) → k < action.degree → get_or (perm_of_word action w) k 0 ≡ k) → perm_of_word action w ≡ identity action.degree
fixes_points action perms w fixed =
    let d = action.degree in
    same_points d (perm_of_word action w) (identity d) (word-perm action perms.perms w).count (IsPerm-identity d).count (λ k h. fixed k h ∙ sym (at-identity d k h))

pub moves_a_point : (action : PermTuple) (w : List ℤ) (p image : ℕ) → p < action.degree → image ≡ get_or (perm_of_word action w) p 0 → image ≢ p → perm_of_word action w ≡ identity action.degree → ⊥
moves_a_point action w p image h is other e = other (is ∙ ap (λ xs. get_or xs p 0) e ∙ at-identity action.degree p h)

-- an action of a group takes words that are the same to the same permutation
pub same_act_alike : (group : Group) (action : PermTuple) (u v : List ℤ) → IsAction group action → Same group u v → perm_of_word action u ≡ perm_of_word action v
same_act_alike group action u v h same = led action h.perms.perms group.generators group.relators h.relators u v same.0 same.1

-- what lies in the subgroup fixes the point 0 where the members do
pub lying_fixes : (group : Group) (action : PermTuple) (members : List (List ℤ)) (w : List ℤ) → IsAction group action → AllByRecursion (λ w. image_of_zero action w ≡ 0) members → Lies group members w → image_of_zero action w ≡ 0
lying_fixes group action members w h fixed lies =
    ap (λ p. get_or p 0 0) (sym (same_act_alike group action (product members lies.factors) w h lies.same)) ∙ product-fixes action h.perms.perms members lies.factors h.perms.points lies.there fixed

pub refuted_does_not_lie : (ask : Inquiry) (goal : ℕ) (action : PermTuple) → Refutes ask goal action → Lies ask.group ask.subgroup (slice_index_or ask.goals goal []) → ⊥
refuted_does_not_lie ask goal action refutes lies =
    refutes.moved (lying_fixes ask.group action ask.subgroup (slice_index_or ask.goals goal []) refutes.is_action refutes.fixed lies)

pub refuted_does_not_hold : (ask : Inquiry) (goal : ℕ) (action : PermTuple) → Refutes ask goal action → Holds ask → ⊥
refuted_does_not_hold ask goal action refutes holds =
    refuted_does_not_lie ask goal action refutes (All-get_or (Lies ask.group ask.subgroup) ask.goals goal [] refutes.there (All-from_recursion (Lies ask.group ask.subgroup) ask.goals holds))
