-- Words sum to residues, and words that are the same to the same one; what that refutes.
use Rattle.std.proofs.Common.{◌≡◌, ℕ, zero, suc, ◌+◌, ◌-◌, ◌%◌, ◌<◌, ◌≤◌, Bool, true, false, ℤ, pos, negsuc, neg_ℤ, List, [], ◌∷◌, ◌++◌, length, get_or, take, replicate, sym, ap, ◌∙◌, inl, inr, append_assoc, arith}
use Rattle.std.specs.Prelude.{Contains, slice_index_or, sum_by}
use Rattle.std.specs.List.{AllByRecursion}
use Rattle.std.proofs.Math.Nat.{mod-add-mod, add-mod-mod, mod_self}
use Rattle.std.proofs.lemmas.Bool.{cases_lt}
use Rattle.std.proofs.lemmas.List.{get_or_past, take-replicate}
use Rattle.std.proofs.lemmas.List.Elements.{All-from_recursion, All-contains, All-get_or}
use Rattle.std.proofs.lemmas.List.Sums.{sum_by-append, sum_by_more}
use Rattle.mg_words.specs.Word.{inv}
use Rattle.mg_words.specs.Chain.{IsPiece, a_pair, a_relator, an_inverse, Inserts, Leads}
use Rattle.mg_words.proofs.Chains.{inv-cons}
use Rattle.mg_numbers.specs.Residues.{ResidueTuple, IsResidueTuple}
use Rattle.mg_present.specs.Presentation.{Group}
use Rattle.mg_present.specs.Ask.{Inquiry}
use Rattle.mg_present.specs.Same.{Same, signed, product, Lies, Holds}
use Rattle.mg_cyclic.specs.Map.{residue_of_generator, added_by_letter, residue_of_word, IsMap, Refutes}

-- one letter more
pub residue_more : (map : ResidueTuple) (word : List ℤ) (i old add new : ℕ) (x : ℤ) → new ≡ (old + add) % map.modulus → add ≡ added_by_letter map x → x ≡ get_or word i x → i < length word → old ≡ residue_of_word map (take i word) → new ≡ residue_of_word map (take (i + 1) word)
residue_more map word i old add new x sum letter is there before =
    let f : ℤ → ℕ = added_by_letter map in
    let more : sum_by f (take (i + 1) word) ≡ sum_by f (take i word) + add = sum_by_more f word i x there ∙ ap (λ k. sum_by f (take i word) + k) (ap f (sym is) ∙ sym letter) in
    sum ∙ (ap (λ k. (k + add) % map.modulus) before ∙ (mod-add-mod (sum_by f (take i word)) map.modulus add ∙ ap (λ k. k % map.modulus) (sym more)))

-- a modulus and residues
abbrev pub tuple : ℕ → List ℕ → ResidueTuple
tuple modulus residues = record { modulus = modulus; residues = residues }

pub all_zeros : (g n : ℕ) → g ≤ n → tuple 2 (take g (replicate n 0)) ≡ tuple 2 (replicate g 0)
all_zeros g n h = ap (tuple 2) (take-replicate g n 0 h)

module _ (map : ResidueTuple) (m : ℕ) (residues : IsResidueTuple m map) where
  abbrev n : ℕ
  n = map.modulus

  abbrev f : ℤ → ℕ
  f = added_by_letter map

  abbrev of : List ℤ → ℕ
  of w = residue_of_word map w

  zero-vanishes : 0 % n ≡ 0
  zero-vanishes = omega (arith, residues.proper)

  generator-le : (place : ℕ) → residue_of_generator map place ≤ n
  generator-le zero = omega arith
  generator-le (suc k) =
      elim (cases_lt k (length map.residues)) [
        | inl there ↦ omega (arith, All-get_or (λ x. x < n) map.residues k 0 there residues.below)
        | inr past ↦ omega (arith, get_or_past map.residues k 0 past)
      ]

  -- a letter and its inverse sum to 0
  letter-pair : (x : ℤ) → (f x + f (neg_ℤ x)) % n ≡ 0
  letter-pair (pos zero) = zero-vanishes
  letter-pair (pos (suc k)) =
      let r : ℕ = residue_of_generator map (suc k) in
      let whole : r + (n - r) ≡ n = omega (arith, generator-le (suc k)) in
      ap (λ s. s % n) whole ∙ mod_self n
  letter-pair (negsuc k) =
      let r : ℕ = residue_of_generator map (suc k) in
      let whole : n - r + r ≡ n = omega (arith, generator-le (suc k)) in
      ap (λ s. s % n) whole ∙ mod_self n

  pair-vanishes : (x : ℤ) → of (x ∷ neg_ℤ x ∷ []) ≡ 0
  pair-vanishes x =
      let whole : sum_by f (x ∷ neg_ℤ x ∷ []) ≡ f x + f (neg_ℤ x) = omega arith in
      ap (λ s. s % n) whole ∙ letter-pair x

  -- a product of words sums to the sum
  pub word-append : (u v : List ℤ) → of (u ++ v) ≡ (of u + of v) % n
  word-append u v =
      ap (λ s. s % n) (sum_by-append f u v) ∙ sym (mod-add-mod (sum_by f u) n (sum_by f v % n) ∙ add-mod-mod (sum_by f u) (sum_by f v) n)

  -- a word that sums to 0 may stand before another, and between two
  word-after : (v w : List ℤ) → of v ≡ 0 → of (v ++ w) ≡ of w
  word-after v w e =
      let whole : 0 + sum_by f w ≡ sum_by f w = omega arith in
      word-append v w ∙ (ap (λ s. (s + of w) % n) e ∙ (add-mod-mod 0 (sum_by f w) n ∙ ap (λ s. s % n) whole))

  word-between : (u v w : List ℤ) → of v ≡ 0 → of (u ++ (v ++ w)) ≡ of (u ++ w)
  word-between u v w e = word-append u (v ++ w) ∙ (ap (λ s. (of u + s) % n) (word-after v w e) ∙ sym (word-append u w))

  -- a word and its inverse sum to 0
  times_inverse : (w : List ℤ) → of (w ++ inv w) ≡ 0
  times_inverse [] = zero-vanishes
  times_inverse (x ∷ w) =
      let shape : x ∷ w ++ inv (x ∷ w) ≡ (x ∷ []) ++ ((w ++ inv w) ++ neg_ℤ x ∷ []) =
      ap (λ t. x ∷ w ++ t) (inv-cons x w) ∙ ap (λ t. x ∷ t) (sym (append_assoc w (inv w) (neg_ℤ x ∷ []))) in
      ap of shape ∙ (word-between (x ∷ []) (w ++ inv w) (neg_ℤ x ∷ []) (times_inverse w) ∙ pair-vanishes x)

  inverse-vanishes : (w : List ℤ) → of w ≡ 0 → of (inv w) ≡ 0
  inverse-vanishes w e = sym (word-after w (inv w) e) ∙ times_inverse w

  signed-vanishes : (inverse : Bool) (w : List ℤ) → of w ≡ 0 → of (signed inverse w) ≡ 0
  signed-vanishes false w e = e
  signed-vanishes true w e = inverse-vanishes w e

  -- a product of words that sum to 0, and of their inverses, sums to 0
  product-vanishes : (members : List (List ℤ)) (factors : List (ℕ × Bool)) → AllByRecursion (λ (factor : ℕ × Bool). factor.0 < length members) factors
      → AllByRecursion (λ w. of w ≡ 0) members → of (product members factors) ≡ 0
  product-vanishes members [] there vanish = zero-vanishes
  product-vanishes members (factor ∷ factors) there vanish =
      let w : List ℤ = slice_index_or members factor.0 [] in
      let member : of w ≡ 0 = All-get_or (λ w. of w ≡ 0) members factor.0 [] there.0 (All-from_recursion (λ w. of w ≡ 0) members vanish) in
      word-after (signed factor.1 w) (product members factors) (signed-vanishes factor.1 w member) ∙ product-vanishes members factors there.1 vanish

  -- pieces sum to 0 where the relators do, so steps keep the residue
  module _ (generators : ℕ) (relators : List (List ℤ)) (vanish : AllByRecursion (λ relator. of relator ≡ 0) relators) where
    relator-vanishes : (relator : List ℤ) → Contains relators relator → of relator ≡ 0
    relator-vanishes relator there = All-contains (λ w. of w ≡ 0) relators relator (All-from_recursion (λ w. of w ≡ 0) relators vanish) there

    piece-vanishes : (piece : List ℤ) → IsPiece generators relators piece → of piece ≡ 0
    piece-vanishes piece (a_pair x l e) = ap of e ∙ pair-vanishes x
    piece-vanishes piece (a_relator there) = relator-vanishes piece there
    piece-vanishes piece (an_inverse relator there e) = ap of e ∙ inverse-vanishes relator (relator-vanishes relator there)

    inserted : (u v : List ℤ) → Inserts generators relators u v → of u ≡ of v
    inserted u v i = ap of i.without ∙ (sym (word-between i.before i.piece i.after (piece-vanishes i.piece i.is_piece)) ∙ ap of (sym i.with_it))

    led : (u v : List ℤ) (words : List (List ℤ)) → Leads generators relators u words v → of u ≡ of v
    led u v [] e = ap of e
    led u v (w ∷ words) h =
        elim h.0 as (λ _. of u ≡ of w) [ inl i ↦ inserted u w i | inr i ↦ sym (inserted w u i) ] ∙ led w v words h.1

-- a map of a group takes words that are the same to the same residue
pub same_sum_alike : (group : Group) (map : ResidueTuple) (u v : List ℤ) → IsMap group map → Same group u v → residue_of_word map u ≡ residue_of_word map v
same_sum_alike group map u v h same = led map group.generators h.residues group.generators group.relators h.relators u v same.0 same.1

pub refuted_does_not_lie : (ask : Inquiry) (goal : ℕ) (map : ResidueTuple) → Refutes ask goal map → Lies ask.group ask.subgroup (slice_index_or ask.goals goal []) → ⊥
refuted_does_not_lie ask goal map refutes lies =
    let w : List ℤ = slice_index_or ask.goals goal [] in
    refutes.remains (sym (same_sum_alike ask.group map (product ask.subgroup lies.factors) w refutes.is_map lies.same)
    ∙ product-vanishes map ask.group.generators refutes.is_map.residues ask.subgroup lies.factors lies.there refutes.vanish)

pub refuted_does_not_hold : (ask : Inquiry) (goal : ℕ) (map : ResidueTuple) → Refutes ask goal map → Holds ask → ⊥
refuted_does_not_hold ask goal map refutes holds =
    refuted_does_not_lie ask goal map refutes (All-get_or (Lies ask.group ask.subgroup) ask.goals goal [] refutes.there (All-from_recursion (Lies ask.group ask.subgroup) ask.goals holds))
