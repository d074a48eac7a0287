-- A stable table without an empty entry is an action of the group, in which the subgroup words fix the point 0.
use Rattle.std.proofs.Common.{◌≡◌, ℕ, zero, suc, ◌<◌, ℤ, pos, negsuc, List, [], ◌∷◌, length, get_or, Option, Some, refl, sym, ap, ◌∙◌, arith}
use Rattle.std.specs.Prelude.{neg_ℤ, slice_get}
use Rattle.std.specs.Option.{option_and_then}
use Rattle.std.specs.List.{AllByRecursion}
use Rattle.std.proofs.lemmas.List.{get_or_default}
use Rattle.std.proofs.lemmas.List.Elements.{recursion_from_All, All-from_recursion}
use Rattle.std.proofs.lemmas.Option.{slice_get-get_or}
use Rattle.mg_words.specs.Letter.{IsLetterOf}
use Rattle.mg_words.specs.Word.{IsOver}
use Rattle.mg_numbers.specs.Perms.{PermTuple, IsPermTuple, IsPerm}
use Rattle.mg_present.specs.Presentation.{Group, IsPresented}
use Rattle.mg_action.specs.Permutation.{identity}
use Rattle.mg_action.specs.Action.{perm_of_letter, perm_of_word, image_of_zero, IsAction}
use Rattle.mg_action.proofs.Words.{letter-perm, word-step, word-times_inverse, image_end, fixes_points}
use Rattle.mg_tables.specs.Table.{Table, entry, row_after, IsTable, IsComplete}
use Rattle.mg_tables.specs.Force.{a_relator, a_member, IsStable}
use Rattle.mg_tables.proofs.Complete.{leads_on, word_fixes, relator_over}
use Rattle.mg_cosets.specs.Cosets.{IsActionOf}

one : {A : Type 0} {o : Option A} {a b : A} → o ≡ Some a → o ≡ Some b → a ≡ b
one e f = cc

module _ (group : Group) (subgroup : List (List ℤ)) (t : Table) (ht : IsTable group.generators t) (hs : IsStable group subgroup t) (hc : IsComplete group.generators t)
    (act : PermTuple) (tuple : IsPermTuple (length act.images) act) (is : IsActionOf group.generators t act) where
  abbrev m : ℕ
  m = group.generators

  abbrev of : List ℤ → List ℕ
  of w = perm_of_word act w

  point : (c : ℕ) → c < length t → c < act.degree
  point c h = omega (arith, h, is.degree)

  identity_at : (p : ℕ) → p < act.degree → p ≡ get_or (of []) p 0
  identity_at p h = image_end act [] 0 p (get_or (of []) p 0) refl (omega arith) h

  image_below : (x : ℤ) (p : ℕ) → p < act.degree → get_or (perm_of_letter act x) p 0 < act.degree
  image_below x p h = let perm : IsPerm act.degree (perm_of_letter act x) = letter-perm act tuple.perms x in perm.below p 0 (omega (arith, h, perm.count))

  undone : (x : ℤ) (p : ℕ) → p < act.degree → get_or (perm_of_letter act (neg_ℤ x)) (get_or (perm_of_letter act x) p 0) 0 ≡ p
  undone x p h =
      let q : ℕ = get_or (perm_of_letter act x) p 0 in
      identity_at (get_or (perm_of_letter act (neg_ℤ x)) q 0) (image_below (neg_ℤ x) q (image_below x p h))
      ∙ (sym (word-step act tuple.perms (neg_ℤ x) [] q (image_below x p h))
      ∙ (sym (word-step act tuple.perms x (neg_ℤ x ∷ []) p h)
      ∙ (ap (λ (xs : List ℕ). get_or xs p 0) (word-times_inverse act tuple.perms (x ∷ [])) ∙ sym (identity_at p h))))

  positive_at : (n c : ℕ) → n < m → c < length t → entry t c (pos (suc n)) ≡ Some (get_or (perm_of_letter act (pos (suc n))) c 0)
  positive_at n c few h =
      is.images n c few h
      ∙ ap (λ (xs : List ℕ). Some (get_or xs c 0)) (get_or_default act.images n [] (identity act.degree) (omega (arith, few, is.count)))

  letter_at : (x : ℤ) → IsLetterOf m x → (c : ℕ) → c < length t → entry t c x ≡ Some (get_or (perm_of_letter act x) c 0)
  letter_at (pos zero) l c h = absurd (omega (arith, l.least))
  letter_at (pos (suc n)) l c h = positive_at n c (omega (arith, l.most)) h
  letter_at (negsuc n) l c h =
      let e : (e : ℕ) × (entry t c (negsuc n) ≡ Some e) = leads_on m t hc c (negsuc n) h l in
      let below : e.0 < length t = ht.rows c e.0 (negsuc n) l e.1 in
      let back : entry t e.0 (pos (suc n)) ≡ Some c = ht.inverse c e.0 (negsuc n) l e.1 in
      let image : c ≡ get_or (perm_of_letter act (pos (suc n))) e.0 0 = one back (positive_at n e.0 (omega (arith, l.most)) below) in
      e.1 ∙ ap Some (sym (undone (pos (suc n)) e.0 (point e.0 below)) ∙ ap (λ p. get_or (perm_of_letter act (negsuc n)) p 0) (sym image))

  word_at : (w : List ℤ) → IsOver m w → (c : ℕ) → c < length t → row_after t c w ≡ Some (get_or (of w) c 0)
  word_at [] over c h = ap Some (identity_at c (point c h))
  word_at (x ∷ w) over c h =
      let q : ℕ = get_or (perm_of_letter act x) c 0 in
      let below : q < length t = omega (arith, image_below x c (point c h), is.degree) in
      ap (option_and_then (λ d. row_after t d w)) (letter_at x over.0 c h)
      ∙ (word_at w over.1 q below ∙ ap Some (sym (word-step act tuple.perms x w c (point c h))))

  pub table_acts : IsPresented group → IsAction group act
  table_acts presented = record {
    perms = record { points = tuple.points; count = is.count; perms = tuple.perms };
    relators = recursion_from_All (λ w. of w ≡ identity act.degree) group.relators (λ k d lt.
        let w : List ℤ = get_or group.relators k d in
        let get : slice_get group.relators k ≡ Some w = slice_get-get_or group.relators k d lt in
        let over : IsOver m w = relator_over group presented k w get in
        fixes_points act tuple w (λ c h.
        let below : c < length t = omega (arith, h, is.degree) in
        one (word_at w over c below) (word_fixes group subgroup t ht hs hc (a_relator k) c w below over (get, below))));
  }

  pub table_fixes : AllByRecursion (IsOver group.generators) subgroup → 0 < length t → AllByRecursion (λ w. image_of_zero act w ≡ 0) subgroup
  table_fixes over some = recursion_from_All (λ w. image_of_zero act w ≡ 0) subgroup (λ k d lt.
      let w : List ℤ = get_or subgroup k d in
      let get : slice_get subgroup k ≡ Some w = slice_get-get_or subgroup k d lt in
      let each : IsOver m w = All-from_recursion (IsOver m) subgroup over k d lt in
      one (word_at w each 0 some) (word_fixes group subgroup t ht hs hc (a_member k) 0 w some each (get, refl)))
