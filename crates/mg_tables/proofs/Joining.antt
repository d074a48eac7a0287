-- Joining two rows of a table has one result.
use Rattle.std.proofs.Common.{◌≡◌, ℕ, zero, suc, ◌<◌, ◌≤◌, ℤ, List, length, get_or, Option, Some, None, refl, sym, ap, subst, ◌∙◌, ◌⊎◌, inl, inr, arith}
use Rattle.std.proofs.lemmas.Bool.{cases_lt, cases_eq, cases_order}
use Rattle.std.proofs.lemmas.List.{same_lists, get_or_default}
use Rattle.mg_words.specs.Letter.{IsLetterOf}
use Rattle.mg_tables.specs.Table.{Table, entry}
use Rattle.mg_tables.specs.Joining.{IsDivided, Joins}
use Rattle.mg_tables.proofs.Tables.{same_tables}

-- two lists of labels that join the same rows, each in the order of the lowest members, are one
module _ (n : ℕ) (ls ks : List ℕ)
    (l_order : (a r : ℕ) → a < n → r < get_or ls a 0 → (b : ℕ) × (b < a) × (get_or ls b 0 ≡ r))
    (k_order : (a r : ℕ) → a < n → r < get_or ks a 0 → (b : ℕ) × (b < a) × (get_or ks b 0 ≡ r))
    (l_joins : (a b : ℕ) → a < n → b < n → get_or ls a 0 ≡ get_or ls b 0 → get_or ks a 0 ≡ get_or ks b 0)
    (k_joins : (a b : ℕ) → a < n → b < n → get_or ks a 0 ≡ get_or ks b 0 → get_or ls a 0 ≡ get_or ls b 0) where
  next_label : (a : ℕ) → a < n → ((b : ℕ) → b < a → get_or ls b 0 ≡ get_or ks b 0) → get_or ls a 0 ≡ get_or ks a 0
  next_label a below before =
      elim (cases_order (get_or ls a 0) (get_or ks a 0)) [
        | inl e ↦ e
        | inr (inl less) ↦
            let f : (b : ℕ) × (b < a) × (get_or ks b 0 ≡ get_or ls a 0) = k_order a (get_or ls a 0) below less in
            let same : get_or ls f.0 0 ≡ get_or ls a 0 = before f.0 f.1 ∙ f.2 in
            sym f.2 ∙ l_joins f.0 a (omega (arith, f.1)) below same
        | inr (inr more) ↦
            let f : (b : ℕ) × (b < a) × (get_or ls b 0 ≡ get_or ks a 0) = l_order a (get_or ks a 0) below more in
            let same : get_or ks f.0 0 ≡ get_or ks a 0 = sym (before f.0 f.1) ∙ f.2 in
            sym (k_joins f.0 a (omega (arith, f.1)) below same) ∙ f.2
      ]

  labels_below : (m a : ℕ) → m ≤ n → a < m → get_or ls a 0 ≡ get_or ks a 0
  labels_below zero a h lt = absurd (omega arith)
  labels_below (suc m) a h lt =
      elim (cases_eq a m) [
        | inl e ↦ subst (λ k. get_or ls k 0 ≡ get_or ks k 0) (sym e) (next_label m (omega arith) (λ b below. labels_below m b (omega arith) below))
        | inr ne ↦ labels_below m a (omega arith) (omega arith)
      ]

  pub same_labels : (a : ℕ) → a < n → get_or ls a 0 ≡ get_or ks a 0
  same_labels a below = labels_below n a (omega arith) below

-- an entry is there or not
pub there_or_not : (o : Option ℕ) → ((d : ℕ) × (o ≡ Some d)) ⊎ (o ≡ None)
there_or_not None = inr refl
there_or_not (Some d) = inl (d, refl)

-- two tables divided by the same labels
module _ (m : ℕ) (t : Table) (labels : List ℕ) (u v : Table) (hu : IsDivided m t labels u) (hv : IsDivided m t labels v) where
  no_longer : length u ≤ length v
  no_longer =
      elim (cases_lt (length v) (length u)) [
        | inl less ↦
            let f : (a : ℕ) × (a < length t) × (get_or labels a 0 ≡ length v) = hu.used (length v) less in
            absurd (omega (arith, hv.named f.0 f.1, f.2))
        | inr h ↦ h
      ]

  entry_there : (r s : ℕ) (x : ℤ) → IsLetterOf m x → entry u r x ≡ Some s → entry v r x ≡ Some s
  entry_there r s x l e =
      let f : (a : ℕ) × (b : ℕ) × (entry t a x ≡ Some b) × (get_or labels a 0 ≡ r) × (get_or labels b 0 ≡ s) = hu.back r s x l e in
      let g : entry v (get_or labels f.0 0) x ≡ Some (get_or labels f.1 0) = hv.forward f.0 f.1 x l f.2 in
      subst (λ k. entry v k x ≡ Some s) f.3 (g ∙ ap Some f.4)

pub same_divided : (m : ℕ) (t : Table) (labels : List ℕ) (u v : Table) → IsDivided m t labels u → IsDivided m t labels v → u ≡ v
same_divided m t labels u v hu hv =
    let more : length u ≤ length v = no_longer m t labels u v hu hv in
    let less : length v ≤ length u = no_longer m t labels v u hv hu in
    same_tables m u v hu.whole hv.whole (omega arith) (λ c x below l.
    elim (there_or_not (entry u c x)) [
      | inl d ↦ d.1 ∙ sym (entry_there m t labels u v hu hv c d.0 x l d.1)
      | inr e ↦ elim (there_or_not (entry v c x)) [
        | inl d ↦ entry_there m t labels v u hv hu c d.0 x l d.1 ∙ sym d.1
        | inr k ↦ e ∙ sym k
      ]
    ])

-- the table with the rows p and q joined is one
pub one_result : (m : ℕ) (t : Table) (p q : ℕ) (u v : Table) → Joins m t p q u → Joins m t p q v → u ≡ v
one_result m t p q u v hu hv =
    let n = length t in
    let e : hv.labels ≡ hu.labels =
    same_lists hv.labels hu.labels (hv.least.kept.count ∙ sym hu.least.kept.count) (λ a d below.
    let at : a < length t = omega (arith, hv.least.kept.count) in
    let same : get_or hv.labels a 0 ≡ get_or hu.labels a 0 =
    same_labels (length t) hv.labels hu.labels hv.divided.in_order hu.divided.in_order
    (hv.least.least hu.labels hu.least.kept hu.least.joins)
    (hu.least.least hv.labels hv.least.kept hv.least.joins) a at in
    default_moved hv.labels hu.labels a d below (omega (arith, hv.least.kept.count, hu.least.kept.count)) same) in
    same_divided m t hu.labels u v hu.divided (subst (λ ls. IsDivided m t ls v) e hv.divided)
  where
    default_moved : (xs ys : List ℕ) (a d : ℕ) → a < length xs → a < length ys → get_or xs a 0 ≡ get_or ys a 0 → get_or xs a d ≡ get_or ys a d
    default_moved xs ys a d h k e = get_or_default xs a d 0 h ∙ (e ∙ get_or_default ys a 0 d k)
