-- What the two ways from a row tell of a word.
use Rattle.std.proofs.Common.{◌≡◌, ℕ, ◌+◌, ◌<◌, ℤ, List, [], ◌∷◌, ◌++◌, length, map, reverse, Option, Some, None, refl, sym, ap, subst, ◌∙◌, inl, inr, arith}
use Rattle.std.specs.Prelude.{neg_ℤ}
use Rattle.std.specs.Option.{option_and_then}
use Rattle.std.proofs.lemmas.Bool.{cases_lt}
use Rattle.std.proofs.lemmas.List.{append_assoc, length-append, map-append, reverse-append}
use Rattle.std.proofs.lemmas.Option.{option_and_then_some}
use Rattle.mg_words.specs.Letter.{IsLetterOf}
use Rattle.mg_words.specs.Word.{IsOver, inv}
use Rattle.mg_tables.specs.Table.{Table, entry, row_after, IsTable}
use Rattle.mg_tables.specs.Gaps.{Places, number, packed}
use Rattle.mg_tables.specs.Scan.{ForcesNothing, RowsForced, EntryForced, IsAhead, IsBehind}
use Rattle.mg_tables.proofs.Gaps.{number_apart}
use Rattle.mg_tables.proofs.Filling.{letter_turned, turned_twice}

pub not_both : {P : Type 0} {o : Option ℕ} {a : ℕ} → o ≡ None → o ≡ Some a → P
not_both e f = absurd cc

pub one_value : {o : Option ℕ} {a b : ℕ} → o ≡ Some a → o ≡ Some b → a ≡ b
one_value e f = cc

-- a word after a word
pub after_append : (t : Table) (c : ℕ) (u v : List ℤ) (d : ℕ) → row_after t c u ≡ Some d → row_after t c (u ++ v) ≡ row_after t d v
after_append t c [] v d e = ap (λ k. row_after t k v) (one_value {o = Some c} refl e)
after_append t c (x ∷ u) v d e =
    option_and_then_some (λ k. row_after t k u) (entry t c x) d e (λ k f g.
    ap (option_and_then (λ b. row_after t b (u ++ v))) f ∙ after_append t k u v d g)

-- the way to a beginning of a word that leads somewhere
pub after_front : (t : Table) (c : ℕ) (u v : List ℤ) (d : ℕ) → row_after t c (u ++ v) ≡ Some d → (k : ℕ) × (row_after t c u ≡ Some k) × (row_after t k v ≡ Some d)
after_front t c [] v d e = (c, refl, e)
after_front t c (x ∷ u) v d e =
    option_and_then_some (λ k. row_after t k (u ++ v)) (entry t c x) d e (λ k f g.
    let rest : (b : ℕ) × (row_after t k u ≡ Some b) × (row_after t b v ≡ Some d) = after_front t k u v d g in
    (rest.0, ap (option_and_then (λ b. row_after t b u)) f ∙ rest.1, rest.2))

pub after_none : (t : Table) (c : ℕ) (u : List ℤ) (x : ℤ) (v : List ℤ) (d : ℕ) → row_after t c u ≡ Some d → entry t d x ≡ None → row_after t c (u ++ x ∷ v) ≡ None
after_none t c u x v d e f = after_append t c u (x ∷ v) d e ∙ ap (option_and_then (λ k. row_after t k v)) f

pub inv-append : (u v : List ℤ) → inv (u ++ v) ≡ inv v ++ inv u
inv-append u v = ap (map neg_ℤ) (reverse-append u v) ∙ map-append neg_ℤ (reverse v) (reverse u)

pub inv-cons : (x : ℤ) (v : List ℤ) → inv (x ∷ v) ≡ inv v ++ neg_ℤ x ∷ []
inv-cons x v = inv-append (x ∷ []) v

pub over_front : (m : ℕ) (u v : List ℤ) → IsOver m (u ++ v) → IsOver m u
over_front m [] v h = tt
over_front m (x ∷ u) v h = (h.0, over_front m u v h.1)

pub over_back : (m : ℕ) (u v : List ℤ) → IsOver m (u ++ v) → IsOver m v
over_back m [] v h = h
over_back m (x ∷ u) v h = over_back m u v h.1

-- the way back
pub way_back : (m : ℕ) (t : Table) → IsTable m t → (w : List ℤ) → IsOver m w → (c d : ℕ) → row_after t c w ≡ Some d → row_after t d (inv w) ≡ Some c
way_back m t ht [] over c d e = sym e
way_back m t ht (x ∷ w) over c d e =
    option_and_then_some (λ k. row_after t k w) (entry t c x) d e (λ k f g.
    ap (row_after t d) (inv-cons x w)
    ∙ (after_append t d (inv w) (neg_ℤ x ∷ []) k (way_back m t ht w over.1 k d g)
    ∙ ap (option_and_then (λ b. Some b)) (ht.inverse c k x over.0 f)))

pub over_inv : (m : ℕ) (w : List ℤ) → IsOver m w → IsOver m (inv w)
over_inv m [] over = tt
over_inv m (x ∷ w) over = subst (IsOver m) (sym (inv-cons x w)) (both (inv w) (neg_ℤ x) (over_inv m w over.1) (letter_turned m x over.0))
  where
    both : (u : List ℤ) (y : ℤ) → IsOver m u → IsLetterOf m y → IsOver m (u ++ y ∷ [])
    both [] y h l = (l, tt)
    both (z ∷ u) y h l = (h.0, both u y h.1 l)

pub inv-inv : (w : List ℤ) → inv (inv w) ≡ w
inv-inv [] = refl
inv-inv (x ∷ w) = ap inv (inv-cons x w) ∙ (inv-append (inv w) (neg_ℤ x ∷ []) ∙ (ap (λ y. y ∷ inv (inv w)) (turned_twice x) ∙ ap (λ (u : List ℤ). x ∷ u) (inv-inv w)))

-- a word that leads the row to itself forces nothing
pub closed_forces_nothing : (m : ℕ) (t : Table) → IsTable m t → (w : List ℤ) → IsOver m w → (c : ℕ) → row_after t c w ≡ Some c → ForcesNothing t c w
closed_forces_nothing m t ht w over c e = record {
  no_rows = λ u v p q s h.
      let ways : (k : ℕ) × (row_after t c u ≡ Some k) × (row_after t k v ≡ Some c) = after_front t c u v c (ap (row_after t c) (sym s) ∙ e) in
      let back : row_after t c (inv v) ≡ Some ways.0 = way_back m t ht v (over_back m u v (subst (IsOver m) s over)) ways.0 c ways.2 in
      h.differ (one_value h.before ways.1 ∙ one_value back h.after);
  no_letter = λ u v x p q s h.
      let ways : (k : ℕ) × (row_after t c u ≡ Some k) × (row_after t k (x ∷ v) ≡ Some c) = after_front t c u (x ∷ v) c (ap (row_after t c) (sym s) ∙ e) in
      let same : p ≡ ways.0 = one_value h.before ways.1 in
      not_both (ap (option_and_then (λ b. row_after t b v)) (subst (λ k. entry t k x ≡ None) same h.empty)) ways.2;
}

-- a list in two ways: one beginning goes on to the other
pub split_ways : (a b u v : List ℤ) → a ++ b ≡ u ++ v → length a < length u → (x : ℤ) × (r s : List ℤ) × (b ≡ x ∷ r) × (u ≡ a ++ x ∷ s)
split_ways [] [] [] v e h = absurd (omega (arith, h))
split_ways [] (y ∷ b) [] v e h = absurd (omega (arith, h))
split_ways [] [] (x ∷ u) v e h = absurd cc
split_ways [] (y ∷ b) (x ∷ u) v e h = let same : y ≡ x = cc in (y, b, u, refl, ap (λ z. z ∷ u) (sym same))
split_ways (y ∷ a) b [] v e h = absurd (omega (arith, h))
split_ways (y ∷ a) b (x ∷ u) v e h =
    let same : y ≡ x = cc in
    let rest : a ++ b ≡ u ++ v = cc in
    let found : (x : ℤ) × (r s : List ℤ) × (b ≡ x ∷ r) × (u ≡ a ++ x ∷ s) = split_ways a b u v rest (omega (arith, h)) in
    (found.0, found.1, found.2, found.3, ap (λ z. z ∷ u) (sym same) ∙ ap (λ (l : List ℤ). y ∷ l) found.4)

module _ (m : ℕ) (ps : Places) (ht : IsTable m (packed ps)) (c : ℕ) (w : List ℤ) (over : IsOver m w) (i at : ℕ) (a : IsAhead ps c w i at) (j to : ℕ) (b : IsBehind ps c w i j to) where
  abbrev t : Table
  t = packed ps

  abbrev r : ℕ
  r = number ps c

  both : a.front ++ a.back ≡ b.front ++ b.back
  both = sym a.word ∙ b.word

  -- no longer beginning leads anywhere
  no_longer : (u v : List ℤ) → w ≡ u ++ v → i < length u → row_after t r u ≡ None
  no_longer u v e h =
      let found : (x : ℤ) × (r s : List ℤ) × (a.back ≡ x ∷ r) × (u ≡ a.front ++ x ∷ s) = split_ways a.front a.back u v (sym a.word ∙ e) (omega (arith, h, a.reached)) in
      ap (row_after t r) found.4 ∙ after_none t r a.front found.0 found.2 (number ps at) a.leads (a.stuck found.0 found.1 found.3)

  -- nor any longer end
  no_longer_back : (u v : List ℤ) → w ≡ u ++ v → length u < j → i < j → row_after t r (inv v) ≡ None
  no_longer_back u v e h stuck =
      let found : (rest : List ℤ) × (x : ℤ) × (s : List ℤ) × (b.front ≡ rest ++ x ∷ []) × (v ≡ s ++ x ∷ b.back) = split_ends u v b.front b.back (sym e ∙ b.word) (omega (arith, h, b.reached)) in
      ap (λ z. row_after t r (inv z)) found.4
      ∙ (ap (row_after t r) (inv-append found.2 (found.1 ∷ b.back) ∙ (ap (λ z. z ++ inv found.2) (inv-cons found.1 b.back) ∙ append_assoc (inv b.back) (neg_ℤ found.1 ∷ []) (inv found.2)))
      ∙ after_none t r (inv b.back) (neg_ℤ found.1) (inv found.2) (number ps to) b.leads (b.stuck found.0 found.1 found.3 stuck))
    where
      split_ends : (u v a b : List ℤ) → u ++ v ≡ a ++ b → length u < length a → (rest : List ℤ) × (x : ℤ) × (s : List ℤ) × (a ≡ rest ++ x ∷ []) × (v ≡ s ++ x ∷ b)
      split_ends [] v [] b e h = absurd (omega (arith, h))
      split_ends [] v (y ∷ []) b e h = ([], y, [], refl, e)
      split_ends [] v (y ∷ z ∷ a) b e h =
          let found : (rest : List ℤ) × (x : ℤ) × (s : List ℤ) × (z ∷ a ≡ rest ++ x ∷ []) × (z ∷ (a ++ b) ≡ s ++ x ∷ b) = split_ends [] (z ∷ (a ++ b)) (z ∷ a) b refl (omega arith) in
          (y ∷ found.0, found.1, y ∷ found.2, ap (λ (l : List ℤ). y ∷ l) found.3, e ∙ ap (λ (l : List ℤ). y ∷ l) found.4)
      split_ends (x ∷ u) v [] b e h = absurd (omega (arith, h))
      split_ends (x ∷ u) v (y ∷ a) b e h =
          let rest : u ++ v ≡ a ++ b = cc in
          let found : (rest : List ℤ) × (x : ℤ) × (s : List ℤ) × (a ≡ rest ++ x ∷ []) × (v ≡ s ++ x ∷ b) = split_ends u v a b rest (omega (arith, h)) in
          (y ∷ found.0, found.1, found.2, ap (λ (l : List ℤ). y ∷ l) found.3, found.4)

  same_parts : (x y u v : List ℤ) → x ++ y ≡ u ++ v → length x ≡ length u → (x ≡ u) × (y ≡ v)
  same_parts [] y [] v e h = (refl, e)
  same_parts [] y (z ∷ u) v e h = absurd (omega (arith, h))
  same_parts (z ∷ x) y [] v e h = absurd (omega (arith, h))
  same_parts (z ∷ x) y (k ∷ u) v e h =
      let head : z ≡ k = cc in
      let rest : x ++ y ≡ u ++ v = cc in
      let s : (x ≡ u) × (y ≡ v) = same_parts x y u v rest (omega (arith, h)) in
      (ap (λ e. e ∷ x) head ∙ ap (λ (l : List ℤ). k ∷ l) s.0, s.1)

  meet : j ≡ i → row_after t r (inv a.back) ≡ Some (number ps to)
  meet e = ap (λ z. row_after t r (inv z)) (same_parts a.front a.back b.front b.back both (omega (arith, a.reached, b.reached, e))).1 ∙ b.leads

  pub ways_close : j ≡ i → to ≡ at → ForcesNothing t r w
  ways_close e same = closed_forces_nothing m t ht w over r (
      let back : row_after t r (inv a.back) ≡ Some (number ps at) = meet e ∙ ap (λ k. Some (number ps k)) same in
      let on : row_after t (number ps at) (inv (inv a.back)) ≡ Some r = way_back m t ht (inv a.back) (over_inv m a.back (over_back m a.front a.back (subst (IsOver m) a.word over))) r (number ps at) back in
      ap (row_after t r) a.word ∙ (after_append t r a.front a.back (number ps at) a.leads ∙ (ap (row_after t (number ps at)) (sym (inv-inv a.back)) ∙ on)))

  pub ways_meet : j ≡ i → (to ≡ at → ⊥) → RowsForced ps c w i at to
  ways_meet e apart = record {
    front = a.front;
    back = a.back;
    word = a.word;
    at = a.reached;
    first_stands = a.stands;
    second_stands = b.stands;
    forces = record {
      before = a.leads;
      after = meet e;
      differ = λ s. apart (sym (number_apart ps at to a.stands b.stands s));
    };
    farthest = no_longer;
  }

  pub ways_leave_one : j ≡ i + 1 → EntryForced ps c w i at to
  ways_leave_one e =
      let found : (x : ℤ) × (r s : List ℤ) × (a.back ≡ x ∷ r) × (b.front ≡ a.front ++ x ∷ s) = split_ways a.front a.back b.front b.back both (omega (arith, a.reached, b.reached, e)) in
      let counted : length (a.front ++ found.0 ∷ found.2) ≡ length a.front + length (found.0 ∷ found.2) = length-append a.front (found.0 ∷ found.2) in
      let long : length b.front ≡ length (a.front ++ found.0 ∷ found.2) = ap length found.4 in
      let none : found.2 ≡ [] = empty found.2 (omega (arith, counted, long, a.reached, b.reached, e)) in
      let whole : b.front ≡ a.front ++ found.0 ∷ [] = found.4 ∙ ap (λ (l : List ℤ). a.front ++ found.0 ∷ l) none in
      record {
        front = a.front;
        letter = found.0;
        back = b.back;
        word = b.word ∙ (ap (λ (l : List ℤ). l ++ b.back) whole ∙ append_assoc a.front (found.0 ∷ []) b.back);
        at = a.reached;
        from_stands = a.stands;
        to_stands = b.stands;
        forces = record {
          before = a.leads;
          after = b.leads;
          empty = a.stuck found.0 found.1 found.3;
          empty_back = b.stuck a.front found.0 whole (omega (arith, e));
        };
      }
    where
      empty : (xs : List ℤ) → length xs ≡ 0 → xs ≡ []
      empty [] h = refl
      empty (x ∷ xs) h = absurd (omega (arith, h))

  pub ways_end : (j ≡ i → ⊥) → (j ≡ i + 1 → ⊥) → ForcesNothing t r w
  ways_end other far =
      let wide : i + 1 < j = omega (arith, other, far, b.within) in
      record {
        no_rows = λ u v p q e h. elim (cases_lt i (length u)) [
          | inl long ↦ not_both (no_longer u v e long) h.before
          | inr short ↦ not_both (no_longer_back u v e (omega (arith, short, wide)) (omega (arith, wide))) h.after
        ];
        no_letter = λ u v x p q e h. elim (cases_lt i (length u)) [
          | inl long ↦ not_both (no_longer u (x ∷ v) e long) h.before
          | inr short ↦
              let counted : length (u ++ x ∷ []) ≡ length u + length (x ∷ []) = length-append u (x ∷ []) in
              not_both (no_longer_back (u ++ x ∷ []) v (e ∙ sym (append_assoc u (x ∷ []) v)) (omega (arith, counted, short, wide)) (omega (arith, wide))) h.after
        ];
      }
