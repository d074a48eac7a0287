-- What holds of a table with gaps still holds when an entry or a row is put in.
use Rattle.std.proofs.Common.{◌≡◌, ℕ, zero, suc, ◌*◌, ◌<◌, ℤ, pos, negsuc, [], length, get_or, set, Option, Some, None, refl, sym, ap, subst, ◌∙◌, ◌⊎◌, inl, inr, arith}
use Rattle.std.specs.Prelude.{neg_ℤ}
use Rattle.std.specs.Option.{option_map}
use Rattle.std.proofs.lemmas.Bool.{cases_eq, cases_lt}
use Rattle.std.proofs.lemmas.List.{get_or-set_same, get_or-set_other, length-set, get_or_past, length-map}
use Rattle.mg_words.specs.Letter.{IsLetterOf}
use Rattle.mg_tables.specs.Table.{Row, column, entry, IsTable}
use Rattle.mg_tables.specs.Gaps.{Places, Stands, number, standing, packed, row_or_none, cell_at, IsGapped, row_at, put, fill_at}
use Rattle.mg_tables.proofs.Tables.{column-below}
use Rattle.mg_tables.proofs.Gaps.{stands_put, stands_unput, stands_below, packed_cell, packed_row, packed_below, packed_length, place_of}

-- columns tell letters apart
pub column_apart : (m : ℕ) (x y : ℤ) → IsLetterOf m x → IsLetterOf m y → column x ≡ column y → x ≡ y
column_apart m (pos zero) y h k e = absurd (omega (arith, h.least))
column_apart m (pos (suc a)) (pos zero) h k e = absurd (omega (arith, k.least))
column_apart m (pos (suc a)) (pos (suc b)) h k e = let s : a ≡ b = omega (arith, e) in ap (λ n. pos (suc n)) s
column_apart m (pos (suc a)) (negsuc b) h k e = absurd (omega (arith, e))
column_apart m (negsuc a) (pos zero) h k e = absurd (omega (arith, k.least))
column_apart m (negsuc a) (pos (suc b)) h k e = absurd (omega (arith, e))
column_apart m (negsuc a) (negsuc b) h k e = let s : a ≡ b = omega (arith, e) in ap negsuc s

pub column_turned : (m : ℕ) (x : ℤ) → IsLetterOf m x → column x ≡ column (neg_ℤ x) → ⊥
column_turned m (pos zero) h e = omega (arith, h.least)
column_turned m (pos (suc a)) h e = omega (arith, e)
column_turned m (negsuc a) h e = omega (arith, e)

pub letter_turned : (m : ℕ) (x : ℤ) → IsLetterOf m x → IsLetterOf m (neg_ℤ x)
letter_turned m (pos zero) h = absurd (omega (arith, h.least))
letter_turned m (pos (suc a)) h = record { least = h.least; most = h.most }
letter_turned m (negsuc a) h = record { least = h.least; most = h.most }

pub turned_twice : (x : ℤ) → neg_ℤ (neg_ℤ x) ≡ x
turned_twice (pos zero) = refl
turned_twice (pos (suc a)) = refl
turned_twice (negsuc a) = refl

-- what the entries are when one is put
pub cell_put_same : (ps : Places) (c i d : ℕ) → Stands ps c → i < length (row_at ps c) → cell_at (put ps c i d) c i ≡ Some d
cell_put_same ps c i d h below =
    ap (λ (o : Option Row). get_or (row_or_none o) i None) (get_or-set_same ps c (Some (set (row_at ps c) i (Some d))) None (stands_below ps c h))
    ∙ get_or-set_same (row_at ps c) i (Some d) None below

pub cell_put_other : (ps : Places) (c i d e j : ℕ) → Stands ps c → (e ≡ c → j ≡ i → ⊥) → cell_at (put ps c i d) e j ≡ cell_at ps e j
cell_put_other ps c i d e j h apart =
    elim (cases_eq e c) [
      | inl same ↦
          subst (λ k. cell_at (put ps c i d) k j ≡ cell_at ps k j) (sym same)
          (ap (λ (o : Option Row). get_or (row_or_none o) j None) (get_or-set_same ps c (Some (set (row_at ps c) i (Some d))) None (stands_below ps c h))
          ∙ get_or-set_other (row_at ps c) i j (Some d) None (apart same))
      | inr ne ↦ ap (λ (o : Option Row). get_or (row_or_none o) j None) (get_or-set_other ps c e (Some (set (row_at ps c) i (Some d))) None ne)
    ]

pub row_put : (ps : Places) (c i d e : ℕ) → Stands ps c → length (row_at (put ps c i d) e) ≡ length (row_at ps e)
row_put ps c i d e h =
    elim (cases_eq e c) [
      | inl same ↦
          subst (λ k. length (row_at (put ps c i d) k) ≡ length (row_at ps k)) (sym same)
          (ap (λ (o : Option Row). length (row_or_none o)) (get_or-set_same ps c (Some (set (row_at ps c) i (Some d))) None (stands_below ps c h))
          ∙ length-set (row_at ps c) i (Some d))
      | inr ne ↦ ap (λ (o : Option Row). length (row_or_none o)) (get_or-set_other ps c e (Some (set (row_at ps c) i (Some d))) None ne)
    ]

some_same : {a b : ℕ} → Some a ≡ Some b → a ≡ b
some_same e = cc

none_some : {P : Type 0} {o : Option ℕ} {a : ℕ} → o ≡ None → o ≡ Some a → P
none_some e f = absurd cc

-- an entry and its inverse are put where both are empty
module _ (m : ℕ) (ps : Places) (g : IsGapped m ps) (p : ℕ) (x : ℤ) (q : ℕ) (hp : Stands ps p) (hq : Stands ps q) (l : IsLetterOf m x)
    (empty : cell_at ps p (column x) ≡ None) (back : cell_at ps q (column (neg_ℤ x)) ≡ None) where
  abbrev pub mid : Places
  mid = put ps p (column x) q

  abbrev pub new : Places
  new = fill_at ps p x q

  mid_q : Stands mid q
  mid_q = stands_put ps p (column x) q q hp hq

  pub fill_stands : (e : ℕ) → Stands ps e → Stands new e
  fill_stands e h = stands_put mid q (column (neg_ℤ x)) p e mid_q (stands_put ps p (column x) q e hp h)

  pub fill_unstands : (e : ℕ) → Stands new e → Stands ps e
  fill_unstands e h = stands_unput ps p (column x) q e hp (stands_unput mid q (column (neg_ℤ x)) p e mid_q h)

  fill_width : (e : ℕ) → length (row_at new e) ≡ length (row_at ps e)
  fill_width e = row_put mid q (column (neg_ℤ x)) p e mid_q ∙ row_put ps p (column x) q e hp

  pub at_back : cell_at new q (column (neg_ℤ x)) ≡ Some p
  at_back = cell_put_same mid q (column (neg_ℤ x)) p mid_q (
      let w : length (row_at mid q) ≡ length (row_at ps q) = row_put ps p (column x) q q hp in
      omega (arith, w, g.width q hq, column-below m (neg_ℤ x) (letter_turned m x l)))

  pub at_front : cell_at new p (column x) ≡ Some q
  at_front =
      cell_put_other mid q (column (neg_ℤ x)) p p (column x) mid_q (λ e f. column_turned m x l f)
      ∙ cell_put_same ps p (column x) q hp (omega (arith, g.width p hp, column-below m x l))

  -- an entry is one of the two or an old one
  pub which : (c j : ℕ) → ((c ≡ q) × (j ≡ column (neg_ℤ x))) ⊎ (((c ≡ p) × (j ≡ column x)) ⊎ (cell_at new c j ≡ cell_at ps c j))
  which c j =
      elim (both c j q (column (neg_ℤ x))) [
        | inl e ↦ inl e
        | inr ne ↦ elim (both c j p (column x)) [
          | inl e ↦ inr (inl e)
          | inr nf ↦ inr (inr (cell_put_other mid q (column (neg_ℤ x)) p c j mid_q ne ∙ cell_put_other ps p (column x) q c j hp nf))
        ]
      ]
    where
      both : (c j a b : ℕ) → ((c ≡ a) × (j ≡ b)) ⊎ (c ≡ a → j ≡ b → ⊥)
      both c j a b = elim (cases_eq c a) [
        | inl e ↦ elim (cases_eq j b) [ inl f ↦ inl (e, f) | inr nf ↦ inr (λ h k. nf k) ]
        | inr ne ↦ inr (λ h k. ne h)
      ]

  fill_there : (c j d : ℕ) → cell_at new c j ≡ Some d → Stands ps d
  fill_there c j d e =
      elim (which c j) [
        | inl k ↦ subst (Stands ps) (some_same (sym at_back ∙ (subst (λ a. cell_at new a (column (neg_ℤ x)) ≡ Some d) k.0 (subst (λ b. cell_at new c b ≡ Some d) k.1 e)))) hp
        | inr r ↦ elim r [
          | inl k ↦ subst (Stands ps) (some_same (sym at_front ∙ (subst (λ a. cell_at new a (column x) ≡ Some d) k.0 (subst (λ b. cell_at new c b ≡ Some d) k.1 e)))) hq
          | inr same ↦ g.there c j d (sym same ∙ e)
        ]
      ]

  fill_inverse : (c d : ℕ) (y : ℤ) → IsLetterOf m y → cell_at new c (column y) ≡ Some d → cell_at new d (column (neg_ℤ y)) ≡ Some c
  fill_inverse c d y ly e =
      elim (which c (column y)) [
        | inl k ↦
            let same : y ≡ neg_ℤ x = column_apart m y (neg_ℤ x) ly (letter_turned m x l) k.1 in
            let f : d ≡ p = some_same (sym (subst (λ a. cell_at new a (column (neg_ℤ x)) ≡ Some d) k.0 (subst (λ b. cell_at new c b ≡ Some d) k.1 e)) ∙ at_back) in
            subst (λ b. cell_at new d (column (neg_ℤ b)) ≡ Some c) (sym same)
            (subst (λ b. cell_at new d (column b) ≡ Some c) (sym (turned_twice x))
            (subst (λ a. cell_at new a (column x) ≡ Some c) (sym f)
            (at_front ∙ ap Some (sym k.0))))
        | inr r ↦ elim r [
          | inl k ↦
              let same : y ≡ x = column_apart m y x ly l k.1 in
              let f : d ≡ q = some_same (sym (subst (λ a. cell_at new a (column x) ≡ Some d) k.0 (subst (λ b. cell_at new c b ≡ Some d) k.1 e)) ∙ at_front) in
              subst (λ b. cell_at new d (column (neg_ℤ b)) ≡ Some c) (sym same)
              (subst (λ a. cell_at new a (column (neg_ℤ x)) ≡ Some c) (sym f)
              (at_back ∙ ap Some (sym k.0)))
          | inr kept ↦
              let old : cell_at ps d (column (neg_ℤ y)) ≡ Some c = g.inverse c d y ly (sym kept ∙ e) in
              elim (which d (column (neg_ℤ y))) [
                | inl k ↦ none_some back (subst (λ a. cell_at ps a (column (neg_ℤ x)) ≡ Some c) k.0 (subst (λ b. cell_at ps d b ≡ Some c) k.1 old))
                | inr s ↦ elim s [
                  | inl k ↦ none_some empty (subst (λ a. cell_at ps a (column x) ≡ Some c) k.0 (subst (λ b. cell_at ps d b ≡ Some c) k.1 old))
                  | inr also ↦ also ∙ old
                ]
              ]
        ]
      ]

  pub gapped_filled : IsGapped m new
  gapped_filled = record {
    first = fill_stands 0 g.first;
    width = λ c h. fill_width c ∙ g.width c (fill_unstands c h);
    there = λ c i d e. fill_stands d (fill_there c i d e);
    inverse = fill_inverse;
  }

-- the packed table is a table
map_some : {f : ℕ → ℕ} {o : Option ℕ} {d : ℕ} → option_map f o ≡ Some d → (a : ℕ) × (o ≡ Some a) × (f a ≡ d)
map_some {o = None} e = none_some refl e
map_some {o = Some a} e = (a, refl, some_same e)

-- the places of an entry of the packed table
pub record Found (ps : Places) (r s : ℕ) (x : ℤ) : Type 0 where
  pub c : ℕ
  pub d : ℕ
  pub stands : Stands ps c
  pub entry : cell_at ps c (column x) ≡ Some d
  pub from : number ps c ≡ r
  pub to : number ps d ≡ s

place_at_number : (ps : Places) (r : ℕ) → r < length (packed ps) → (c : ℕ) × Stands ps c × (number ps c ≡ r)
place_at_number ps r h = let e : length (packed ps) ≡ length (standing ps) = packed_length ps in place_of ps r (omega (arith, e, h))

pub found_places : (ps : Places) (r s : ℕ) (x : ℤ) → entry (packed ps) r x ≡ Some s → Found ps r s x
found_places ps r s x e =
    let c : (c : ℕ) × Stands ps c × (number ps c ≡ r) = place_at_number ps r below in
    let d : (a : ℕ) × (cell_at ps c.0 (column x) ≡ Some a) × (number ps a ≡ s) =
    map_some (sym (packed_cell ps c.0 (column x) c.1) ∙ subst (λ k. entry (packed ps) k x ≡ Some s) (sym c.2) e) in
    record { c = c.0; d = d.0; stands = c.1; entry = d.1; from = c.2; to = d.2 }
  where
    below : r < length (packed ps)
    below = elim (cases_lt r (length (packed ps))) [
      | inl h ↦ h
      | inr h ↦ none_some (ap (λ (row : Row). get_or row (column x) None) (get_or_past (packed ps) r [] h)) e
    ]

pub packed_is_table : (m : ℕ) (ps : Places) → IsGapped m ps → IsTable m (packed ps)
packed_is_table m ps g = record {
  width = λ r h.
      let c : (c : ℕ) × Stands ps c × (number ps c ≡ r) = place_at_number ps r h in
      subst (λ k. length (get_or (packed ps) k []) ≡ 2 * m) c.2
      (ap length (packed_row ps c.0 c.1) ∙ (length-map (row_at ps c.0) (option_map (number ps)) ∙ g.width c.0 c.1));
  rows = λ r s x l e. let f : Found ps r s x = found_places ps r s x e in subst (λ k. k < length (packed ps)) f.to (packed_below ps f.d (g.there f.c (column x) f.d f.entry));
  inverse = λ r s x l e.
      let f : Found ps r s x = found_places ps r s x e in
      subst (λ k. entry (packed ps) k (neg_ℤ x) ≡ Some r) f.to
      (packed_cell ps f.d (column (neg_ℤ x)) (g.there f.c (column x) f.d f.entry)
      ∙ (ap (option_map (number ps)) (g.inverse f.c f.d x l f.entry) ∙ ap Some f.from));
}
