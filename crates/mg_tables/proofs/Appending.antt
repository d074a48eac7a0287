-- A row without entries is appended to a table with gaps.
use Rattle.std.proofs.Common.{◌≡◌, ℕ, zero, suc, ◌*◌, ◌<◌, ◌≤◌, ℤ, List, [], ◌∷◌, ◌++◌, length, get_or, map, replicate, Option, Some, None, refl, sym, ap, subst, ◌∙◌, ◌⊎◌, inl, inr, false, arith}
use Rattle.std.specs.Prelude.{IsSome, neg_ℤ, is_none}
use Rattle.std.specs.Option.{option_map}
use Rattle.std.proofs.lemmas.Bool.{cases_eq, cases_lt, false≢true}
use Rattle.std.proofs.lemmas.List.{length-replicate, map-append, get_or_past, get_or_at, get_or_append_left, length_push}
use Rattle.mg_tables.specs.Table.{Row, Table, column, entry, empty_row, filled, with_row}
use Rattle.mg_tables.specs.Gaps.{Places, Stands, gaps, number, standing, packed, row_or_none, cell_at, IsGapped, row_at}
use Rattle.mg_tables.proofs.Gaps.{renamed, standing_at, place_of, stands_below, packed_length, packed_cell}

number_append : (ps : Places) (o : Option Row) (c : ℕ) → c ≤ length ps → number (ps ++ o ∷ []) c ≡ number ps c
number_append ps o zero h = refl
number_append [] o (suc c) h = absurd (omega (arith, h))
number_append (None ∷ ps) o (suc c) h = number_append ps o c (omega (arith, h))
number_append (Some r ∷ ps) o (suc c) h = ap suc (number_append ps o c (omega (arith, h)))

pub number_end : (ps : Places) → number ps (length ps) ≡ length (standing ps)
number_end [] = refl
number_end (None ∷ ps) = number_end ps
number_end (Some r ∷ ps) = ap suc (number_end ps)

standing_append : (ps : Places) (r : Row) → standing (ps ++ Some r ∷ []) ≡ standing ps ++ r ∷ []
standing_append [] r = refl
standing_append (None ∷ ps) r = standing_append ps r
standing_append (Some s ∷ ps) r = ap (λ (rows : List Row). s ∷ rows) (standing_append ps r)

-- renaming by functions that agree on all entries
row_same : (f g : ℕ → ℕ) (row : Row) → ((i d : ℕ) → get_or row i None ≡ Some d → f d ≡ g d) → map (option_map f) row ≡ map (option_map g) row
row_same f g [] h = refl
row_same f g (None ∷ row) h = ap (λ (r : Row). None ∷ r) (row_same f g row (λ i. h (suc i)))
row_same f g (Some d ∷ row) h = ap (λ e. Some e ∷ map (option_map f) row) (h 0 d refl) ∙ ap (λ (r : Row). Some (g d) ∷ r) (row_same f g row (λ i. h (suc i)))

rows_same : (f g : ℕ → ℕ) (rows : List Row) → ((r i d : ℕ) → get_or (get_or rows r []) i None ≡ Some d → f d ≡ g d) → map (map (option_map f)) rows ≡ map (map (option_map g)) rows
rows_same f g [] h = refl
rows_same f g (row ∷ rows) h =
    ap (λ (r : Row). r ∷ map (map (option_map f)) rows) (row_same f g row (h 0))
    ∙ ap (λ (t : List Row). map (option_map g) row ∷ t) (rows_same f g rows (λ r. h (suc r)))

pub none_renamed : (f : ℕ → ℕ) (n : ℕ) → map (option_map f) (replicate n None) ≡ replicate n None
none_renamed f zero = refl
none_renamed f (suc n) = ap (λ (r : Row). None ∷ r) (none_renamed f n)

pub none_anywhere : (n i : ℕ) → get_or {A = Option ℕ} (replicate n None) i None ≡ None
none_anywhere zero i = refl
none_anywhere (suc n) zero = refl
none_anywhere (suc n) (suc i) = none_anywhere n i

pub not_some : {P : Type 0} {o : Option ℕ} {a : ℕ} → o ≡ None → o ≡ Some a → P
not_some e f = absurd cc

module _ (m : ℕ) (ps : Places) (g : IsGapped m ps) where
  abbrev pub longer : Places
  longer = ps ++ Some (empty_row m) ∷ []

  entries_stand : (r i d : ℕ) → get_or (get_or (standing ps) r []) i None ≡ Some d → Stands ps d
  entries_stand r i d e =
      elim (cases_lt r (length (standing ps))) [
        | inl h ↦
            let c : (c : ℕ) × Stands ps c × (number ps c ≡ r) = place_of ps r h in
            g.there c.0 i d (ap (λ (row : Row). get_or row i None) (sym (standing_at ps c.0 c.1)) ∙ subst (λ k. get_or (get_or (standing ps) k []) i None ≡ Some d) (sym c.2) e)
        | inr h ↦ not_some (ap (λ (row : Row). get_or row i None) (get_or_past (standing ps) r [] h)) e
      ]

  pub longer_number : (c : ℕ) → Stands ps c → number longer c ≡ number ps c
  longer_number c h = number_append ps (Some (empty_row m)) c (omega (arith, stands_below ps c h))

  pub longer_packed : packed longer ≡ packed ps ++ empty_row m ∷ []
  longer_packed =
      ap (map (renamed longer)) (standing_append ps (empty_row m))
      ∙ (map-append (renamed longer) (standing ps) (empty_row m ∷ [])
      ∙ (ap (λ (t : Table). t ++ renamed longer (empty_row m) ∷ []) (rows_same (number longer) (number ps) (standing ps) (λ r i d e. longer_number d (entries_stand r i d e)))
      ∙ ap (λ (r : Row). packed ps ++ r ∷ []) (none_renamed (number longer) (2 * m))))

  pub longer_end : number longer (length ps) ≡ length (packed ps)
  longer_end = number_append ps (Some (empty_row m)) (length ps) (omega arith) ∙ (number_end ps ∙ sym (packed_length ps))

  pub longer_gaps : gaps longer ≡ gaps ps ++ false ∷ []
  longer_gaps = map-append is_none ps (Some (empty_row m) ∷ [])

  pub longer_stands : (c : ℕ) → Stands ps c → Stands longer c
  longer_stands c h = subst (λ (o : Option Row). IsSome o) (sym (get_or_append_left ps (Some (empty_row m) ∷ []) None c (stands_below ps c h))) h

  last_is : get_or longer (length ps) None ≡ Some (empty_row m)
  last_is = get_or_at ps (Some (empty_row m)) [] None (length ps) refl

  pub last_stands : Stands longer (length ps)
  last_stands = subst (λ (o : Option Row). IsSome o) (sym last_is) refl

  pub last_empty : (i : ℕ) → cell_at longer (length ps) i ≡ None
  last_empty i = ap (λ (o : Option Row). get_or (row_or_none o) i None) last_is ∙ none_anywhere (2 * m) i

  pub longer_cell : (c i : ℕ) → c < length ps → cell_at longer c i ≡ cell_at ps c i
  longer_cell c i h = ap (λ (o : Option Row). get_or (row_or_none o) i None) (get_or_append_left ps (Some (empty_row m) ∷ []) None c h)

  -- a place is an old one, the last, or none
  where_from : (c : ℕ) → (c < length ps) ⊎ ((c ≡ length ps) ⊎ (length longer ≤ c))
  where_from c = elim (cases_lt c (length ps)) [
    | inl h ↦ inl h
    | inr h ↦ elim (cases_eq c (length ps)) [
      | inl e ↦ inr (inl e)
      | inr ne ↦ inr (inr (elim (cases_lt (length ps) c) [
        | inl more ↦ omega (arith, more, length_push ps (Some (empty_row m)))
        | inr less ↦ absurd (ne (omega (arith, h, less)))
      ]))
    ]
  ]

  pub old_cell : (c i d : ℕ) → cell_at longer c i ≡ Some d → cell_at ps c i ≡ Some d
  old_cell c i d e = elim (where_from c) [
    | inl h ↦ sym (longer_cell c i h) ∙ e
    | inr r ↦ elim r [
      | inl same ↦ not_some (last_empty i) (subst (λ k. cell_at longer k i ≡ Some d) same e)
      | inr past ↦ not_some (ap (λ (o : Option Row). get_or (row_or_none o) i None) (get_or_past longer c None past)) e
    ]
  ]

  pub longer_stood : (c : ℕ) → Stands longer c → Stands ps c ⊎ (c ≡ length ps)
  longer_stood c h = elim (where_from c) [
    | inl below ↦ inl (subst (λ (o : Option Row). IsSome o) (get_or_append_left ps (Some (empty_row m) ∷ []) None c below) h)
    | inr r ↦ elim r [
      | inl same ↦ inr same
      | inr past ↦ absurd (false≢true (subst (λ (o : Option Row). IsSome o) (get_or_past longer c None past) h))
    ]
  ]

  longer_width : (c : ℕ) → Stands longer c → length (row_at longer c) ≡ 2 * m
  longer_width c h = elim (where_from c) [
    | inl below ↦
        let same : get_or longer c None ≡ get_or ps c None = get_or_append_left ps (Some (empty_row m) ∷ []) None c below in
        ap (λ (o : Option Row). length (row_or_none o)) same ∙ g.width c (subst (λ (o : Option Row). IsSome o) same h)
    | inr r ↦ elim r [
      | inl same ↦ ap (λ k. length (row_at longer k)) same ∙ (ap (λ (o : Option Row). length (row_or_none o)) last_is ∙ length-replicate (2 * m) None)
      | inr past ↦ absurd (false≢true (subst (λ (o : Option Row). IsSome o) (get_or_past longer c None past) h))
    ]
  ]

  pub gapped_longer : IsGapped m longer
  gapped_longer = record {
    first = longer_stands 0 g.first;
    width = longer_width;
    there = λ c i d e. longer_stands d (g.there c i d (old_cell c i d e));
    inverse = λ c d x l e.
        let old : cell_at ps c (column x) ≡ Some d = old_cell c (column x) d e in
        longer_cell d (column (neg_ℤ x)) (stands_below ps d (g.there c (column x) d old)) ∙ g.inverse c d x l old;
  }

  -- what filling makes of it
  pub with_row_from : (p : ℕ) (x : ℤ) (t : Table) → Stands ps p → t ≡ filled (packed longer) (number longer p) x (number longer (length ps)) → t ≡ with_row m (packed ps) (number ps p) x
  with_row_from p x t h e =
      e ∙ (ap (λ (u : Table). filled u (number longer p) x (number longer (length ps))) longer_packed
      ∙ (ap (λ k. filled (packed ps ++ empty_row m ∷ []) k x (number longer (length ps))) (longer_number p h)
      ∙ ap (λ k. filled (packed ps ++ empty_row m ∷ []) (number ps p) x k) longer_end))

  pub longer_empty : (p : ℕ) (x : ℤ) → Stands ps p → cell_at ps p (column x) ≡ None → entry (packed longer) (number longer p) x ≡ None
  longer_empty p x h e = packed_cell longer p (column x) (longer_stands p h) ∙ ap (option_map (number longer)) (longer_cell p (column x) (stands_below ps p h) ∙ e)

  pub longer_empty_end : (x : ℤ) → entry (packed longer) (number longer (length ps)) x ≡ None
  longer_empty_end x = packed_cell longer (length ps) (column x) last_stands ∙ ap (option_map (number longer)) (last_empty (column x))
