-- Rows that are still to be looked at.
use Rattle.std.proofs.Common.{◌≡◌, ℕ, ◌+◌, ◌-◌, ◌<◌, ℤ, List, [], ◌∷◌, ◌++◌, length, get_or, take, drop, Option, Some, None, refl, sym, ap, subst, ◌∙◌, ◌⊎◌, inl, inr, arith}
use Rattle.std.specs.Prelude.{neg_ℤ, slice_get, All}
use Rattle.std.specs.List.{AllByRecursion}
use Rattle.std.proofs.lemmas.List.Elements.{All-from_recursion}
use Rattle.std.proofs.lemmas.Option.{slice_get_within, get_or_from_slice_get}
use Rattle.std.specs.Option.{option_and_then, option_map}
use Rattle.std.proofs.lemmas.Bool.{cases_lt}
use Rattle.std.proofs.lemmas.List.{append_assoc, append-nil, length-append, take-append-le, take_all}
use Rattle.std.proofs.lemmas.Option.{option_and_then_some}
use Rattle.mg_words.specs.Letter.{IsLetterOf}
use Rattle.mg_words.specs.Word.{IsOver, inv}
use Rattle.mg_present.specs.Presentation.{Group, IsPresented}
use Rattle.mg_tables.specs.Table.{column, entry, row_after, IsTable, empty_row}
use Rattle.mg_tables.specs.Force.{Sign, a_relator, a_member, IsRead, ForcesRows, ForcesLetter, IsStable}
use Rattle.mg_tables.specs.Gaps.{Places, Stands, number, standing, packed, cell_at, fill_at, IsGapped}
use Rattle.mg_tables.specs.Scan.{ForcesNothing, IsAhead, IsBehind}
use Rattle.mg_tables.specs.Looking.{In, place_after, Passes, IsCovered, Changes, IsQuiet, IsQuietAt, AreQuiet, MembersForceNothing, IsFoundIn, IsFound}
use Rattle.mg_tables.specs.declared.look.Found.{Found}
use Rattle.mg_tables.specs.declared.look.Found.TheVariants as found
use Rattle.mg_tables.proofs.Gaps.{number_apart, place_of, packed_cell, packed_length, packed_below, stands_below}
use Rattle.mg_tables.proofs.Filling.{which, at_back, at_front, fill_unstands, letter_turned}
use Rattle.mg_tables.proofs.Appending.{longer_cell, longer_stood, old_cell}
use Rattle.mg_tables.proofs.Steps.{leads_stand}
use Rattle.mg_tables.proofs.Scanning.{inv-append, inv-inv, over_back, over_inv, way_back, after_none}
use Rattle.mg_tables.proofs.Complete.{relator_over}

never : {P : Type 0} {A : Type 0} {o : Option A} {a : A} → o ≡ None → o ≡ Some a → P
never e f = absurd cc

one : {A : Type 0} {o : Option A} {a b : A} → o ≡ Some a → o ≡ Some b → a ≡ b
one e f = cc

-- a row on the list is passed at once
passes_here : (rows : List ℕ) (ps : Places) (c : ℕ) (w : List ℤ) → In c rows → Passes rows ps c w
passes_here rows ps c [] h = h
passes_here rows ps c (x ∷ w) h = inl h

pub way_stands : (m : ℕ) (ps : Places) → IsGapped m ps → (c p : ℕ) (w : List ℤ) → Stands ps c → place_after ps c w ≡ Some p → Stands ps p
way_stands m ps g c p [] s e = subst (Stands ps) (one {o = Some c} refl e) s
way_stands m ps g c p (x ∷ w) s e =
    option_and_then_some (λ d. place_after ps d w) (cell_at ps c (column x)) p e (λ d f h. way_stands m ps g d p w (g.there c (column x) d f) h)

way_on : (ps : Places) (c d : ℕ) (x : ℤ) (w : List ℤ) → cell_at ps c (column x) ≡ Some d → place_after ps c (x ∷ w) ≡ place_after ps d w
way_on ps c d x w e = ap (option_and_then (λ d. place_after ps d w)) e

-- the way in the table without gaps
pub packed_way : (m : ℕ) (ps : Places) → IsGapped m ps → (c : ℕ) (w : List ℤ) → Stands ps c → row_after (packed ps) (number ps c) w ≡ option_map (number ps) (place_after ps c w)
packed_way m ps g c [] s = refl
packed_way m ps g c (x ∷ w) s = step (cell_at ps c (column x)) refl (λ d e. packed_way m ps g d w (g.there c (column x) d e))
  where
    step : (o : Option ℕ) → cell_at ps c (column x) ≡ o → ((d : ℕ) → cell_at ps c (column x) ≡ Some d → row_after (packed ps) (number ps d) w ≡ option_map (number ps) (place_after ps d w)) → row_after (packed ps) (number ps c) (x ∷ w) ≡ option_map (number ps) (place_after ps c (x ∷ w))
    step None e rest =
        ap (option_and_then (λ d. row_after (packed ps) d w)) (packed_cell ps c (column x) s ∙ ap (option_map (number ps)) e)
        ∙ sym (ap (option_map (number ps)) (ap (option_and_then (λ d. place_after ps d w)) e))
    step (Some d) e rest =
        ap (option_and_then (λ d. row_after (packed ps) d w)) (packed_cell ps c (column x) s ∙ ap (option_map (number ps)) e)
        ∙ (rest d e ∙ sym (ap (option_map (number ps)) (way_on ps c d x w e)))

-- a row of the table without gaps is that of a place
pub way_found : (m : ℕ) (ps : Places) → IsGapped m ps → (c r : ℕ) (w : List ℤ) → Stands ps c → row_after (packed ps) (number ps c) w ≡ Some r →
    (p : ℕ) × (place_after ps c w ≡ Some p) × (number ps p ≡ r) × Stands ps p
way_found m ps g c r w s e = found (place_after ps c w) refl
  where
    found : (o : Option ℕ) → place_after ps c w ≡ o → (p : ℕ) × (place_after ps c w ≡ Some p) × (number ps p ≡ r) × Stands ps p
    found None f = never (packed_way m ps g c w s ∙ ap (option_map (number ps)) f) e
    found (Some p) f = (p, f, one (packed_way m ps g c w s ∙ ap (option_map (number ps)) f) e, way_stands m ps g c p w s f)

cell_empty_at : (ps : Places) (c : ℕ) (x : ℤ) → Stands ps c → entry (packed ps) (number ps c) x ≡ None → cell_at ps c (column x) ≡ None
cell_empty_at ps c x s e = from (cell_at ps c (column x)) refl
  where
    from : (o : Option ℕ) → cell_at ps c (column x) ≡ o → cell_at ps c (column x) ≡ None
    from None f = f
    from (Some d) f = never e (packed_cell ps c (column x) s ∙ ap (option_map (number ps)) f)

-- what changes only at rows that are put on the list
module _ (m : ℕ) (old new : Places) (rows before after : List ℕ) (h : Changes m old new rows)
    (more : (c : ℕ) → In c before → In c after) (put : (c : ℕ) → In c rows → In c after) where
  abbrev Was : ℕ → ℕ → List ℤ → Type 0
  Was r p w = Passes after new r w ⊎ ((place_after old r w ≡ Some p) × (Passes before old r w → Passes after new r w))

  way_was : (r p : ℕ) (w : List ℤ) → place_after new r w ≡ Some p → Was r p w
  way_was r p [] e = inr (e, λ i. more r i)
  way_was r p (x ∷ w) e =
      option_and_then_some (λ d. place_after new d w) (cell_at new r (column x)) p e (λ d f k.
      elim (h.told r (column x) d f) [
        | inl was ↦ elim (way_was d p w k) [
          | inl passes ↦ inl (inr (d, f, passes))
          | inr rest ↦ inr (way_on old r d x w was ∙ rest.0, λ pass. through d f was rest.1 pass)
        ]
        | inr at ↦ elim at [
          | inl c ↦ inl (inl (put r c))
          | inr c ↦ inl (inr (d, f, passes_here after new d w (put d c)))
        ]
      ])
    where
      through : (d : ℕ) → cell_at new r (column x) ≡ Some d → cell_at old r (column x) ≡ Some d → (Passes before old d w → Passes after new d w) → Passes before old r (x ∷ w) → Passes after new r (x ∷ w)
      through d f was on (inl i) = inl (more r i)
      through d f was on (inr (e, g, pass)) = inr (d, f, on (subst (λ a. Passes before old a w) (one g was) pass))

  -- a cut on two ways that lead on in both tables
  both_ways : (r p q : ℕ) (u v : List ℤ) → Stands new r → place_after new r u ≡ Some p → place_after new r (inv v) ≡ Some q →
      (Stands old r → place_after old r u ≡ Some p → place_after old r (inv v) ≡ Some q → Passes before old r u ⊎ Passes before old r (inv v)) →
      Passes after new r u ⊎ Passes after new r (inv v)
  both_ways r p q u v s e f cut =
      elim (h.stood r s) [
        | inr listed ↦ inl (passes_here after new r u (put r listed))
        | inl stood ↦ elim (way_was r p u e) [
          | inl pass ↦ inl pass
          | inr front ↦ elim (way_was r q (inv v) f) [
            | inl pass ↦ inr pass
            | inr back ↦ elim (cut stood front.0 back.0) [ inl pass ↦ inl (front.1 pass) | inr pass ↦ inr (back.1 pass) ]
          ]
        ]
      ]

  stays_empty : (p : ℕ) (x : ℤ) → IsLetterOf m x → Stands new p → cell_at new p (column x) ≡ None → cell_at old p (column x) ≡ None
  stays_empty p x l s e = from (cell_at old p (column x)) refl
    where
      from : (o : Option ℕ) → cell_at old p (column x) ≡ o → cell_at old p (column x) ≡ None
      from None f = f
      from (Some d) f = let k : (e : ℕ) × (cell_at new p (column x) ≡ Some e) = h.kept p d x l s f in never e k.1

  pub still_covered : (group : Group) → IsPresented group → group.generators ≡ m → IsGapped m new → IsCovered group.relators old before → IsCovered group.relators new after
  still_covered group presented gens g k = record {
    joinings = λ i r p q u v w s e f apart. both_ways r p q u v s e f (λ so eo fo. k.joinings i r p q u v w so eo fo apart);
    entries = λ i r p q x u v w s e f empty empty_back.
        let over : IsOver m (u ++ x ∷ v) = subst (λ n. IsOver n (u ++ x ∷ v)) gens (relator_over group presented i (u ++ x ∷ v) w) in
        let back : IsOver m (x ∷ v) = over_back m u (x ∷ v) over in
        both_ways r p q u v s e f (λ so eo fo.
        k.entries i r p q x u v w so eo fo
        (stays_empty p x back.0 (way_stands m new g r p u s e) empty)
        (stays_empty q (neg_ℤ x) (letter_turned m x back.0) (way_stands m new g r q (inv v) s f) empty_back));
  }

-- an entry is set
pub fill_changes : (m : ℕ) (ps : Places) → IsGapped m ps → (p : ℕ) (x : ℤ) (q : ℕ) → Stands ps p → Stands ps q → IsLetterOf m x →
    cell_at ps p (column x) ≡ None → cell_at ps q (column (neg_ℤ x)) ≡ None → Changes m ps (fill_at ps p x q) (p ∷ [])
fill_changes m ps g p x q hp hq l e f = record {
  stood = λ c s. inl (fill_unstands m ps g p x q hp hq l e f c s);
  kept = λ c d y ly s h. elim (which m ps g p x q hp hq l e f c (column y)) [
    | inl at ↦ (p, subst (λ a. cell_at (fill_at ps p x q) a (column y) ≡ Some p) (sym at.0) (subst (λ i. cell_at (fill_at ps p x q) q i ≡ Some p) (sym at.1) (at_back m ps g p x q hp hq l e f)))
    | inr r ↦ elim r [
      | inl at ↦ (q, subst (λ a. cell_at (fill_at ps p x q) a (column y) ≡ Some q) (sym at.0) (subst (λ i. cell_at (fill_at ps p x q) p i ≡ Some q) (sym at.1) (at_front m ps g p x q hp hq l e f)))
      | inr same ↦ (d, same ∙ h)
    ]
  ];
  told = λ c i d h. elim (which m ps g p x q hp hq l e f c i) [
    | inl at ↦
        let to : cell_at (fill_at ps p x q) q (column (neg_ℤ x)) ≡ Some d = subst (λ a. cell_at (fill_at ps p x q) a (column (neg_ℤ x)) ≡ Some d) at.0 (subst (λ j. cell_at (fill_at ps p x q) c j ≡ Some d) at.1 h) in
        inr (inr (inl (one to (at_back m ps g p x q hp hq l e f))))
    | inr r ↦ elim r [ inl at ↦ inr (inl (inl at.0)) | inr same ↦ inl (sym same ∙ h) ]
  ];
}

-- a row is appended
pub longer_changes : (m : ℕ) (ps : Places) → IsGapped m ps → Changes m ps (ps ++ Some (empty_row m) ∷ []) (length ps ∷ [])
longer_changes m ps g = record {
  stood = λ c s. elim (longer_stood m ps g c s) [ inl old ↦ inl old | inr last ↦ inr (inl last) ];
  kept = λ c d x l s h. (d, longer_cell m ps g c (column x) (stands_below ps c (leads_stand ps c (column x) d h)) ∙ h);
  told = λ c i d h. inl (old_cell m ps g c i d h);
}

in_split : (c row : ℕ) (rows : List ℕ) → In c (rows ++ row ∷ []) → In c rows ⊎ (c ≡ row)
in_split c row [] (inl e) = inr e
in_split c row [] (inr h) = elim h [ ]
in_split c row (d ∷ rows) (inl e) = inl (inl e)
in_split c row (d ∷ rows) (inr h) = elim (in_split c row rows h) [ inl i ↦ inl (inr i) | inr e ↦ inr e ]

-- the way passes through a row that is on the list still, or through the last one
passes_split : (row : ℕ) (rows : List ℕ) (ps : Places) (r : ℕ) (w : List ℤ) → Passes (rows ++ row ∷ []) ps r w →
    Passes rows ps r w ⊎ ((a b : List ℤ) × (w ≡ a ++ b) × (place_after ps r a ≡ Some row))
passes_split row rows ps r [] h = elim (in_split r row rows h) [ inl i ↦ inl i | inr e ↦ inr ([], [], refl, ap Some e) ]
passes_split row rows ps r (x ∷ w) (inl h) = elim (in_split r row rows h) [ inl i ↦ inl (inl i) | inr e ↦ inr ([], x ∷ w, refl, ap Some e) ]
passes_split row rows ps r (x ∷ w) (inr (d, f, pass)) = elim (passes_split row rows ps d w pass) [
  | inl p ↦ inl (inr (d, f, p))
  | inr p ↦ inr (x ∷ p.0, p.1, ap (λ (l : List ℤ). x ∷ l) p.2, way_on ps r d x p.0 f ∙ p.3)
]

turned_parts : (u v a b : List ℤ) → inv v ≡ a ++ b → v ≡ inv b ++ inv a
turned_parts u v a b e = sym (inv-inv v) ∙ (ap inv e ∙ inv-append a b)

module _ (m : ℕ) (ps : Places) (g : IsGapped m ps) where
  pub packed_to : (r p : ℕ) (w : List ℤ) → Stands ps r → place_after ps r w ≡ Some p → row_after (packed ps) (number ps r) w ≡ Some (number ps p)
  packed_to r p w s e = packed_way m ps g r w s ∙ ap (option_map (number ps)) e

  module _ (relators : List (List ℤ)) (rows : List ℕ) (row : ℕ) (quiet : Stands ps row → AreQuiet relators ps row) where
    through : (i r : ℕ) (w a b : List ℤ) → slice_get relators i ≡ Some w → Stands ps r → w ≡ a ++ b → place_after ps r a ≡ Some row → ForcesNothing (packed ps) (number ps r) w
    through i r w a b e s parts h = quiet (way_stands m ps g r row a s h) i w e a b r parts s (inl (packed_to r row a s h))

    through_back : (i r : ℕ) (w a b : List ℤ) → slice_get relators i ≡ Some w → Stands ps r → w ≡ a ++ inv b → place_after ps r b ≡ Some row → ForcesNothing (packed ps) (number ps r) w
    through_back i r w a b e s parts h =
        quiet (way_stands m ps g r row b s h) i w e a (inv b) r parts s
        (inr (ap (row_after (packed ps) (number ps r)) (inv-inv b) ∙ packed_to r row b s h))

    pub popped_covered : IsCovered relators ps (rows ++ row ∷ []) → IsCovered relators ps rows
    popped_covered k = record {
      joinings = λ i r p q u v w s e f apart.
          let forces : ForcesNothing (packed ps) (number ps r) (u ++ v) → ⊥ = λ n. n.no_rows u v (number ps p) (number ps q) refl (record {
            before = packed_to r p u s e;
            after = packed_to r q (inv v) s f;
            differ = λ same. apart (number_apart ps p q (way_stands m ps g r p u s e) (way_stands m ps g r q (inv v) s f) same);
          }) in
          elim (k.joinings i r p q u v w s e f apart) [
            | inl pass ↦ elim (passes_split row rows ps r u pass) [
              | inl still ↦ inl still
              | inr t ↦ absurd (forces (through i r (u ++ v) t.0 (t.1 ++ v) w s (ap (λ (l : List ℤ). l ++ v) t.2 ∙ append_assoc t.0 t.1 v) t.3))
            ]
            | inr pass ↦ elim (passes_split row rows ps r (inv v) pass) [
              | inl still ↦ inr still
              | inr t ↦ absurd (forces (through_back i r (u ++ v) (u ++ inv t.1) t.0 w s (ap (λ (l : List ℤ). u ++ l) (turned_parts u v t.0 t.1 t.2) ∙ sym (append_assoc u (inv t.1) (inv t.0))) t.3))
            ]
          ];
      entries = λ i r p q x u v w s e f empty empty_back.
          let forces : ForcesNothing (packed ps) (number ps r) (u ++ x ∷ v) → ⊥ = λ n. n.no_letter u v x (number ps p) (number ps q) refl (record {
            before = packed_to r p u s e;
            after = packed_to r q (inv v) s f;
            empty = packed_cell ps p (column x) (way_stands m ps g r p u s e) ∙ ap (option_map (number ps)) empty;
            empty_back = packed_cell ps q (column (neg_ℤ x)) (way_stands m ps g r q (inv v) s f) ∙ ap (option_map (number ps)) empty_back;
          }) in
          elim (k.entries i r p q x u v w s e f empty empty_back) [
            | inl pass ↦ elim (passes_split row rows ps r u pass) [
              | inl still ↦ inl still
              | inr t ↦ absurd (forces (through i r (u ++ x ∷ v) t.0 (t.1 ++ x ∷ v) w s (ap (λ (l : List ℤ). l ++ x ∷ v) t.2 ∙ append_assoc t.0 t.1 (x ∷ v)) t.3))
            ]
            | inr pass ↦ elim (passes_split row rows ps r (inv v) pass) [
              | inl still ↦ inr still
              | inr t ↦ absurd (forces (through_back i r (u ++ x ∷ v) (u ++ x ∷ inv t.1) t.0 w s (ap (λ (l : List ℤ). u ++ x ∷ l) (turned_parts u v t.0 t.1 t.2) ∙ sym (append_assoc u (x ∷ inv t.1) (inv t.0))) t.3))
            ]
          ];
    }

  passes_none : (r : ℕ) (w : List ℤ) → Passes [] ps r w → ⊥
  passes_none r [] h = h
  passes_none r (x ∷ w) (inl h) = h
  passes_none r (x ∷ w) (inr (d, f, h)) = passes_none d w h

  -- when no row is left and the subgroup words force nothing, nothing is forced
  module _ (group : Group) (subgroup : List (List ℤ)) (k : IsCovered group.relators ps []) (members : MembersForceNothing subgroup ps) where
    no_rows : (sign : Sign) (row : ℕ) (u v : List ℤ) (p q : ℕ) → IsRead group subgroup (packed ps) sign row (u ++ v) → ForcesRows (packed ps) row u v p q → ⊥
    no_rows (a_member i) row u v p q (get, zero_row) h = (members i (u ++ v) get).no_rows u v p q refl (subst (λ r. ForcesRows (packed ps) r u v p q) zero_row h)
    no_rows (a_relator i) row u v p q (get, below) h =
        let e : length (packed ps) ≡ length (standing ps) = packed_length ps in
        let c : (c : ℕ) × Stands ps c × (number ps c ≡ row) = place_of ps row (omega (arith, e, below)) in
        let to : (a : ℕ) × (place_after ps c.0 u ≡ Some a) × (number ps a ≡ p) × Stands ps a = way_found m ps g c.0 p u c.1 (ap (λ r. row_after (packed ps) r u) c.2 ∙ h.before) in
        let from : (a : ℕ) × (place_after ps c.0 (inv v) ≡ Some a) × (number ps a ≡ q) × Stands ps a = way_found m ps g c.0 q (inv v) c.1 (ap (λ r. row_after (packed ps) r (inv v)) c.2 ∙ h.after) in
        elim (k.joinings i c.0 to.0 from.0 u v get c.1 to.1 from.1 (λ same. h.differ (sym to.2 ∙ (ap (number ps) same ∙ from.2)))) [
          | inl pass ↦ passes_none c.0 u pass
          | inr pass ↦ passes_none c.0 (inv v) pass
        ]

    no_letter : (sign : Sign) (row : ℕ) (u : List ℤ) (x : ℤ) (v : List ℤ) (p q : ℕ) → IsRead group subgroup (packed ps) sign row (u ++ x ∷ v) → ForcesLetter (packed ps) row u x v p q → ⊥
    no_letter (a_member i) row u x v p q (get, zero_row) h = (members i (u ++ x ∷ v) get).no_letter u v x p q refl (subst (λ r. ForcesLetter (packed ps) r u x v p q) zero_row h)
    no_letter (a_relator i) row u x v p q (get, below) h =
        let e : length (packed ps) ≡ length (standing ps) = packed_length ps in
        let c : (c : ℕ) × Stands ps c × (number ps c ≡ row) = place_of ps row (omega (arith, e, below)) in
        let to : (a : ℕ) × (place_after ps c.0 u ≡ Some a) × (number ps a ≡ p) × Stands ps a = way_found m ps g c.0 p u c.1 (ap (λ r. row_after (packed ps) r u) c.2 ∙ h.before) in
        let from : (a : ℕ) × (place_after ps c.0 (inv v) ≡ Some a) × (number ps a ≡ q) × Stands ps a = way_found m ps g c.0 q (inv v) c.1 (ap (λ r. row_after (packed ps) r (inv v)) c.2 ∙ h.after) in
        elim (k.entries i c.0 to.0 from.0 x u v get c.1 to.1 from.1
        (cell_empty_at ps to.0 x to.3 (ap (λ r. entry (packed ps) r x) to.2 ∙ h.empty))
        (cell_empty_at ps from.0 (neg_ℤ x) from.3 (ap (λ r. entry (packed ps) r (neg_ℤ x)) from.2 ∙ h.empty_back))) [
          | inl pass ↦ passes_none c.0 u pass
          | inr pass ↦ passes_none c.0 (inv v) pass
        ]

    pub none_left_stable : IsStable group subgroup (packed ps)
    none_left_stable = record {
      no_joining = λ cut p q h. no_rows cut.sign cut.row h.front h.back p q h.read h.forces;
      no_entry = λ cut p x q h. no_letter cut.sign cut.row h.front x h.back p q h.read h.forces;
    }

-- at first the one row is on the list
pub first_covered : (relators : List (List ℤ)) (ps : Places) → length ps ≡ 1 → IsCovered relators ps (0 ∷ [])
first_covered relators ps one_row = record {
  joinings = λ i r p q u v w s e f apart. inl (passes_here (0 ∷ []) ps r u (inl (here r s)));
  entries = λ i r p q x u v w s e f empty empty_back. inl (passes_here (0 ∷ []) ps r u (inl (here r s)));
}
  where
    here : (r : ℕ) → Stands ps r → r ≡ 0
    here r s = omega (arith, one_row, stands_below ps r s)

-- what a word is found to force is what a cut forces
pub found_relator : (group : Group) (subgroup : List (List ℤ)) (ps : Places) (k r : ℕ) (w : List ℤ) (f : Found) → slice_get group.relators k ≡ Some w → Stands ps r → IsOver group.generators w → IsFoundIn ps r w f → IsFound group subgroup ps f
found_relator group subgroup ps k r w (found.Rows a b) get s over (sa, sb, u, v, e, h) = (
  sa,
  sb,
  record { sign = a_relator k; row = number ps r; place = length u },
  record { front = u; back = v; read = (get ∙ ap Some e, packed_below ps r s); place = refl; forces = h },
)
found_relator group subgroup ps k r w (found.Entry d) get s over (sp, sq, u, v, e, h) = (
  sp,
  sq,
  (over_back group.generators u (d.letter ∷ v) (subst (IsOver group.generators) e over)).0,
  record { sign = a_relator k; row = number ps r; place = length u },
  record { front = u; back = v; read = (get ∙ ap Some e, packed_below ps r s); place = refl; forces = h },
)

pub found_member : (group : Group) (subgroup : List (List ℤ)) (ps : Places) (k : ℕ) (w : List ℤ) (f : Found) → slice_get subgroup k ≡ Some w → IsOver group.generators w → IsFoundIn ps 0 w f → IsFound group subgroup ps f
found_member group subgroup ps k w (found.Rows a b) get over (sa, sb, u, v, e, h) = (
  sa,
  sb,
  record { sign = a_member k; row = 0; place = length u },
  record { front = u; back = v; read = (get ∙ ap Some e, refl); place = refl; forces = h },
)
found_member group subgroup ps k w (found.Entry d) get over (sp, sq, u, v, e, h) = (
  sp,
  sq,
  (over_back group.generators u (d.letter ∷ v) (subst (IsOver group.generators) e over)).0,
  record { sign = a_member k; row = 0; place = length u },
  record { front = u; back = v; read = (get ∙ ap Some e, refl); place = refl; forces = h },
)

-- a row from which the way of a word leads here is reached by the way back
pub behind_reaches : (m : ℕ) (ps : Places) → IsTable m (packed ps) → (row : ℕ) (w : List ℤ) → IsOver m w → (place at : ℕ) → IsBehind ps row w 0 place at →
    (r : ℕ) → Stands ps r → row_after (packed ps) (number ps r) w ≡ Some (number ps row) → (place ≡ 0) × (at ≡ r)
behind_reaches m ps t row w over place at b r s e = from (last_of b.front)
  where
    back : row_after (packed ps) (number ps row) (inv w) ≡ Some (number ps r)
    back = way_back m (packed ps) t w over (number ps r) (number ps row) e

    last_of : (xs : List ℤ) → (xs ≡ []) ⊎ ((ys : List ℤ) × (y : ℤ) × (xs ≡ ys ++ y ∷ []))
    last_of [] = inl refl
    last_of (x ∷ xs) = elim (last_of xs) [
      | inl none ↦ inr ([], x, ap (λ (l : List ℤ). x ∷ l) none)
      | inr some ↦ inr (x ∷ some.0, some.1, ap (λ (l : List ℤ). x ∷ l) some.2)
    ]

    from : ((b.front ≡ []) ⊎ ((ys : List ℤ) × (y : ℤ) × (b.front ≡ ys ++ y ∷ []))) → (place ≡ 0) × (at ≡ r)
    from (inl none) =
        let whole : b.back ≡ w = sym (b.word ∙ ap (λ (u : List ℤ). u ++ b.back) none) in
        (sym b.reached ∙ ap length none, number_apart ps at r b.stands s (one b.leads (ap (λ (u : List ℤ). row_after (packed ps) (number ps row) (inv u)) whole ∙ back)))
    from (inr (ys, y, f)) =
        let counted : length (ys ++ y ∷ []) ≡ length ys + length (y ∷ []) = length-append ys (y ∷ []) in
        let long : length b.front ≡ length (ys ++ y ∷ []) = ap length f in
        let turned : inv w ≡ inv b.back ++ neg_ℤ y ∷ inv ys = ap inv b.word ∙ (inv-append b.front b.back ∙ ap (λ (l : List ℤ). inv b.back ++ l) (ap inv f ∙ inv-append ys (y ∷ []))) in
        never (after_none (packed ps) (number ps row) (inv b.back) (neg_ℤ y) (inv ys) (number ps at) b.leads (b.stuck ys y f (omega (arith, b.reached, counted, long))))
        (ap (row_after (packed ps) (number ps row)) (sym turned) ∙ back)

pub ahead_reaches : (m : ℕ) (ps : Places) → IsTable m (packed ps) → (row : ℕ) (w : List ℤ) → IsOver m w → (place at : ℕ) → IsAhead ps row w place at →
    (r : ℕ) → Stands ps r → row_after (packed ps) (number ps r) (inv w) ≡ Some (number ps row) → (place ≡ length w) × (at ≡ r)
ahead_reaches m ps t row w over place at a r s e = from a.back refl
  where
    on : row_after (packed ps) (number ps row) w ≡ Some (number ps r)
    on = ap (row_after (packed ps) (number ps row)) (sym (inv-inv w)) ∙ way_back m (packed ps) t (inv w) (over_inv m w over) (number ps r) (number ps row) e

    from : (back : List ℤ) → a.back ≡ back → (place ≡ length w) × (at ≡ r)
    from [] f =
        let whole : w ≡ a.front = a.word ∙ (ap (λ (u : List ℤ). a.front ++ u) f ∙ append-nil a.front) in
        (sym a.reached ∙ ap length (sym whole), number_apart ps at r a.stands s (one a.leads (ap (row_after (packed ps) (number ps row)) (sym whole) ∙ on)))
    from (x ∷ rest) f =
        never (after_none (packed ps) (number ps row) a.front x rest (number ps at) a.leads (a.stuck x rest f))
        (ap (row_after (packed ps) (number ps row)) (sym (a.word ∙ ap (λ (u : List ℤ). a.front ++ u) f)) ∙ on)

pub quiet_at_all : (ps : Places) (row : ℕ) (w : List ℤ) → ((j : ℕ) → j < length w → IsQuietAt ps row w j) → IsQuietAt ps row w (length w) → IsQuiet ps row w
quiet_at_all ps row w before last u v r e s ways =
    let counted : length (u ++ v) ≡ length u + length v = length-append u v in
    let long : length w ≡ length (u ++ v) = ap length e in
    let front : take (length u) w ≡ u = ap (take (length u)) e ∙ (take-append-le (length u) u v (omega arith) ∙ take_all (length u) u (omega arith)) in
    let back : drop (length u) w ≡ v = ap (drop (length u)) e ∙ drop_front u v in
    let ways_at : (row_after (packed ps) (number ps r) (take (length u) w) ≡ Some (number ps row)) ⊎ (row_after (packed ps) (number ps r) (inv (drop (length u) w)) ≡ Some (number ps row)) =
    elim ways [
      | inl h ↦ inl (ap (row_after (packed ps) (number ps r)) front ∙ h)
      | inr h ↦ inr (ap (λ (l : List ℤ). row_after (packed ps) (number ps r) (inv l)) back ∙ h)
    ] in
    elim (cases_lt (length u) (length w)) [
      | inl below ↦ before (length u) below r s ways_at
      | inr past ↦
          let same : length u ≡ length w = omega (arith, past, counted, long) in
          subst (IsQuietAt ps row w) (sym same) last r s ways_at
    ]
  where
    drop_front : (u v : List ℤ) → drop (length u) (u ++ v) ≡ v
    drop_front [] v = refl
    drop_front (x ∷ u) v = drop_front u v

-- the letter that a word is found to lack
pub letter_found : (w u v : List ℤ) (x y : ℤ) (i : ℕ) → w ≡ u ++ x ∷ v → length u ≡ i → y ≡ get_or w i y → y ≡ x
letter_found w u v x y i e at read = read ∙ (ap (λ (l : List ℤ). get_or l i y) e ∙ (ap (λ k. get_or (u ++ x ∷ v) k y) (sym at) ∙ here u))
  where
    here : (u : List ℤ) → get_or (u ++ x ∷ v) (length u) y ≡ x
    here [] = refl
    here (z ∷ u) = here u

-- subgroup words are words over the generators
pub member_over : (m : ℕ) (ws : List (List ℤ)) (k : ℕ) (w : List ℤ) → AllByRecursion (IsOver m) ws → slice_get ws k ≡ Some w → IsOver m w
member_over m ws k w over e =
    let all : All (IsOver m) ws = All-from_recursion (IsOver m) ws over in
    subst (IsOver m) (get_or_from_slice_get ws k w [] e) (all k [] (slice_get_within ws k w e))

pub last_one : (rows front : List ℕ) (row r : ℕ) → rows ≡ front ++ row ∷ [] → Some r ≡ slice_get rows (length rows - 1) → r ≡ row
last_one rows front row r e h =
    let counted : length (front ++ row ∷ []) ≡ length front + length (row ∷ []) = length-append front (row ∷ []) in
    let at : length rows - 1 ≡ length front = omega (arith, counted, ap length e) in
    one {o = Some r} refl (h ∙ (ap (slice_get rows) at ∙ (ap (λ (xs : List ℕ). slice_get xs (length front)) e ∙ here front)))
  where
    here : (front : List ℕ) → slice_get (front ++ row ∷ []) (length front) ≡ Some row
    here [] = refl
    here (x ∷ front) = here front

pub no_rows_left : (xs : List ℕ) → length xs ≡ 0 → xs ≡ []
no_rows_left [] e = refl
no_rows_left (x ∷ xs) e = absurd (omega (arith, e))
