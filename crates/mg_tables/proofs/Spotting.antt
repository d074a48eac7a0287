-- Where the first empty entry is, and what a new row there makes of a table.
use Rattle.std.proofs.Common.{◌≡◌, ℕ, zero, suc, ◌+◌, ◌*◌, ◌<◌, ◌≤◌, ℤ, pos, List, [], ◌∷◌, ◌++◌, length, get_or, false, Bool, Option, Some, None, refl, sym, ap, subst, ◌∙◌, inl, inr, arith}
use Rattle.std.specs.Prelude.{neg_ℤ, IsSome, is_none}
use Rattle.std.specs.Option.{option_map}
use Rattle.std.proofs.lemmas.Bool.{cases_eq, cases_lt, false≢true}
use Rattle.std.proofs.lemmas.List.{length-map, length-append, get_or_append_left, get_or_at}
use Rattle.mg_words.specs.Letter.{IsLetterOf}
use Rattle.mg_words.specs.Word.{inv}
use Rattle.mg_present.specs.Presentation.{Group, IsPresented}
use Rattle.mg_tables.specs.Table.{Table, column, entry, empty_row, with_row, IsComplete}
use Rattle.mg_tables.specs.Force.{a_relator, IsStable}
use Rattle.mg_tables.specs.Enumeration.{StandsBefore, Enumerated}
use Rattle.mg_tables.specs.Gaps.{Places, Gapped, Stands, gaps, number, standing, packed, cell_at, fill_at, IsGapped}
use Rattle.mg_tables.specs.Looking.{In, IsCovered, Changes}
use Rattle.mg_tables.specs.Enumerating.{AreNumbers, Imaging, AreImages, Reached, Lasts, IsFullBefore, IsSpot}
use Rattle.mg_tables.specs.declared.spot.Spot.{Spot}
use Rattle.mg_tables.proofs.Kept.{empty_cell}
use Rattle.mg_tables.proofs.Gaps.{number_apart, place_of, packed_cell, packed_length, packed_below, stands_below}
use Rattle.mg_tables.proofs.Collapse.{number_rises}
use Rattle.mg_tables.proofs.Filling.{fill_unstands}
use Rattle.mg_tables.proofs.Appending.{number_end, longer_cell, longer_stood, longer_stands, last_stands, last_empty, gapped_longer}
use Rattle.mg_tables.proofs.Looking.{packed_to, way_stands, still_covered, fill_changes, longer_changes}
use Rattle.mg_tables.proofs.Reaching.{reached_row}

some_entry : (ps : Places) (c d : ℕ) (x : ℤ) → Stands ps c → cell_at ps c (column x) ≡ Some d → IsSome (entry (packed ps) (number ps c) x)
some_entry ps c d x s e = subst (λ (o : Option ℕ). IsSome o) (sym (packed_cell ps c (column x) s ∙ ap (option_map (number ps)) e)) refl

-- a row before
comes_before : (ps : Places) (a row : ℕ) → Stands ps row → number ps a < number ps row → a < row
comes_before ps a row s h =
    elim (cases_lt a row) [
      | inl less ↦ less
      | inr more ↦ elim (cases_eq a row) [
        | inl same ↦ absurd (omega (arith, h, ap (number ps) same))
        | inr ne ↦ elim (cases_lt row a) [
          | inl over ↦ absurd (after over)
          | inr under ↦ absurd (ne (omega (arith, more, under)))
        ]
      ]
    ]
  where
    after : row < a → ⊥
    after over = omega (arith, h, number_rises ps row a s over)

pub spot_here : (m : ℕ) (ps : Places) (row : ℕ) (x : ℤ) → IsGapped m ps → IsFullBefore m ps row → Stands ps row → IsLetterOf m x → cell_at ps row (column x) ≡ None →
    ((y : ℤ) → IsLetterOf m y → column y < column x → (d : ℕ) × (cell_at ps row (column y) ≡ Some d)) → IsSpot m ps (Some (record { row = row; letter = x }))
spot_here m ps row x g full s l e before = (
  s,
  l,
  full,
  record {
    row = packed_below ps row s;
    letter = l;
    empty = packed_cell ps row (column x) s ∙ ap (option_map (number ps)) e;
    first = λ c y ly stands. first c y ly stands;
  },
)
  where
    first : (c : ℕ) (y : ℤ) → IsLetterOf m y → StandsBefore c y (number ps row) x → IsSome (entry (packed ps) c y)
    first c y ly (inl less) =
        let below : number ps row < length (packed ps) = packed_below ps row s in
        let long : length (packed ps) ≡ length (standing ps) = packed_length ps in
        let a : (a : ℕ) × Stands ps a × (number ps a ≡ c) = place_of ps c (omega (arith, less, below, long)) in
        let d : (d : ℕ) × (cell_at ps a.0 (column y) ≡ Some d) = full a.0 y ly (comes_before ps a.0 row s (subst (λ k. k < number ps row) (sym a.2) less)) a.1 in
        subst (λ k. IsSome (entry (packed ps) k y)) a.2 (some_entry ps a.0 d.0 y a.1 d.1)
    first c y ly (inr (same, less)) =
        let d : (d : ℕ) × (cell_at ps row (column y) ≡ Some d) = before y ly less in
        subst (λ k. IsSome (entry (packed ps) k y)) (sym same) (some_entry ps row d.0 y s d.1)

pub no_spot : (m : ℕ) (ps : Places) (row : ℕ) → IsFullBefore m ps row → length ps ≤ row → IsComplete m (packed ps)
no_spot m ps row full past c x below l =
    let long : length (packed ps) ≡ length (standing ps) = packed_length ps in
    let a : (a : ℕ) × Stands ps a × (number ps a ≡ c) = place_of ps c (omega (arith, below, long)) in
    let d : (d : ℕ) × (cell_at ps a.0 (column x) ≡ Some d) = full a.0 x l (omega (arith, past, stands_below ps a.0 a.1)) a.1 in
    subst (λ k. IsSome (entry (packed ps) k x)) a.2 (some_entry ps a.0 d.0 x a.1 d.1)

pub full_next : (m : ℕ) (ps : Places) (row : ℕ) → IsFullBefore m ps row → (Stands ps row → (x : ℤ) → IsLetterOf m x → (d : ℕ) × (cell_at ps row (column x) ≡ Some d)) → IsFullBefore m ps (row + 1)
full_next m ps row full here c x l below s =
    elim (cases_lt c row) [
      | inl less ↦ full c x l less s
      | inr more ↦
          let same : row ≡ c = omega (arith, below, more) in
          subst (λ a. Stands ps a → (d : ℕ) × (cell_at ps a (column x) ≡ Some d)) same (λ s. here s x l) s
    ]

pub full_first : (m : ℕ) (ps : Places) → IsFullBefore m ps 0
full_first m ps c x l below s = absurd (omega (arith, below))

pub full_lasts : (m : ℕ) (old new : Places) (row : ℕ) → Lasts m old new → IsFullBefore m old row → IsFullBefore m new row
full_lasts m old new row lasts full c x l below s =
    let h = lasts c s in
    let d : (d : ℕ) × (cell_at old c (column x) ≡ Some d) = full c x l below h.0 in
    h.1 d.0 x l d.1

-- in a stable table no row is to be looked at
pub stable_covered : (m : ℕ) (group : Group) (subgroup : List (List ℤ)) (ps : Places) → IsGapped m ps → IsStable group subgroup (packed ps) → IsCovered group.relators ps []
stable_covered m group subgroup ps g stable = record {
  joinings = λ i r p q u v w s e f apart. absurd (stable.no_joining (record { sign = a_relator i; row = number ps r; place = length u }) (number ps p) (number ps q) (record {
    front = u;
    back = v;
    read = (w, packed_below ps r s);
    place = refl;
    forces = record {
      before = packed_to m ps g r p u s e;
      after = packed_to m ps g r q (inv v) s f;
      differ = λ same. apart (number_apart ps p q (way_stands m ps g r p u s e) (way_stands m ps g r q (inv v) s f) same);
    };
  }));
  entries = λ i r p q x u v w s e f empty empty_back. absurd (stable.no_entry (record { sign = a_relator i; row = number ps r; place = length u }) (number ps p) x (number ps q) (record {
    front = u;
    back = v;
    read = (w, packed_below ps r s);
    place = refl;
    forces = record {
      before = packed_to m ps g r p u s e;
      after = packed_to m ps g r q (inv v) s f;
      empty = packed_cell ps p (column x) (way_stands m ps g r p u s e) ∙ ap (option_map (number ps)) empty;
      empty_back = packed_cell ps q (column (neg_ℤ x)) (way_stands m ps g r q (inv v) s f) ∙ ap (option_map (number ps)) empty_back;
    };
  }));
}

-- a new row at the first empty entry
pub record RowMade (group : Group) (subgroup : List (List ℤ)) (units : ℕ) (new : Places) (row from : ℕ) : Type 0 where
  pub covered : IsCovered group.relators new (row ∷ from ∷ [])
  pub reached : Reached group subgroup (units + 1) (packed new)
  pub full : IsFullBefore group.generators new from

pub row_made : (group : Group) (subgroup : List (List ℤ)) → IsPresented group → (units : ℕ) (old new : Places) (p : ℕ) (x : ℤ) →
    IsGapped group.generators old → IsGapped group.generators new → Enumerated group subgroup units (packed old) → IsSpot group.generators old (Some (record { row = p; letter = x })) →
    new ≡ fill_at (old ++ Some (empty_row group.generators) ∷ []) p x (length old) → packed new ≡ with_row group.generators (packed old) (number old p) x → RowMade group subgroup units new (length old) p
row_made group subgroup presented units old new p x g gn enumerated (s, l, full, empty) places table =
    let m : ℕ = group.generators in
    let mid : Places = old ++ Some (empty_row m) ∷ [] in
    let gm : IsGapped m mid = gapped_longer m old g in
    let sp : Stands mid p = longer_stands m old g p s in
    let sq : Stands mid (length old) = last_stands m old g in
    let e : cell_at mid p (column x) ≡ None = longer_cell m old g p (column x) (stands_below old p s) ∙ empty_cell old p x s empty.empty in
    let f : cell_at mid (length old) (column (neg_ℤ x)) ≡ None = last_empty m old g (column (neg_ℤ x)) in
    let first : Changes m old mid (length old ∷ []) = longer_changes m old g in
    let second : Changes m mid (fill_at mid p x (length old)) (p ∷ []) = fill_changes m mid gm p x (length old) sp sq l e f in
    let gf : IsGapped m (fill_at mid p x (length old)) = subst (IsGapped m) places gn in
    record {
      covered = subst (λ (ps : Places). IsCovered group.relators ps (length old ∷ p ∷ [])) (sym places)
          (still_covered m mid (fill_at mid p x (length old)) (p ∷ []) (length old ∷ []) (length old ∷ p ∷ []) second (λ c i. inl_only c i) (λ c i. inr i) group presented refl gf
          (still_covered m old mid (length old ∷ []) [] (length old ∷ []) first (λ c i. elim i [ ]) (λ c i. i) group presented refl gm (stable_covered m group subgroup old g enumerated.stable)));
      reached = reached_row group subgroup (packed old) (packed new) (number old p) x enumerated.stable empty table units (enumerated.tables, enumerated.leads);
      full = λ c y ly below st.
          let smid : Stands mid c = fill_unstands m mid gm p x (length old) sp sq l e f c (subst (λ (ps : Places). Stands ps c) places st) in
          let sold : Stands old c = elim (longer_stood m old g c smid) [ inl h ↦ h | inr same ↦ absurd (omega (arith, same, below, stands_below old p s)) ] in
          let d : (d : ℕ) × (cell_at old c (column y) ≡ Some d) = full c y ly below sold in
          subst (λ (ps : Places). (e : ℕ) × (cell_at ps c (column y) ≡ Some e)) (sym places)
          (second.kept c d.0 y ly (subst (λ (ps : Places). Stands ps c) places st) (longer_cell m old g c (column y) (stands_below old c sold) ∙ d.1));
    }
  where
    inl_only : (c : ℕ) → In c (length old ∷ []) → In c (length old ∷ p ∷ [])
    inl_only c (inl e) = inl e
    inl_only c (inr h) = elim h [ ]

pub grow_made : (group : Group) (subgroup : List (List ℤ)) → IsPresented group → (units : ℕ) (old new : Gapped) (spot : Spot) (row : ℕ) →
    old.generators ≡ group.generators → new.generators ≡ old.generators → IsGapped old.generators old.places → IsGapped new.generators new.places →
    Enumerated group subgroup units (packed old.places) → IsSpot group.generators old.places (Some spot) →
    new.places ≡ fill_at (old.places ++ Some (empty_row old.generators) ∷ []) spot.row spot.letter (length old.places) →
    packed new.places ≡ with_row old.generators (packed old.places) (number old.places spot.row) spot.letter → row ≡ length old.places →
    RowMade group subgroup units new.places row spot.row
grow_made group subgroup presented units old new spot row gens same g gn enumerated at places table last =
    subst (λ row. RowMade group subgroup units new.places row spot.row) (sym last)
    (row_made group subgroup presented units old.places new.places spot.row spot.letter
    (subst (λ m. IsGapped m old.places) gens g)
    (subst (λ m. IsGapped m new.places) (same ∙ gens) gn)
    enumerated at
    (subst (λ m. new.places ≡ fill_at (old.places ++ Some (empty_row m) ∷ []) spot.row spot.letter (length old.places)) gens places)
    (subst (λ m. packed new.places ≡ with_row m (packed old.places) (number old.places spot.row) spot.letter) gens table))

-- numbers of places, one after another
pub number_most : (ps : Places) (c : ℕ) → number ps c ≤ c
number_most ps zero = omega arith
number_most [] (suc c) = omega arith
number_most (None ∷ ps) (suc c) = omega (arith, number_most ps c)
number_most (Some r ∷ ps) (suc c) = omega (arith, number_most ps c)

after_one : (ps : Places) (c : ℕ) → number ps (c + 1) ≡ number ps (suc c)
after_one ps c = let e : c + 1 ≡ suc c = omega arith in ap (number ps) e

next_up : (ps : Places) (c : ℕ) → Stands ps c → number ps (suc c) ≡ suc (number ps c)
next_up [] c s = absurd (false≢true s)
next_up (None ∷ ps) zero s = absurd (false≢true s)
next_up (Some r ∷ ps) zero s = refl
next_up (None ∷ ps) (suc c) s = next_up ps c s
next_up (Some r ∷ ps) (suc c) s = ap suc (next_up ps c s)

next_same : (ps : Places) (c : ℕ) → (Stands ps c → ⊥) → number ps (suc c) ≡ number ps c
next_same [] zero s = refl
next_same [] (suc c) s = refl
next_same (None ∷ ps) zero s = refl
next_same (Some r ∷ ps) zero s = absurd (s refl)
next_same (None ∷ ps) (suc c) s = next_same ps c s
next_same (Some r ∷ ps) (suc c) s = ap suc (next_same ps c s)

pub number_next : (ps : Places) (c : ℕ) → Stands ps c → number ps (c + 1) ≡ number ps c + 1
number_next ps c s = after_one ps c ∙ (next_up ps c s ∙ omega arith)

pub number_gap : (ps : Places) (c : ℕ) → (Stands ps c → ⊥) → number ps (c + 1) ≡ number ps c
number_gap ps c s = after_one ps c ∙ next_same ps c s

pub number_all : (ps : Places) (c : ℕ) → length ps ≡ c → number ps c ≡ length (packed ps)
number_all ps c e = ap (number ps) (sym e) ∙ (number_end ps ∙ sym (packed_length ps))

pub one_place : (ps : Places) → gaps ps ≡ false ∷ [] → length ps ≡ 1
one_place ps e = sym (length-map ps is_none) ∙ ap (λ (bs : List Bool). length bs) e

pub imaging_first : (ps : Places) (x : ℤ) (before : List ℕ) → Imaging ps x before before 0
imaging_first ps x before = record { count = omega arith; kept = λ i h. refl; made = λ c h s. absurd (omega (arith, h)) }

pushed_before : (xs : List ℕ) (v i : ℕ) → i < length xs → get_or (xs ++ v ∷ []) i 0 ≡ get_or xs i 0
pushed_before xs v i h = get_or_append_left xs (v ∷ []) 0 i h

pub imaging_next : (ps : Places) (x : ℤ) (before after more : List ℕ) (place d v : ℕ) → Stands ps place → cell_at ps place (column x) ≡ Some d → v ≡ number ps d → more ≡ after ++ v ∷ [] →
    Imaging ps x before after place → Imaging ps x before more (place + 1)
imaging_next ps x before after more place d v s e value pushed h =
    let up : number ps (place + 1) ≡ number ps place + 1 = number_next ps place s in
    let long : length more ≡ length (after ++ v ∷ []) = ap (λ (xs : List ℕ). length xs) pushed in
    let counted : length (after ++ v ∷ []) ≡ length after + length (v ∷ []) = length-append after (v ∷ []) in
    let whole : length after ≡ length before + number ps place = h.count in
    record {
      count = omega (arith, up, long, counted, whole);
      kept = λ i below. ap (λ (xs : List ℕ). get_or xs i 0) pushed ∙ (pushed_before after v i (omega (arith, below, whole)) ∙ h.kept i below);
      made = λ c below st. elim (cases_lt c place) [
        | inl less ↦
            let m : (d : ℕ) × (cell_at ps c (column x) ≡ Some d) × (get_or after (length before + number ps c) 0 ≡ number ps d) = h.made c less st in
            let rises : number ps c < number ps place = number_rises ps c place st less in
            (m.0, m.1, ap (λ (xs : List ℕ). get_or xs (length before + number ps c) 0) pushed ∙ (pushed_before after v (length before + number ps c) (omega (arith, rises, whole)) ∙ m.2))
        | inr past ↦
            let same : place ≡ c = omega (arith, below, past) in
            subst (λ a. (d : ℕ) × (cell_at ps a (column x) ≡ Some d) × (get_or more (length before + number ps a) 0 ≡ number ps d)) same
            (d, e, ap (λ (xs : List ℕ). get_or xs (length before + number ps place) 0) pushed ∙ (get_or_at after v [] 0 (length before + number ps place) whole ∙ value))
      ];
    }

pub imaging_gap : (ps : Places) (x : ℤ) (before after : List ℕ) (place : ℕ) → (Stands ps place → ⊥) → Imaging ps x before after place → Imaging ps x before after (place + 1)
imaging_gap ps x before after place out h = record {
  count = omega (arith, h.count, number_gap ps place out);
  kept = h.kept;
  made = λ c below st. elim (cases_lt c place) [
    | inl less ↦ h.made c less st
    | inr past ↦
        let same : c ≡ place = omega (arith, below, past) in
        absurd (out (subst (Stands ps) same st))
  ];
}

pub images_first : (t : Table) → AreImages 0 t []
images_first t = record { count = omega arith; at = λ g c h. absurd (omega (arith, h)) }

inside_part : (g k n c : ℕ) → g < k → c < n → g * n + c < k * n
inside_part g zero n c h b = absurd (omega (arith, h))
inside_part zero (suc k) n c h b = omega (arith, b)
inside_part (suc g) (suc k) n c h b = omega (arith, inside_part g k n c (omega (arith, h)) b)

pub images_next : (ps : Places) (k : ℕ) (before after : List ℕ) (place : ℕ) → length ps ≤ place → place ≤ length ps → AreImages k (packed ps) before → Imaging ps (pos (suc k)) before after place → AreImages (k + 1) (packed ps) after
images_next ps k before after place past most h i =
    let whole : number ps place ≡ length (packed ps) = number_all ps place (omega (arith, past, most)) in
    let long : length (packed ps) ≡ length (standing ps) = packed_length ps in
    let total : (k + 1) * length (packed ps) ≡ k * length (packed ps) + length (packed ps) = one_more k (length (packed ps)) in
    record {
      count = omega (arith, i.count, whole, h.count, total);
      at = λ g c below inside. elim (cases_lt g k) [
        | inl less ↦
            let spot : g * length (packed ps) + c < k * length (packed ps) = inside_part g k (length (packed ps)) c less inside in
            h.at g c less inside ∙ ap Some (sym (i.kept (g * length (packed ps) + c) (omega (arith, spot, h.count))))
        | inr over ↦
            let same : k ≡ g = omega (arith, below, over) in
            let a : (a : ℕ) × Stands ps a × (number ps a ≡ c) = place_of ps c (omega (arith, inside, long)) in
            let m : (d : ℕ) × (cell_at ps a.0 (column (pos (suc k))) ≡ Some d) × (get_or after (length before + number ps a.0) 0 ≡ number ps d) = i.made a.0 (omega (arith, stands_below ps a.0 a.1, past)) a.1 in
            subst (λ g. entry (packed ps) c (pos (suc g)) ≡ Some (get_or after (g * length (packed ps) + c) 0)) same
            (ap (λ r. entry (packed ps) r (pos (suc k))) (sym a.2)
            ∙ (packed_cell ps a.0 (column (pos (suc k))) a.1
            ∙ (ap (option_map (number ps)) m.1
            ∙ ap Some (sym m.2 ∙ (ap (λ j. get_or after (j + number ps a.0) 0) h.count ∙ ap (λ r. get_or after (k * length (packed ps) + r) 0) a.2)))))
      ];
    }
  where
    one_more : (k n : ℕ) → (k + 1) * n ≡ k * n + n
    one_more k n = let e : k + 1 ≡ suc k = omega arith in ap (λ j. j * n) e ∙ omega arith

-- the numbers of the places before a place
pub record Numbers (ps : Places) (place : ℕ) (numbers : List ℕ) : Type 0 where
  pub count : length numbers ≡ place
  pub at : (c : ℕ) → c < place → get_or numbers c 0 ≡ number ps c

pub numbers_next : (ps : Places) (place v : ℕ) (numbers more : List ℕ) → v ≡ number ps place → more ≡ numbers ++ v ∷ [] → Numbers ps place numbers → Numbers ps (place + 1) more
numbers_next ps place v numbers more value pushed h = record {
  count = omega (arith, h.count, ap (λ (xs : List ℕ). length xs) pushed, length-append numbers (v ∷ []));
  at = λ c below. elim (cases_lt c place) [
    | inl less ↦ ap (λ (xs : List ℕ). get_or xs c 0) pushed ∙ (pushed_before numbers v c (omega (arith, less, h.count)) ∙ h.at c less)
    | inr past ↦
        let same : place ≡ c = omega (arith, below, past) in
        subst (λ a. get_or more a 0 ≡ number ps a) same (ap (λ (xs : List ℕ). get_or xs place 0) pushed ∙ (get_or_at numbers v [] 0 place h.count ∙ value))
  ];
}

pub numbers_all : (ps : Places) (place : ℕ) (numbers : List ℕ) → length ps ≤ place → place ≤ length ps → Numbers ps place numbers → AreNumbers ps numbers
numbers_all ps place numbers past most h = record { count = omega (arith, h.count, past, most); at = λ c below. h.at c (omega (arith, below, past)) }

pub imaging_all : (ps : Places) (x : ℤ) (before after : List ℕ) (place n : ℕ) → n ≡ place → Imaging ps x before after place → Imaging ps x before after n
imaging_all ps x before after place n e h = subst (Imaging ps x before after) (sym e) h

-- each entry of a complete table is there
pub complete_entry : (m : ℕ) (ps : Places) (c : ℕ) (x : ℤ) → IsComplete m (packed ps) → Stands ps c → IsLetterOf m x → cell_at ps c (column x) ≡ None → ⊥
complete_entry m ps c x whole s l e =
    false≢true (subst (λ (o : Option ℕ). IsSome o) (packed_cell ps c (column x) s ∙ ap (option_map (number ps)) e) (whole (number ps c) x (packed_below ps c s) l))
