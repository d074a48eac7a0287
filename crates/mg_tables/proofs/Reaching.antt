-- Tables that are reached, and how much is left to do there.
use Rattle.std.proofs.Common.{◌≡◌, ◌≢◌, ℕ, zero, suc, ◌+◌, ◌<◌, ◌≤◌, ℤ, List, [], ◌∷◌, ◌++◌, length, get_or, set, Some, None, refl, sym, ap, subst, ◌∙◌, inl, inr, arith}
use Rattle.std.specs.Prelude.{neg_ℤ}
use Rattle.std.proofs.lemmas.List.{length-set}
use Rattle.mg_words.specs.Letter.{IsLetterOf}
use Rattle.mg_present.specs.Presentation.{Group, IsPresented}
use Rattle.mg_tables.specs.Table.{Row, Table, column, entry, filled, with_entry, with_row, first_table, IsTable}
use Rattle.mg_tables.specs.Force.{Cut, ForcesJoining, ForcesEntry, IsStable}
use Rattle.mg_tables.specs.Joining.{Joins}
use Rattle.mg_tables.specs.Enumeration.{Step, an_entry, a_joining, a_row, Leads, IsFirstEmpty}
use Rattle.mg_tables.specs.Enumerating.{Reached, Lasts, Deduced, empties_in, empties}
use Rattle.mg_tables.specs.Gaps.{Places, Gapped, Stands, number, packed, cell_at, fill_at, IsGapped}
use Rattle.mg_tables.specs.Looking.{In, IsCovered, IsFound, Changes}
use Rattle.mg_tables.specs.declared.look.Found.TheVariants as found
use Rattle.mg_tables.specs.declared.look.Entry.{Entry}
use Rattle.mg_tables.proofs.Gaps.{packed_below}
use Rattle.mg_tables.proofs.Filling.{fill_unstands, packed_is_table}
use Rattle.mg_tables.proofs.Kept.{empty_cell}
use Rattle.mg_tables.proofs.Leading.{in_pushed, in_last}
use Rattle.mg_tables.proofs.Looking.{still_covered, fill_changes}
use Rattle.mg_tables.proofs.Tables.{column-below}

leads_more : (group : Group) (subgroup : List (List ℤ)) (old : Table) (tables : List Table) (made : ℕ) (mid new : Table) (k : ℕ) →
    Leads group subgroup old tables made mid → Step group subgroup mid new k → Leads group subgroup old (tables ++ new ∷ []) (made + k) new
leads_more group subgroup old [] made mid new k (e, none) step =
    (k, 0, subst (λ (t : Table). Step group subgroup t new k) (sym e) step, (refl, refl), omega (arith, none))
leads_more group subgroup old (t ∷ tables) made mid new k (first, rest, s, leads, e) step =
    (first, rest + k, s, leads_more group subgroup t tables rest mid new k leads step, omega (arith, e))

pub reached_more : (group : Group) (subgroup : List (List ℤ)) (made : ℕ) (mid new : Table) (k : ℕ) → Reached group subgroup made mid → Step group subgroup mid new k → Reached group subgroup (made + k) new
reached_more group subgroup made mid new k (tables, leads) step = (tables ++ new ∷ [], leads_more group subgroup (first_table group.generators) tables made mid new k leads step)

same_made : (group : Group) (subgroup : List (List ℤ)) (made : ℕ) (t : Table) → Reached group subgroup (made + 0) t → Reached group subgroup made t
same_made group subgroup made t h = subst (λ n. Reached group subgroup n t) (omega arith) h

pub reached_entry : (group : Group) (subgroup : List (List ℤ)) (mid new : Table) (cut : Cut) (p : ℕ) (x : ℤ) (q : ℕ) → ForcesEntry group subgroup mid cut p x q → new ≡ filled mid p x q →
    (made : ℕ) → Reached group subgroup made mid → Reached group subgroup made new
reached_entry group subgroup mid new cut p x q h e made r = same_made group subgroup made new (reached_more group subgroup made mid new 0 r (an_entry cut p x q h e refl))

pub reached_joining : (group : Group) (subgroup : List (List ℤ)) (mid new : Table) (cut : Cut) (p q : ℕ) → ForcesJoining group subgroup mid cut p q → Joins group.generators mid p q new →
    (made : ℕ) → Reached group subgroup made mid → Reached group subgroup made new
reached_joining group subgroup mid new cut p q h j made r = same_made group subgroup made new (reached_more group subgroup made mid new 0 r (a_joining cut p q h j refl))

pub reached_row : (group : Group) (subgroup : List (List ℤ)) (mid new : Table) (p : ℕ) (x : ℤ) → IsStable group subgroup mid → IsFirstEmpty group.generators mid p x → new ≡ with_row group.generators mid p x →
    (made : ℕ) → Reached group subgroup made mid → Reached group subgroup (made + 1) new
reached_row group subgroup mid new p x s f e made r = reached_more group subgroup made mid new 1 r (a_row p x s f e refl)

pub reached_first : (group : Group) (subgroup : List (List ℤ)) (t : Table) → t ≡ first_table group.generators → Reached group subgroup 0 t
reached_first group subgroup t e = ([], (sym e, refl))

row_less : (row : Row) (i d : ℕ) → i < length row → get_or row i None ≡ None → empties_in (set row i (Some d)) < empties_in row
row_less [] i d h e = absurd (omega (arith, h))
row_less (None ∷ row) zero d h e = omega arith
row_less (Some b ∷ row) zero d h e = absurd cc
row_less (None ∷ row) (suc i) d h e = omega (arith, row_less row i d (omega (arith, h)) e)
row_less (Some b ∷ row) (suc i) d h e = row_less row i d (omega (arith, h)) e

row_most : (row : Row) (i d : ℕ) → empties_in (set row i (Some d)) ≤ empties_in row
row_most [] i d = omega arith
row_most (None ∷ row) zero d = omega arith
row_most (Some b ∷ row) zero d = omega arith
row_most (None ∷ row) (suc i) d = omega (arith, row_most row i d)
row_most (Some b ∷ row) (suc i) d = row_most row i d

table_less : (t : Table) (c : ℕ) (r : Row) → c < length t → empties_in r < empties_in (get_or t c []) → empties (set t c r) < empties t
table_less [] c r h e = absurd (omega (arith, h))
table_less (row ∷ t) zero r h e = omega (arith, e)
table_less (row ∷ t) (suc c) r h e = omega (arith, table_less t c r (omega (arith, h)) e)

table_most : (t : Table) (c : ℕ) (r : Row) → empties_in r ≤ empties_in (get_or t c []) → empties (set t c r) ≤ empties t
table_most [] c r e = omega arith
table_most (row ∷ t) zero r e = omega (arith, e)
table_most (row ∷ t) (suc c) r e = omega (arith, table_most t c r e)

pub filled_less : (m : ℕ) (t : Table) → IsTable m t → (p : ℕ) (x : ℤ) (q : ℕ) → p < length t → IsLetterOf m x → entry t p x ≡ None → empties (filled t p x q) < empties t
filled_less m t h p x q below l e =
    let first : empties (with_entry t p x q) < empties t = table_less t p (set (get_or t p []) (column x) (Some q)) below
    (row_less (get_or t p []) (column x) q (omega (arith, h.width p below, column-below m x l)) e) in
    let second : empties (filled t p x q) ≤ empties (with_entry t p x q) = table_most (with_entry t p x q) q (set (get_or (with_entry t p x q) q []) (column (neg_ℤ x)) (Some p))
    (row_most (get_or (with_entry t p x q) q []) (column (neg_ℤ x)) p) in
    omega (arith, first, second)

pub filled_length : (t : Table) (p : ℕ) (x : ℤ) (q : ℕ) → length (filled t p x q) ≡ length t
filled_length t p x q =
    length-set (with_entry t p x q) q (set (get_or (with_entry t p x q) q []) (column (neg_ℤ x)) (Some p))
    ∙ length-set t p (set (get_or t p []) (column x) (Some q))

-- what holds while entries are set
pub record Deducing (group : Group) (subgroup : List (List ℤ)) (first now : Gapped) (rows : List ℕ) : Type 0 where
  pub deduced : Deduced group subgroup first now
  pub covered : IsCovered group.relators now.places rows

pub lasts_still : (m : ℕ) (ps : Places) → Lasts m ps ps
lasts_still m ps c s = (s, λ d x l e. (d, e))

pub lasts_then : (m : ℕ) (a b c : Places) → Lasts m a b → Lasts m b c → Lasts m a c
lasts_then m a b c s t e st =
    let k = t e st in
    let h = s e k.0 in
    (h.0, λ d x l f. let mid = h.1 d x l f in k.1 mid.0 x l mid.1)

pub deduced_still : (group : Group) (subgroup : List (List ℤ)) (v : Gapped) → Deduced group subgroup v v
deduced_still group subgroup v = record { generators = refl; few = omega arith; reached = λ made r. r; lasts = lasts_still v.generators v.places }

pub deduced_then : (group : Group) (subgroup : List (List ℤ)) (a b c : Gapped) → Deduced group subgroup a b → Deduced group subgroup b c → Deduced group subgroup a c
deduced_then group subgroup a b c s t = record {
  generators = t.generators ∙ s.generators;
  few = omega (arith, s.few, t.few);
  reached = λ made r. t.reached made (s.reached made r);
  lasts = lasts_then a.generators a.places b.places c.places s.lasts (subst (λ m. Lasts m b.places c.places) s.generators t.lasts);
}

in_more : (x : ℕ) (xs : List ℕ) (c : ℕ) → In c (x ∷ []) → In c (xs ++ x ∷ [])
in_more x xs c (inl e) = subst (λ a. In a (xs ++ x ∷ [])) (sym e) (in_last x xs)
in_more x xs c (inr h) = elim h [ ]

-- an entry that is found is set
pub entry_deduced : (group : Group) (subgroup : List (List ℤ)) → IsPresented group → (old new : Gapped) (rows after : List ℕ) (d : Entry) →
    IsGapped old.generators old.places → IsGapped new.generators new.places → old.generators ≡ group.generators → new.generators ≡ old.generators → IsFound group subgroup old.places (found.Entry d) →
    packed new.places ≡ filled (packed old.places) (number old.places d.from) d.letter (number old.places d.to) → new.places ≡ fill_at old.places d.from d.letter d.to → IsCovered group.relators old.places rows → after ≡ rows ++ d.from ∷ [] →
    Deduced group subgroup old new × IsCovered group.relators new.places after
entry_deduced group subgroup presented old new rows after entry g gn gens same (sp, sq, l, cut, h) table places k e =
    let p : ℕ = entry.from in
    let x : ℤ = entry.letter in
    let q : ℕ = entry.to in
    let lo : IsLetterOf old.generators x = subst (λ m. IsLetterOf m x) (sym gens) l in
    let empty : cell_at old.places p (column x) ≡ None = empty_cell old.places p x sp h.forces.empty in
    let empty_back : cell_at old.places q (column (neg_ℤ x)) ≡ None = empty_cell old.places q (neg_ℤ x) sq h.forces.empty_back in
    let ch : Changes old.generators old.places new.places (p ∷ []) = subst (λ (ps : Places). Changes old.generators old.places ps (p ∷ [])) (sym places) (fill_changes old.generators old.places g p x q sp sq lo empty empty_back) in (
      record {
        generators = same;
        few = omega (arith, ap length table, filled_length (packed old.places) (number old.places p) x (number old.places q));
        reached = reached_entry group subgroup (packed old.places) (packed new.places) cut (number old.places p) x (number old.places q) h table;
        lasts = λ c s. (
          fill_unstands old.generators old.places g p x q sp sq lo empty empty_back c (subst (λ (ps : Places). Stands ps c) places s),
          λ d y ly f. ch.kept c d y ly s f,
        );
      },
      subst (IsCovered group.relators new.places) (sym e)
          (still_covered old.generators old.places new.places (p ∷ []) rows (rows ++ p ∷ []) ch (λ c i. in_pushed c p rows i) (in_more p rows) group presented (sym gens) (subst (λ m. IsGapped m new.places) same gn) k),
    )

pub entry_less : (group : Group) (subgroup : List (List ℤ)) (old new : Gapped) (d : Entry) → IsGapped old.generators old.places → old.generators ≡ group.generators → IsFound group subgroup old.places (found.Entry d) →
    packed new.places ≡ filled (packed old.places) (number old.places d.from) d.letter (number old.places d.to) → empties (packed new.places) < empties (packed old.places)
entry_less group subgroup old new entry g gens (sp, sq, l, cut, h) table =
    let p : ℕ = entry.from in
    let x : ℤ = entry.letter in
    let q : ℕ = entry.to in
    subst (λ (t : Table). empties t < empties (packed old.places)) (sym table)
    (filled_less old.generators (packed old.places) (packed_is_table old.generators old.places g) (number old.places p) x (number old.places q) (packed_below old.places p sp) (subst (λ m. IsLetterOf m x) (sym gens) l) h.forces.empty)

-- rows that are found are joined
pub rows_deduced : (group : Group) (subgroup : List (List ℤ)) → IsPresented group → (old new : Gapped) (rows after : List ℕ) (p q : ℕ) →
    old.generators ≡ group.generators → new.generators ≡ old.generators → IsGapped new.generators new.places → IsFound group subgroup old.places (found.Rows p q) →
    Joins old.generators (packed old.places) (number old.places p) (number old.places q) (packed new.places) → Changes old.generators old.places new.places after → ((c : ℕ) → In c rows → In c after) →
    ((c : ℕ) → Stands new.places c → Stands old.places c) → (p ≢ q → length (packed new.places) < length (packed old.places)) → IsCovered group.relators old.places rows →
    Deduced group subgroup old new × IsCovered group.relators new.places after × (length (packed new.places) < length (packed old.places))
rows_deduced group subgroup presented old new rows after p q gens same gn (sp, sq, cut, h) joins ch more stood fewer k =
    let less : length (packed new.places) < length (packed old.places) = fewer (λ e. h.forces.differ (ap (number old.places) e)) in (
      record {
        generators = same;
        few = omega (arith, less);
        reached = reached_joining group subgroup (packed old.places) (packed new.places) cut (number old.places p) (number old.places q) h
            (subst (λ m. Joins m (packed old.places) (number old.places p) (number old.places q) (packed new.places)) gens joins);
        lasts = λ c s. (stood c s, λ d y ly f. ch.kept c d y ly s f);
      },
      still_covered old.generators old.places new.places after rows after ch more (λ c i. i) group presented (sym gens) (subst (λ m. IsGapped m new.places) same gn) k,
      less,
    )
