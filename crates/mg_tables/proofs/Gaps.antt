-- Tables with gaps and their packed tables.
use Rattle.std.proofs.Common.{◌≡◌, ℕ, zero, suc, ◌<◌, ℤ, List, [], ◌∷◌, length, get_or, set, map, Some, None, refl, sym, ap, ◌∙◌, arith}
use Rattle.std.specs.Prelude.{IsSome, neg_ℤ, is_none}
use Rattle.std.specs.Option.{option_map}
use Rattle.std.proofs.lemmas.Bool.{false≢true}
use Rattle.std.proofs.lemmas.List.{length-map, map-set}
use Rattle.mg_tables.specs.Table.{Row, Table, column, with_entry, filled}
use Rattle.mg_tables.specs.Gaps.{Places, Stands, gaps, number, standing, packed, cell_at, row_at, put, fill_at}

absurd_none : {P : Type 0} → IsSome {T = Row} None → P
absurd_none h = absurd (false≢true h)

pub number_set : (ps : Places) (p : ℕ) (r : Row) → Stands ps p → (c : ℕ) → number (set ps p (Some r)) c ≡ number ps c
number_set ps p r h zero = refl
number_set [] p r h (suc c) = refl
number_set (None ∷ ps) zero r h (suc c) = absurd_none h
number_set (Some s ∷ ps) zero r h (suc c) = refl
number_set (None ∷ ps) (suc p) r h (suc c) = number_set ps p r h c
number_set (Some s ∷ ps) (suc p) r h (suc c) = ap suc (number_set ps p r h c)

pub standing_set : (ps : Places) (p : ℕ) (r : Row) → Stands ps p → standing (set ps p (Some r)) ≡ set (standing ps) (number ps p) r
standing_set [] p r h = absurd_none h
standing_set (None ∷ ps) zero r h = absurd_none h
standing_set (Some s ∷ ps) zero r h = refl
standing_set (None ∷ ps) (suc p) r h = standing_set ps p r h
standing_set (Some s ∷ ps) (suc p) r h = ap (λ (rows : List Row). s ∷ rows) (standing_set ps p r h)

pub standing_at : (ps : Places) (p : ℕ) → Stands ps p → get_or (standing ps) (number ps p) [] ≡ row_at ps p
standing_at [] p h = absurd_none h
standing_at (None ∷ ps) zero h = absurd_none h
standing_at (Some s ∷ ps) zero h = refl
standing_at (None ∷ ps) (suc p) h = standing_at ps p h
standing_at (Some s ∷ ps) (suc p) h = standing_at ps p h

pub number_below : (ps : Places) (p : ℕ) → Stands ps p → number ps p < length (standing ps)
number_below [] p h = absurd_none h
number_below (None ∷ ps) zero h = absurd_none h
number_below (Some s ∷ ps) zero h = omega arith
number_below (None ∷ ps) (suc p) h = number_below ps p h
number_below (Some s ∷ ps) (suc p) h = omega (arith, number_below ps p h)

pub number_apart : (ps : Places) (p q : ℕ) → Stands ps p → Stands ps q → number ps p ≡ number ps q → p ≡ q
number_apart [] p q h k e = absurd_none h
number_apart (None ∷ ps) zero q h k e = absurd_none h
number_apart (None ∷ ps) (suc p) zero h k e = absurd_none k
number_apart (None ∷ ps) (suc p) (suc q) h k e = ap suc (number_apart ps p q h k e)
number_apart (Some s ∷ ps) zero zero h k e = refl
number_apart (Some s ∷ ps) zero (suc q) h k e = absurd (omega (arith, e))
number_apart (Some s ∷ ps) (suc p) zero h k e = absurd (omega (arith, e))
number_apart (Some s ∷ ps) (suc p) (suc q) h k e = ap suc (number_apart ps p q h k (omega (arith, e)))

-- each number is that of a place
pub place_of : (ps : Places) (r : ℕ) → r < length (standing ps) → (c : ℕ) × Stands ps c × (number ps c ≡ r)
place_of [] r h = absurd (omega (arith, h))
place_of (None ∷ ps) r h = let c : (c : ℕ) × Stands ps c × (number ps c ≡ r) = place_of ps r h in (suc c.0, c.1, c.2)
place_of (Some s ∷ ps) zero h = (0, refl, refl)
place_of (Some s ∷ ps) (suc r) h =
    let c : (c : ℕ) × Stands ps c × (number ps c ≡ r) = place_of ps r (omega (arith, h)) in (suc c.0, c.1, ap suc c.2)

pub get_or_map : {A B : Type 0} (f : A → B) (xs : List A) (i : ℕ) (d : A) → get_or (map f xs) i (f d) ≡ f (get_or xs i d)
get_or_map f [] i d = refl
get_or_map f (x ∷ xs) zero d = refl
get_or_map f (x ∷ xs) (suc i) d = get_or_map f xs i d

abbrev pub renamed : Places → Row → Row
renamed ps row = map (option_map (number ps)) row

pub packed_length : (ps : Places) → length (packed ps) ≡ length (standing ps)
packed_length ps = length-map (standing ps) (renamed ps)

pub packed_row : (ps : Places) (c : ℕ) → Stands ps c → get_or (packed ps) (number ps c) [] ≡ renamed ps (row_at ps c)
packed_row ps c h = get_or_map (renamed ps) (standing ps) (number ps c) [] ∙ ap (renamed ps) (standing_at ps c h)

pub packed_cell : (ps : Places) (c i : ℕ) → Stands ps c → get_or (get_or (packed ps) (number ps c) []) i None ≡ option_map (number ps) (cell_at ps c i)
packed_cell ps c i h = ap (λ (row : Row). get_or row i None) (packed_row ps c h) ∙ get_or_map (option_map (number ps)) (row_at ps c) i None

pub packed_below : (ps : Places) (c : ℕ) → Stands ps c → number ps c < length (packed ps)
packed_below ps c h = let e : length (packed ps) ≡ length (standing ps) = packed_length ps in omega (arith, e, number_below ps c h)

-- a row is set
pub packed_set : (ps : Places) (p : ℕ) (r : Row) → Stands ps p → packed (set ps p (Some r)) ≡ set (packed ps) (number ps p) (renamed ps r)
packed_set ps p r h =
    let same : number (set ps p (Some r)) ≡ number ps = λ i c. number_set ps p r h c i in
    ap (λ (f : ℕ → ℕ). map (map (option_map f)) (standing (set ps p (Some r)))) same
    ∙ (ap (map (renamed ps)) (standing_set ps p r h)
    ∙ map-set (renamed ps) (standing ps) (number ps p) r)

pub stands_put : (ps : Places) (c i d e : ℕ) → Stands ps c → Stands ps e → Stands (put ps c i d) e
stands_put ps c i d e h k = stands_set ps c (set (row_at ps c) i (Some d)) e h k
  where
    stands_set : (ps : Places) (c : ℕ) (r : Row) (e : ℕ) → Stands ps c → Stands ps e → Stands (set ps c (Some r)) e
    stands_set [] c r e h k = absurd_none h
    stands_set (o ∷ ps) zero r zero h k = refl
    stands_set (o ∷ ps) zero r (suc e) h k = k
    stands_set (o ∷ ps) (suc c) r zero h k = k
    stands_set (o ∷ ps) (suc c) r (suc e) h k = stands_set ps c r e h k

pub stands_unput : (ps : Places) (c i d e : ℕ) → Stands ps c → Stands (put ps c i d) e → Stands ps e
stands_unput ps c i d e h k = stands_unset ps c (set (row_at ps c) i (Some d)) e h k
  where
    stands_unset : (ps : Places) (c : ℕ) (r : Row) (e : ℕ) → Stands ps c → Stands (set ps c (Some r)) e → Stands ps e
    stands_unset [] c r e h k = absurd_none h
    stands_unset (o ∷ ps) zero r zero h k = h
    stands_unset (o ∷ ps) zero r (suc e) h k = k
    stands_unset (o ∷ ps) (suc c) r zero h k = k
    stands_unset (o ∷ ps) (suc c) r (suc e) h k = stands_unset ps c r e h k

pub gaps_set : (ps : Places) (c : ℕ) (r : Row) → Stands ps c → gaps (set ps c (Some r)) ≡ gaps ps
gaps_set [] c r h = refl
gaps_set (None ∷ ps) zero r h = absurd_none h
gaps_set (Some s ∷ ps) zero r h = refl
gaps_set (o ∷ ps) (suc c) r h = ap (λ bs. is_none o ∷ bs) (gaps_set ps c r h)

pub stands_below : (ps : Places) (c : ℕ) → Stands ps c → c < length ps
stands_below [] c h = absurd_none h
stands_below (o ∷ ps) zero h = omega arith
stands_below (o ∷ ps) (suc c) h = omega (arith, stands_below ps c h)

pub packed_put : (ps : Places) (c i d : ℕ) → Stands ps c → packed (put ps c i d) ≡ set (packed ps) (number ps c) (set (get_or (packed ps) (number ps c) []) i (Some (number ps d)))
packed_put ps c i d h =
    packed_set ps c (set (row_at ps c) i (Some d)) h
    ∙ ap (set (packed ps) (number ps c))
    (map-set (option_map (number ps)) (row_at ps c) i (Some d)
    ∙ ap (λ (row : Row). set row i (Some (number ps d))) (sym (packed_row ps c h)))

pub packed_filled : (ps : Places) (p : ℕ) (x : ℤ) (q : ℕ) → Stands ps p → Stands ps q → packed (fill_at ps p x q) ≡ filled (packed ps) (number ps p) x (number ps q)
packed_filled ps p x q h k =
    let mid : Places = put ps p (column x) q in
    let same : (c : ℕ) → number mid c ≡ number ps c = number_set ps p (set (row_at ps p) (column x) (Some q)) h in
    packed_put mid q (column (neg_ℤ x)) p (stands_put ps p (column x) q q h k)
    ∙ (ap (λ n. with_entry (packed mid) n (neg_ℤ x) (number mid p)) (same q)
    ∙ (ap (λ n. with_entry (packed mid) (number ps q) (neg_ℤ x) n) (same p)
    ∙ ap (λ (t : Table). with_entry t (number ps q) (neg_ℤ x) (number ps p)) (packed_put ps p (column x) q h)))

pub gaps_filled : (ps : Places) (p : ℕ) (x : ℤ) (q : ℕ) → Stands ps p → Stands ps q → gaps (fill_at ps p x q) ≡ gaps ps
gaps_filled ps p x q h k =
    let mid : Places = put ps p (column x) q in
    gaps_set mid q (set (row_at mid q) (column (neg_ℤ x)) (Some p)) (stands_put ps p (column x) q q h k)
    ∙ gaps_set ps p (set (row_at ps p) (column x) (Some q)) h
