-- What holds of every table, and what each call makes of its numbers.
use Rattle.std.proofs.Common.{◌≡◌, ℕ, zero, suc, ◌+◌, ◌-◌, ◌*◌, ◌<◌, ◌≤◌, ℤ, List, [], ◌∷◌, ◌++◌, length, get_or, set, drop, map, replicate, Option, Some, None, refl, sym, ap, subst, ◌∙◌, arith}
use Rattle.std.specs.Prelude.{IsSome, neg_ℤ, ◌↔◌}
use Rattle.std.specs.Option.{option_map}
use Rattle.std.proofs.lemmas.List.{length-set, get_or_read, get_or-take, get_or-drop, length-replicate, length-append, take_all}
use Rattle.std.proofs.lemmas.Bool.{false≢true}
use Rattle.mg_words.specs.Letter.{IsLetterOf}
use Rattle.mg_tables.specs.Table.{Row, column, entry, filled, empty_row, first_table}
use Rattle.mg_present.specs.declared.presentation.TheConstants.{MOST_GENERATORS}
use Rattle.mg_tables.specs.Gaps.{Places, Gapped, Stands, gaps, number, packed, cell_at, IsGapped, row_at, put, fill_at}
use Rattle.mg_tables.specs.Cells.{cell, row_of, places_of, seen, IsKept}
use Rattle.mg_tables.specs.declared.table.TheConstants.{GONE, MOST_PLACES}
use Rattle.mg_tables.proofs.Tables.{column-below}
use Rattle.mg_tables.proofs.Appending.{gapped_longer, none_anywhere, none_renamed, not_some}
use Rattle.mg_tables.proofs.Gaps.{stands_put, stands_below, packed_cell, packed_filled, gaps_filled}
use Rattle.mg_tables.proofs.Filling.{gapped_filled, letter_turned}
use Rattle.mg_tables.proofs.Cells.{chunk, place_at, places_length, cell_read, cell_set, places_append, unmarked, row_unmarked}

-- an index is inside
pub inside : (w n c i : ℕ) → c < n → i < w → c * w + i < n * w
inside w zero c i h k = absurd (omega (arith, h))
inside w (suc n) zero i h k = omega (arith, k)
inside w (suc n) (suc c) i h k = omega (arith, inside w n c i (omega (arith, h)) k)

pub standing_below : (w n c : ℕ) (xs : List ℕ) → Stands (places_of w n xs) c → c < n
standing_below w n c xs h = let e : length (places_of w n xs) ≡ n = places_length w n xs in omega (arith, e, stands_below (places_of w n xs) c h)

pub index_inside : (m n c i : ℕ) (xs : List ℕ) → IsKept m n xs → Stands (places_of (2 * m) n xs) c → i < 2 * m → c * (2 * m) + i < length xs
index_inside m n c i xs k h below =
    let e : length xs ≡ n * (2 * m) = k.size in
    let s : c * (2 * m) + i < n * (2 * m) = inside (2 * m) n c i (standing_below (2 * m) n c xs h) below in
    omega (arith, e, s)

-- the entry that a number tells
pub read_entry : (m n c : ℕ) (x : ℤ) (xs : List ℕ) → IsKept m n xs → Stands (places_of (2 * m) n xs) c → IsLetterOf m x →
    cell_at (places_of (2 * m) n xs) c (column x) ≡ cell (get_or xs (c * (2 * m) + column x) 0)
read_entry m n c x xs k h l = cell_read (2 * m) n c (column x) xs (standing_below (2 * m) n c xs h) (column-below m x l) h

none_from : (f : ℕ → ℕ) (o : Option ℕ) → option_map f o ≡ None → o ≡ None
none_from f None e = refl
none_from f (Some a) e = absurd cc

pub empty_cell : (ps : Places) (c : ℕ) (x : ℤ) → Stands ps c → entry (packed ps) (number ps c) x ≡ None → cell_at ps c (column x) ≡ None
empty_cell ps c x h e = none_from (number ps) (cell_at ps c (column x)) (sym (packed_cell ps c (column x) h) ∙ e)

module _ (m n p : ℕ) (x : ℤ) (q : ℕ) (xs : List ℕ) (k : IsKept m n xs) (hp : Stands (places_of (2 * m) n xs) p) (hq : Stands (places_of (2 * m) n xs) q) (l : IsLetterOf m x) where
  abbrev old : Places
  old = places_of (2 * m) n xs

  abbrev pub after_fill : List ℕ
  after_fill = set (set xs (p * (2 * m) + column x) (q + 1)) (q * (2 * m) + column (neg_ℤ x)) (p + 1)

  small : (c : ℕ) → Stands old c → suc c < GONE
  small c h = let a : c < n = standing_below (2 * m) n c xs h in let b : n ≤ MOST_PLACES = k.most in omega (arith, a, b)

  pub fill_seen : places_of (2 * m) n after_fill ≡ fill_at old p x q
  fill_seen =
      let mid : List ℕ = set xs (p * (2 * m) + column x) (q + 1) in
      let first : places_of (2 * m) n mid ≡ put old p (column x) q =
      ap (λ v. places_of (2 * m) n (set xs (p * (2 * m) + column x) v)) (omega arith)
      ∙ cell_set (2 * m) n p (column x) q xs (standing_below (2 * m) n p xs hp) (column-below m x l) (small q hq) hp in
      let there : Stands (places_of (2 * m) n mid) q = subst (λ (ps : Places). Stands ps q) (sym first) (stands_put old p (column x) q q hp hq) in
      ap (λ v. places_of (2 * m) n (set mid (q * (2 * m) + column (neg_ℤ x)) v)) (omega arith)
      ∙ (cell_set (2 * m) n q (column (neg_ℤ x)) p mid (standing_below (2 * m) n q xs hq) (column-below m (neg_ℤ x) (letter_turned m x l)) (small p hp) there
      ∙ ap (λ (ps : Places). put ps q (column (neg_ℤ x)) p) first)

  pub fill_table : packed (places_of (2 * m) n after_fill) ≡ filled (packed old) (number old p) x (number old q)
  fill_table = ap packed fill_seen ∙ packed_filled old p x q hp hq

  pub fill_gaps : gaps (places_of (2 * m) n after_fill) ≡ gaps old
  fill_gaps = ap gaps fill_seen ∙ gaps_filled old p x q hp hq

  pub fill_kept : entry (packed old) (number old p) x ≡ None → entry (packed old) (number old q) (neg_ℤ x) ≡ None → IsKept m n after_fill
  fill_kept e f = record {
    some = k.some;
    few = k.few;
    size = length-set (set xs (p * (2 * m) + column x) (q + 1)) (q * (2 * m) + column (neg_ℤ x)) (p + 1) ∙ (length-set xs (p * (2 * m) + column x) (q + 1) ∙ k.size);
    most = k.most;
    gapped = subst (IsGapped m) (sym fill_seen) (gapped_filled m old k.gapped p x q hp hq l (empty_cell old p x hp e) (empty_cell old q (neg_ℤ x) hq f));
  }

-- what a call of `fill` does
pub record Filled (m n p q i j : ℕ) (x : ℤ) (xs : List ℕ) (v : Gapped) : Type 0 where
  pub from_small : p + 1 < GONE
  pub to_small : q + 1 < GONE
  pub there : i < length xs
  pub back : j < length xs
  pub kept : IsKept m n (set (set xs i (q + 1)) j (p + 1))
  pub table : packed (places_of (2 * m) n (set (set xs i (q + 1)) j (p + 1))) ≡ filled (packed v.places) (number v.places p) x (number v.places q)
  pub gaps_same : gaps (places_of (2 * m) n (set (set xs i (q + 1)) j (p + 1))) ≡ gaps v.places
  pub seen_as : places_of (2 * m) n (set (set xs i (q + 1)) j (p + 1)) ≡ fill_at v.places p x q

pub fill_makes : (m n p : ℕ) (x : ℤ) (q i j : ℕ) (xs : List ℕ) (v : Gapped) → seen m n xs ≡ v → IsKept m n xs →
    Stands v.places p → Stands v.places q → IsLetterOf v.generators x →
    entry (packed v.places) (number v.places p) x ≡ None → entry (packed v.places) (number v.places q) (neg_ℤ x) ≡ None →
    i ≡ p * (2 * m) + column x → j ≡ q * (2 * m) + column (neg_ℤ x) → Filled m n p q i j x xs v
fill_makes m n p x q i j xs v s k =
    subst (λ (v : Gapped). Stands v.places p → Stands v.places q → IsLetterOf v.generators x →
    entry (packed v.places) (number v.places p) x ≡ None → entry (packed v.places) (number v.places q) (neg_ℤ x) ≡ None →
    i ≡ p * (2 * m) + column x → j ≡ q * (2 * m) + column (neg_ℤ x) → Filled m n p q i j x xs v) s (λ hp hq l e f a b.
    subst (λ i. Filled m n p q i j x xs (seen m n xs)) (sym a)
    (subst (λ j. Filled m n p q (p * (2 * m) + column x) j x xs (seen m n xs)) (sym b)
    (record {
      from_small = small p hp;
      to_small = small q hq;
      there = index_inside m n p (column x) xs k hp (column-below m x l);
      back = index_inside m n q (column (neg_ℤ x)) xs k hq (column-below m (neg_ℤ x) (letter_turned m x l));
      kept = fill_kept m n p x q xs k hp hq l e f;
      table = fill_table m n p x q xs k hp hq l;
      gaps_same = fill_gaps m n p x q xs k hp hq l;
      seen_as = fill_seen m n p x q xs k hp hq l;
    })))
  where
    small : (c : ℕ) → Stands (places_of (2 * m) n xs) c → c + 1 < GONE
    small c h = let a : c < n = standing_below (2 * m) n c xs h in let b : n ≤ MOST_PLACES = k.most in omega (arith, a, b)

-- what a call of `entry` answers
pub record Read (v : Gapped) (c : ℕ) (x : ℤ) (o : Option ℕ) : Type 0 where
  pub told : cell_at v.places c (column x) ≡ o
  pub table : entry (packed v.places) (number v.places c) x ≡ option_map (number v.places) o
  pub stands : (d : ℕ) → o ≡ Some d → Stands v.places d

pub read_inside : (m n c i j : ℕ) (x : ℤ) (xs : List ℕ) (v : Gapped) → seen m n xs ≡ v → IsKept m n xs → Stands v.places c → IsLetterOf v.generators x → j ≡ column x → i ≡ c * (2 * m) + j → i < length xs
read_inside m n c i j x xs v s k =
    subst (λ (v : Gapped). Stands v.places c → IsLetterOf v.generators x → j ≡ column x → i ≡ c * (2 * m) + j → i < length xs) s (λ h l a b.
    let in_row : j < 2 * m = omega (arith, a, column-below m x l) in
    let all : c * (2 * m) + j < length xs = index_inside m n c j xs k h in_row in omega (arith, all, b))

pub read_makes : (m n c i j z : ℕ) (x : ℤ) (xs : List ℕ) (v : Gapped) → seen m n xs ≡ v → IsKept m n xs → Stands v.places c → IsLetterOf v.generators x → j ≡ column x → i ≡ c * (2 * m) + j → z ≡ get_or xs i z → Read v c x (cell z)
read_makes m n c i j z x xs v s k h l a b r =
    let below : i < length xs = read_inside m n c i j x xs v s k h l a b in
    let value : z ≡ get_or xs i 0 = get_or_read xs i z below r 0 in
    subst (λ (v : Gapped). Stands v.places c → IsLetterOf v.generators x → Read v c x (cell z)) s (λ h l.
    let told : cell_at (places_of (2 * m) n xs) c (column x) ≡ cell z =
    read_entry m n c x xs k h l ∙ (ap (λ a. cell (get_or xs (c * (2 * m) + a) 0)) (sym a) ∙ ap cell (ap (λ a. get_or xs a 0) (sym b) ∙ sym value)) in
    record {
      told = told;
      table = packed_cell (places_of (2 * m) n xs) c (column x) h ∙ ap (option_map (number (places_of (2 * m) n xs))) told;
      stands = λ d e. k.gapped.there c (column x) d (told ∙ e);
    }) h l

pub cell_some : (z : ℕ) → (z ≡ 0 → ⊥) → cell z ≡ Some (z - 1)
cell_some zero h = absurd (h refl)
cell_some (suc d) h = let e : d ≡ suc d - 1 = omega arith in ap Some e

-- whether a row stands at a place, by its first number
pub stands_by : (m n c i z : ℕ) (xs : List ℕ) (v : Gapped) → seen m n xs ≡ v → IsKept m n xs → c < n → i ≡ c * (2 * m) + 0 → z ≡ get_or xs i z → (i < length xs) × ((z < GONE) ↔ Stands v.places c)
stands_by m n c i z xs v s k below b r =
    let some : 1 ≤ m = k.some in
    let size : length xs ≡ n * (2 * m) = k.size in
    let at : c * (2 * m) + 0 < n * (2 * m) = inside (2 * m) n c 0 below (omega (arith, some)) in
    let there : i < length xs = omega (arith, b, size, at) in
    let value : z ≡ get_or (chunk (2 * m) c xs) 0 0 =
    get_or_read xs i z there r 0 ∙ (ap (λ j. get_or xs j 0) b ∙ sym (get_or-take (2 * m) (drop (c * (2 * m)) xs) 0 0 (omega (arith, some)) ∙ get_or-drop (c * (2 * m)) xs 0 0)) in
    let place : get_or (places_of (2 * m) n xs) c None ≡ row_of (chunk (2 * m) c xs) = place_at (2 * m) n c xs below in (
      there,
      subst (λ (v : Gapped). (z < GONE) ↔ Stands v.places c) s (
        (λ low. subst (λ (o : Option Row). IsSome o) (sym (place ∙ row_unmarked (chunk (2 * m) c xs) (subst (λ a. a < GONE) value low))) refl),
        (λ h. subst (λ a. a < GONE) (sym value) (unmarked (chunk (2 * m) c xs) (subst (λ (o : Option Row). IsSome o) place h))),
      ),
    )

zeros_row : (n : ℕ) → row_of (replicate n 0) ≡ Some (replicate n None)
zeros_row n = row_unmarked (replicate n 0) (low n) ∙ ap Some (cells n)
  where
    low : (n : ℕ) → get_or (replicate n 0) 0 0 < GONE
    low zero = omega arith
    low (suc n) = omega arith

    cells : (n : ℕ) → map cell (replicate n 0) ≡ replicate n None
    cells zero = refl
    cells (suc n) = ap (λ (r : Row). None ∷ r) (cells n)

-- a row of zeros is appended
pub longer_seen : (m n : ℕ) (xs : List ℕ) → length xs ≡ n * (2 * m) → places_of (2 * m) (n + 1) (xs ++ replicate (2 * m) 0) ≡ places_of (2 * m) n xs ++ Some (empty_row m) ∷ []
longer_seen m n xs e =
    let next : n + 1 ≡ suc n = omega arith in
    ap (λ k. places_of (2 * m) k (xs ++ replicate (2 * m) 0)) next
    ∙ (places_append (2 * m) n xs (replicate (2 * m) 0) e (length-replicate (2 * m) 0)
    ∙ ap (λ (o : Option Row). places_of (2 * m) n xs ++ o ∷ []) (zeros_row (2 * m)))

pub longer_kept : (m n : ℕ) (xs : List ℕ) → IsKept m n xs → n < MOST_PLACES → IsKept m (n + 1) (xs ++ replicate (2 * m) 0)
longer_kept m n xs k room = record {
  some = k.some;
  few = k.few;
  size = let a : length (xs ++ replicate (2 * m) 0) ≡ length xs + length {A = ℕ} (replicate (2 * m) 0) = length-append xs (replicate (2 * m) 0) in
      let b : length {A = ℕ} (replicate (2 * m) 0) ≡ 2 * m = length-replicate {A = ℕ} (2 * m) 0 in
      let d : length xs ≡ n * (2 * m) = k.size in omega (arith, a, b, d);
  most = omega (arith, room);
  gapped = subst (IsGapped m) (sym (longer_seen m n xs k.size)) (gapped_longer m (places_of (2 * m) n xs) k.gapped);
}

-- the first table
pub first_seen : (m : ℕ) → places_of (2 * m) 1 (replicate (2 * m) 0) ≡ Some (empty_row m) ∷ []
first_seen m =
    ap (λ (ys : List ℕ). row_of ys ∷ []) (take_all (2 * m) (replicate (2 * m) 0) (omega (arith, length-replicate {A = ℕ} (2 * m) 0)))
    ∙ ap (λ (o : Option Row). o ∷ []) (zeros_row (2 * m))

pub first_packed : (m : ℕ) → packed (Some (empty_row m) ∷ []) ≡ first_table m
first_packed m = ap (λ (r : Row). r ∷ []) (none_renamed (number (Some (empty_row m) ∷ [])) (2 * m))

first_none : (m c i : ℕ) → cell_at (Some (empty_row m) ∷ []) c i ≡ None
first_none m zero i = none_anywhere (2 * m) i
first_none m (suc c) i = refl

pub first_kept : (m : ℕ) → 1 ≤ m → m ≤ MOST_GENERATORS → IsKept m 1 (replicate (2 * m) 0)
first_kept m some few = record {
  some = some;
  few = few;
  size = length-replicate (2 * m) 0 ∙ omega arith;
  most = omega arith;
  gapped = subst (IsGapped m) (sym (first_seen m)) (record {
    first = refl;
    width = width;
    there = λ c i d e. not_some (first_none m c i) e;
    inverse = λ c d x l e. not_some (first_none m c (column x)) e;
  });
}
  where
    width : (c : ℕ) → Stands (Some (empty_row m) ∷ []) c → length (row_at (Some (empty_row m) ∷ []) c) ≡ 2 * m
    width zero h = length-replicate (2 * m) None
    width (suc c) h = absurd (false≢true h)
