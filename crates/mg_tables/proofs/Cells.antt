-- Rows that stand one after another in a list of numbers.
use Rattle.std.proofs.Common.{◌≡◌, ℕ, zero, suc, ◌+◌, ◌*◌, ◌<◌, ◌≤◌, List, [], ◌∷◌, ◌++◌, length, get_or, set, take, drop, map, Option, Some, None, Bool, cond, leb, refl, sym, ap, subst, ◌∙◌, true, false, arith}
use Rattle.std.specs.Prelude.{IsSome}
use Rattle.std.proofs.lemmas.Bool.{lt-leb, false≢true, leb-false, cond-false}
use Rattle.std.proofs.lemmas.List.{get_or-take, get_or-drop, map-set, take-set-le, drop-set-lt, drop-set-add, drop-drop, length-drop, take-append-le, drop-append-le, take_all}
use Rattle.mg_tables.specs.Table.{Row}
use Rattle.mg_tables.specs.Gaps.{Places, Stands, cell_at, empty_at, row_or_none, put}
use Rattle.mg_tables.specs.Cells.{cell, row_of, places_of}
use Rattle.mg_tables.specs.declared.table.TheConstants.{GONE}
use Rattle.mg_tables.proofs.Gaps.{get_or_map}

pub places_length : (w n : ℕ) (xs : List ℕ) → length (places_of w n xs) ≡ n
places_length w zero xs = refl
places_length w (suc n) xs = ap suc (places_length w n (drop w xs))

-- the numbers of one row
abbrev pub chunk : ℕ → ℕ → List ℕ → List ℕ
chunk w c xs = take w (drop (c * w) xs)

pub place_at : (w n c : ℕ) (xs : List ℕ) → c < n → get_or (places_of w n xs) c None ≡ row_of (chunk w c xs)
place_at w zero c xs h = absurd (omega (arith, h))
place_at w (suc n) zero xs h = let e : 0 ≡ 0 * w = omega arith in ap (λ k. row_of (take w (drop k xs))) e
place_at w (suc n) (suc c) xs h = place_at w n c (drop w xs) (omega (arith, h)) ∙ ap (λ ys. row_of (take w ys)) (drop-drop (c * w) w xs ∙ ap (λ k. drop k xs) (omega arith))

take-set-lt : (n : ℕ) (xs : List ℕ) (i v : ℕ) → i < n → take n (set xs i v) ≡ set (take n xs) i v
take-set-lt zero xs i v h = absurd (omega (arith, h))
take-set-lt (suc n) [] i v h = refl
take-set-lt (suc n) (x ∷ xs) zero v h = refl
take-set-lt (suc n) (x ∷ xs) (suc i) v h = ap (λ ys. x ∷ ys) (take-set-lt n xs i v (omega (arith, h)))

-- a number is set
pub places_set : (w n c i v : ℕ) (xs : List ℕ) → c < n → i < w → places_of w n (set xs (c * w + i) v) ≡ set (places_of w n xs) c (row_of (set (chunk w c xs) i v))
places_set w zero c i v xs h k = absurd (omega (arith, h))
places_set w (suc n) zero i v xs h k =
    let at : 0 * w + i ≡ i = omega arith in
    let none : 0 ≡ 0 * w = omega arith in
    ap (λ j. places_of w (suc n) (set xs j v)) at
    ∙ (ap (λ ys. row_of ys ∷ places_of w n (drop w (set xs i v))) (take-set-lt w xs i v k)
    ∙ (ap (λ ys. row_of (set (take w xs) i v) ∷ places_of w n ys) (drop-set-lt w xs i v k)
    ∙ ap (λ j. row_of (set (take w (drop j xs)) i v) ∷ places_of w n (drop w xs)) none))
places_set w (suc n) (suc c) i v xs h k =
    let at : suc c * w + i ≡ w + (c * w + i) = omega arith in
    let down : w + c * w ≡ suc c * w = omega arith in
    ap (λ j. places_of w (suc n) (set xs j v)) at
    ∙ (ap (λ ys. row_of ys ∷ places_of w n (drop w (set xs (w + (c * w + i)) v))) (take-set-le w xs (w + (c * w + i)) v (omega arith))
    ∙ (ap (λ ys. row_of (take w xs) ∷ places_of w n ys) (drop-set-add w xs (c * w + i) v)
    ∙ (ap (λ (ps : Places). row_of (take w xs) ∷ ps) (places_set w n c i v (drop w xs) (omega (arith, h)) k)
    ∙ ap (λ ys. row_of (take w xs) ∷ set (places_of w n (drop w xs)) c (row_of (set (take w ys) i v))) (drop-drop (c * w) w xs ∙ ap (λ j. drop j xs) down))))

-- a row that stands is not marked, and its entries are those of its numbers
pub unmarked : (xs : List ℕ) → IsSome (row_of xs) → get_or xs 0 0 < GONE
unmarked xs h = leb-false GONE (get_or xs 0 0) (un (leb GONE (get_or xs 0 0)) h)
  where
    un : (b : Bool) → IsSome (cond b None (Some (map cell xs))) → b ≡ false
    un true h = absurd (false≢true h)
    un false h = refl

pub row_unmarked : (xs : List ℕ) → get_or xs 0 0 < GONE → row_of xs ≡ Some (map cell xs)
row_unmarked xs h = cond-false (leb GONE (get_or xs 0 0)) None (Some (map cell xs)) (lt-leb GONE (get_or xs 0 0) h)

pub chunk_stands : (w n c : ℕ) (xs : List ℕ) → c < n → Stands (places_of w n xs) c → row_of (chunk w c xs) ≡ Some (map cell (chunk w c xs))
chunk_stands w n c xs below h = row_unmarked (chunk w c xs) (unmarked (chunk w c xs) (subst (λ (o : Option Row). IsSome o) (place_at w n c xs below) h))

-- the entry that a number tells
pub cell_read : (w n c i : ℕ) (xs : List ℕ) → c < n → i < w → Stands (places_of w n xs) c → cell_at (places_of w n xs) c i ≡ cell (get_or xs (c * w + i) 0)
cell_read w n c i xs below k h =
    ap (λ (o : Option Row). get_or (row_or_none o) i None) (place_at w n c xs below ∙ chunk_stands w n c xs below h)
    ∙ (get_or_map cell (chunk w c xs) i 0
    ∙ ap cell (get_or-take w (drop (c * w) xs) i 0 k ∙ get_or-drop (c * w) xs i 0))

first_set : (xs : List ℕ) (i v : ℕ) → get_or xs 0 0 < GONE → v < GONE → get_or (set xs i v) 0 0 < GONE
first_set [] i v h k = h
first_set (x ∷ xs) zero v h k = k
first_set (x ∷ xs) (suc i) v h k = h

-- an entry is set by its number
pub cell_set : (w n c i d : ℕ) (xs : List ℕ) → c < n → i < w → suc d < GONE → Stands (places_of w n xs) c → places_of w n (set xs (c * w + i) (suc d)) ≡ put (places_of w n xs) c i d
cell_set w n c i d xs below k small h =
    let low : get_or (chunk w c xs) 0 0 < GONE = unmarked (chunk w c xs) (subst (λ (o : Option Row). IsSome o) (place_at w n c xs below) h) in
    places_set w n c i (suc d) xs below k
    ∙ ap (set (places_of w n xs) c)
    (row_unmarked (set (chunk w c xs) i (suc d)) (first_set (chunk w c xs) i (suc d) low small)
    ∙ ap Some (map-set cell (chunk w c xs) i (suc d)
    ∙ ap (λ (row : Row). set row i (Some d)) (sym (ap row_or_none (place_at w n c xs below ∙ chunk_stands w n c xs below h)))))

-- an entry is taken away by 0
pub cell_empty : (w n c i : ℕ) (xs : List ℕ) → c < n → i < w → Stands (places_of w n xs) c → places_of w n (set xs (c * w + i) 0) ≡ empty_at (places_of w n xs) c i
cell_empty w n c i xs below k h =
    let low : get_or (chunk w c xs) 0 0 < GONE = unmarked (chunk w c xs) (subst (λ (o : Option Row). IsSome o) (place_at w n c xs below) h) in
    places_set w n c i 0 xs below k
    ∙ ap (set (places_of w n xs) c)
    (row_unmarked (set (chunk w c xs) i 0) (first_set (chunk w c xs) i 0 low (omega arith))
    ∙ ap Some (map-set cell (chunk w c xs) i 0
    ∙ ap (λ (row : Row). set row i None) (sym (ap row_or_none (place_at w n c xs below ∙ chunk_stands w n c xs below h)))))

-- a row is appended
pub places_append : (w n : ℕ) (xs ys : List ℕ) → length xs ≡ n * w → length ys ≡ w → places_of w (suc n) (xs ++ ys) ≡ places_of w n xs ++ row_of ys ∷ []
places_append w zero [] ys e f = ap (λ zs. row_of zs ∷ []) (take_all w ys (omega (arith, f)))
places_append w zero (x ∷ xs) ys e f = absurd (omega (arith, e))
places_append w (suc n) xs ys e f =
    let enough : w ≤ length xs = omega (arith, e) in
    ap (λ zs. row_of zs ∷ places_of w (suc n) (drop w (xs ++ ys))) (take-append-le w xs ys enough)
    ∙ (ap (λ zs. row_of (take w xs) ∷ places_of w (suc n) zs) (drop-append-le w xs ys enough)
    ∙ ap (λ (ps : Places). row_of (take w xs) ∷ ps) (places_append w n (drop w xs) ys (omega (arith, e, length-drop w xs)) f))
