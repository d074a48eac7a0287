-- What each step of a collapse makes of the numbers.
use Rattle.std.proofs.Common.{◌≡◌, ℕ, zero, suc, ◌+◌, ◌-◌, ◌*◌, ◌<◌, ◌≤◌, ℤ, List, [], ◌∷◌, length, get_or, set, Option, Some, None, leb, map, refl, sym, ap, subst, ◌∙◌, inl, inr, arith}
use Rattle.std.specs.Prelude.{IsSome, neg_ℤ}
use Rattle.std.proofs.lemmas.Bool.{cases_lt, le-leb, cond-true}
use Rattle.std.proofs.lemmas.List.{length-set, length-map, get_or_past, get_or-set_same, get_or-set_other}
use Rattle.mg_words.specs.Letter.{IsLetterOf}
use Rattle.mg_tables.specs.Table.{Row, column}
use Rattle.mg_tables.specs.Gaps.{Places, Stands, row_or_none, cell_at, row_at, put, fill_at, empty_at, cleared, without, IsGapped}
use Rattle.mg_tables.specs.Cells.{cell, row_of, places_of, IsKept}
use Rattle.mg_tables.specs.Collapse.{Leads, Makes, went_of}
use Rattle.mg_tables.specs.declared.table.TheConstants.{GONE, MOST_PLACES}
use Rattle.mg_tables.proofs.Tables.{column-below, letter_at}
use Rattle.mg_tables.proofs.Cells.{chunk, chunk_stands, place_at, places_set, cell_set, cell_empty}
use Rattle.mg_tables.proofs.Kept.{index_inside, standing_below, fill_seen, read_entry}
use Rattle.mg_tables.proofs.Filling.{gapped_filled, letter_turned}
use Rattle.mg_tables.proofs.Clearing.{empty_stands, empty_unstands, gapped_cleared}
use Rattle.mg_tables.proofs.Going.{without_gapped}
use Rattle.mg_tables.proofs.Gaps.{stands_put, stands_unput}

-- two places in different rows differ
apart : (w c d i : ℕ) → (c ≡ d → ⊥) → i < w → c * w + 0 ≡ d * w + i → ⊥
apart w zero zero i ne k e = ne refl
apart w zero (suc d) i ne k e = omega (arith, e, k)
apart w (suc c) zero i ne k e = omega (arith, e, k)
apart w (suc c) (suc d) i ne k e = apart w c d i (λ f. ne (ap suc f)) k (omega (arith, e))

-- a number of a row that stands is no place of one that went
went_set : (w n : ℕ) (xs : List ℕ) (d i v c : ℕ) → Stands (places_of w n xs) d → i < w → (Stands (places_of w n xs) c → ⊥) → went_of w (set xs (d * w + i) v) c ≡ went_of w xs c
went_set w n xs d i v c h k out =
    ap (λ a. a - GONE) (get_or-set_other xs (d * w + i) (c * w + 0) v 0 (λ e. apart w c d i (λ f. out (subst (Stands (places_of w n xs)) (sym f) h)) k e))

clash : {P : Type 0} {o : Option ℕ} {a : ℕ} → o ≡ None → o ≡ Some a → P
clash e f = absurd cc

pub leads_stand : (ps : Places) (c i d : ℕ) → cell_at ps c i ≡ Some d → Stands ps c
leads_stand ps c i d e = from (get_or ps c None) e
  where
    from : (o : Option Row) → get_or (row_or_none o) i None ≡ Some d → IsSome o
    from None e = clash refl e
    from (Some r) e = refl

module _ (m n : ℕ) (xs : List ℕ) (k : IsKept m n xs) where
  abbrev ps : Places
  ps = places_of (2 * m) n xs

  module _ (from : ℕ) (x : ℤ) (to : ℕ) (hf : Stands ps from) (l : IsLetterOf m x) (e : Leads ps from x to) where
    abbrev half : List ℕ
    half = set xs (from * (2 * m) + column x) 0

    ht : Stands ps to
    ht = k.gapped.there from (column x) to e

    half_seen : places_of (2 * m) n half ≡ empty_at ps from (column x)
    half_seen = cell_empty (2 * m) n from (column x) xs (standing_below (2 * m) n from xs hf) (column-below m x l) hf

    half_to : Stands (places_of (2 * m) n half) to
    half_to = subst (λ (qs : Places). Stands qs to) (sym half_seen) (empty_stands ps from (column x) to hf ht)

    abbrev pub away : List ℕ
    away = set half (to * (2 * m) + column (neg_ℤ x)) 0

    away_seen : places_of (2 * m) n away ≡ cleared ps from x to
    away_seen =
        cell_empty (2 * m) n to (column (neg_ℤ x)) half (standing_below (2 * m) n to xs ht) (column-below m (neg_ℤ x) (letter_turned m x l)) half_to
        ∙ ap (λ (qs : Places). empty_at qs to (column (neg_ℤ x))) half_seen

    pub clear_makes : Makes m n xs away (cleared ps from x to)
    clear_makes = record {
      kept = record {
        some = k.some;
        few = k.few;
        size = length-set half (to * (2 * m) + column (neg_ℤ x)) 0 ∙ (length-set xs (from * (2 * m) + column x) 0 ∙ k.size);
        most = k.most;
        gapped = subst (IsGapped m) (sym away_seen) (gapped_cleared m ps k.gapped from x to hf l e);
      };
      seen = away_seen;
      gone = λ c out.
          went_set (2 * m) n half to (column (neg_ℤ x)) 0 c half_to (column-below m (neg_ℤ x) (letter_turned m x l))
          (λ s. out (unhalf c s))
          ∙ went_set (2 * m) n xs from (column x) 0 c hf (column-below m x l) out;
    }
      where
        unhalf : (c : ℕ) → Stands (places_of (2 * m) n half) c → Stands ps c
        unhalf c s = empty_unstands ps from (column x) c hf (subst (λ (qs : Places). Stands qs c) half_seen s)

    pub clear_there : from * (2 * m) + column x < length xs
    clear_there = index_inside m n from (column x) xs k hf (column-below m x l)

    pub clear_back : to * (2 * m) + column (neg_ℤ x) < length xs
    clear_back = index_inside m n to (column (neg_ℤ x)) xs k ht (column-below m (neg_ℤ x) (letter_turned m x l))

  module _ (from : ℕ) (x : ℤ) (to : ℕ) (hf : Stands ps from) (ht : Stands ps to) (l : IsLetterOf m x)
      (empty : cell_at ps from (column x) ≡ None) (empty_back : cell_at ps to (column (neg_ℤ x)) ≡ None) where
    abbrev first : List ℕ
    first = set xs (from * (2 * m) + column x) (to + 1)

    small : (c : ℕ) → Stands ps c → c + 1 < GONE
    small c h = let a : c < n = standing_below (2 * m) n c xs h in let b : n ≤ MOST_PLACES = k.most in omega (arith, a, b)

    first_seen : places_of (2 * m) n first ≡ put ps from (column x) to
    first_seen =
        ap (λ v. places_of (2 * m) n (set xs (from * (2 * m) + column x) v)) (omega arith)
        ∙ cell_set (2 * m) n from (column x) to xs (standing_below (2 * m) n from xs hf) (column-below m x l) (omega (arith, small to ht)) hf

    first_to : Stands (places_of (2 * m) n first) to
    first_to = subst (λ (qs : Places). Stands qs to) (sym first_seen) (stands_put ps from (column x) to to hf ht)

    abbrev pub after : List ℕ
    after = set first (to * (2 * m) + column (neg_ℤ x)) (from + 1)

    after_seen : places_of (2 * m) n after ≡ fill_at ps from x to
    after_seen = fill_seen m n from x to xs k hf ht l

    pub set_makes : Makes m n xs after (fill_at ps from x to)
    set_makes = record {
      kept = record {
        some = k.some;
        few = k.few;
        size = length-set first (to * (2 * m) + column (neg_ℤ x)) (from + 1) ∙ (length-set xs (from * (2 * m) + column x) (to + 1) ∙ k.size);
        most = k.most;
        gapped = subst (IsGapped m) (sym after_seen) (gapped_filled m ps k.gapped from x to hf ht l empty empty_back);
      };
      seen = after_seen;
      gone = λ c out.
          went_set (2 * m) n first to (column (neg_ℤ x)) (from + 1) c first_to (column-below m (neg_ℤ x) (letter_turned m x l))
          (λ s. out (stands_unput ps from (column x) to c hf (subst (λ (qs : Places). Stands qs c) first_seen s)))
          ∙ went_set (2 * m) n xs from (column x) (to + 1) c hf (column-below m x l) out;
    }

  module _ (keep go : ℕ) (hg : Stands ps go) (less : keep < go) (bare : (i : ℕ) → cell_at ps go i ≡ None) where
    abbrev pub marked : List ℕ
    marked = set xs (go * (2 * m) + 0) (GONE + keep)

    some : 0 < 2 * m
    some = omega (arith, k.some)

    marked_row : (ys : List ℕ) → 0 < length ys → row_of (set ys 0 (GONE + keep)) ≡ None
    marked_row [] h = absurd (omega (arith, h))
    marked_row (y ∷ ys) h = cond-true (leb GONE (GONE + keep)) None (Some (map cell ((GONE + keep) ∷ ys))) (le-leb GONE (GONE + keep) (omega arith))

    mapped_long : (ys : List ℕ) → length (map cell ys) ≡ 2 * m → length ys ≡ 2 * m
    mapped_long ys e = sym (length-map ys cell) ∙ e

    row_is : get_or ps go None ≡ Some (map cell (chunk (2 * m) go xs))
    row_is = place_at (2 * m) n go xs (standing_below (2 * m) n go xs hg) ∙ chunk_stands (2 * m) n go xs (standing_below (2 * m) n go xs hg) hg

    chunk_long : length (chunk (2 * m) go xs) ≡ 2 * m
    chunk_long = mapped_long (chunk (2 * m) go xs) (sym (ap (λ (o : Option Row). length (row_or_none o)) row_is) ∙ k.gapped.width go hg)

    marked_seen : places_of (2 * m) n marked ≡ without ps go
    marked_seen =
        places_set (2 * m) n go 0 (GONE + keep) xs (standing_below (2 * m) n go xs hg) some
        ∙ ap (set ps go) (marked_row (chunk (2 * m) go xs) (omega (arith, some, chunk_long)))

    -- no entry leads to a row without entries
    pub unled : (c d i : ℕ) → cell_at ps c i ≡ Some d → d ≡ go → ⊥
    unled c d i e f = elim (cases_lt i (2 * m)) [
      | inl below ↦
          let l : (x : ℤ) × IsLetterOf m x × (column x ≡ i) = letter_at m i below in
          let back : cell_at ps d (column (neg_ℤ l.0)) ≡ Some c = k.gapped.inverse c d l.0 l.1 (subst (λ j. cell_at ps c j ≡ Some d) (sym l.2) e) in
          clash (bare (column (neg_ℤ l.0))) (subst (λ a. cell_at ps a (column (neg_ℤ l.0)) ≡ Some c) f back)
      | inr past ↦ clash (get_or_past (row_at ps c) i None (omega (arith, past, k.gapped.width c (leads_stand ps c i d e)))) e
    ]

    marked_gapped : IsGapped m (without ps go)
    marked_gapped = without_gapped m ps k.gapped go hg (omega (arith, less)) bare unled

    pub mark_makes : Makes m n xs marked (without ps go)
    mark_makes = record {
      kept = record {
        some = k.some;
        few = k.few;
        size = length-set xs (go * (2 * m) + 0) (GONE + keep) ∙ k.size;
        most = k.most;
        gapped = subst (IsGapped m) (sym marked_seen) marked_gapped;
      };
      seen = marked_seen;
      gone = λ c out. went_set (2 * m) n xs go 0 (GONE + keep) c hg some out;
    }

    pub mark_there : go * (2 * m) + 0 < length xs
    mark_there = index_inside m n go 0 xs k hg some

    pub mark_went : went_of (2 * m) marked go ≡ keep
    mark_went = ap (λ a. a - GONE) (get_or-set_same xs (go * (2 * m) + 0) (GONE + keep) 0 mark_there) ∙ omega arith

-- the same with the places that are computed
pub clear_made : (m n : ℕ) (xs : List ℕ) (k : IsKept m n xs) (from : ℕ) (x : ℤ) (to i j : ℕ) (hf : Stands (places_of (2 * m) n xs) from) (l : IsLetterOf m x) (e : Leads (places_of (2 * m) n xs) from x to) →
    i ≡ from * (2 * m) + column x → j ≡ to * (2 * m) + column (neg_ℤ x) → Makes m n xs (set (set xs i 0) j 0) (cleared (places_of (2 * m) n xs) from x to)
clear_made m n xs k from x to i j hf l e a b =
    subst (λ i. Makes m n xs (set (set xs i 0) j 0) (cleared (places_of (2 * m) n xs) from x to)) (sym a)
    (subst (λ j. Makes m n xs (set (set xs (from * (2 * m) + column x) 0) j 0) (cleared (places_of (2 * m) n xs) from x to)) (sym b)
    (clear_makes m n xs k from x to hf l e))

pub set_made : (m n : ℕ) (xs : List ℕ) (k : IsKept m n xs) (from : ℕ) (x : ℤ) (to i j : ℕ) (hf : Stands (places_of (2 * m) n xs) from) (ht : Stands (places_of (2 * m) n xs) to) (l : IsLetterOf m x) →
    cell_at (places_of (2 * m) n xs) from (column x) ≡ None → cell_at (places_of (2 * m) n xs) to (column (neg_ℤ x)) ≡ None →
    i ≡ from * (2 * m) + column x → j ≡ to * (2 * m) + column (neg_ℤ x) → Makes m n xs (set (set xs i (to + 1)) j (from + 1)) (fill_at (places_of (2 * m) n xs) from x to)
set_made m n xs k from x to i j hf ht l e f a b =
    subst (λ i. Makes m n xs (set (set xs i (to + 1)) j (from + 1)) (fill_at (places_of (2 * m) n xs) from x to)) (sym a)
    (subst (λ j. Makes m n xs (set (set xs (from * (2 * m) + column x) (to + 1)) j (from + 1)) (fill_at (places_of (2 * m) n xs) from x to)) (sym b)
    (set_makes m n xs k from x to hf ht l e f))

-- the entry of a row
pub row_inside : (m n : ℕ) (xs : List ℕ) → IsKept m n xs → (c : ℕ) (x : ℤ) (i j : ℕ) → Stands (places_of (2 * m) n xs) c → IsLetterOf m x → j ≡ column x → i ≡ c * (2 * m) + j → i < length xs
row_inside m n xs k c x i j h l a b =
    let all : c * (2 * m) + column x < length xs = index_inside m n c (column x) xs k h (column-below m x l) in
    let at : i ≡ c * (2 * m) + column x = b ∙ ap (λ j. c * (2 * m) + j) a in
    omega (arith, all, at)

pub row_read : (m n : ℕ) (xs : List ℕ) → IsKept m n xs → (c : ℕ) (x : ℤ) (i j z : ℕ) → Stands (places_of (2 * m) n xs) c → IsLetterOf m x → j ≡ column x → i ≡ c * (2 * m) + j → z ≡ get_or xs i 0 →
    cell_at (places_of (2 * m) n xs) c (column x) ≡ cell z
row_read m n xs k c x i j z h l a b r =
    read_entry m n c x xs k h l ∙ (ap (λ a. cell (get_or xs (c * (2 * m) + a) 0)) (sym a) ∙ ap cell (ap (λ a. get_or xs a 0) (sym b) ∙ sym r))

-- a row that stands is at a place that a number can hold
pub small_place : (m n : ℕ) (xs : List ℕ) → IsKept m n xs → (c : ℕ) → Stands (places_of (2 * m) n xs) c → c + 1 < GONE
small_place m n xs k c h = let a : c < n = standing_below (2 * m) n c xs h in let b : n ≤ MOST_PLACES = k.most in omega (arith, a, b)

pub mark_made : (m n : ℕ) (xs : List ℕ) (k : IsKept m n xs) (keep go i : ℕ) (hg : Stands (places_of (2 * m) n xs) go) → keep < go → ((i : ℕ) → cell_at (places_of (2 * m) n xs) go i ≡ None) →
    i ≡ go * (2 * m) + 0 → (Makes m n xs (set xs i (GONE + keep)) (without (places_of (2 * m) n xs) go)) × (went_of (2 * m) (set xs i (GONE + keep)) go ≡ keep) × (i < length xs)
mark_made m n xs k keep go i hg less bare a =
    subst (λ i. (Makes m n xs (set xs i (GONE + keep)) (without (places_of (2 * m) n xs) go)) × (went_of (2 * m) (set xs i (GONE + keep)) go ≡ keep) × (i < length xs)) (sym a)
    (mark_makes m n xs k keep go hg less bare, mark_went m n xs k keep go hg less bare, mark_there m n xs k keep go hg less bare)
