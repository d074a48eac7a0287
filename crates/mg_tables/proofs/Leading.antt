-- What the calls of a collapse do to any collapse that the numbers are.
use Rattle.std.proofs.Common.{◌≡◌, ◌≢◌, ℕ, zero, suc, ◌+◌, ◌*◌, ◌<◌, ◌≤◌, ℤ, List, [], ◌∷◌, ◌++◌, length, get_or, take, Option, Some, None, true, refl, sym, ap, subst, ◌∙◌, ◌⊎◌, inl, inr, arith}
use Rattle.std.specs.Prelude.{IsSome, neg_ℤ, is_none}
use Rattle.std.specs.List.{AllByRecursion}
use Rattle.std.proofs.lemmas.Bool.{cases_eq, cases_lt, false≢true}
use Rattle.std.proofs.lemmas.List.{get_or_past, take-append-le, take_all}
use Rattle.mg_words.specs.Letter.{IsLetterOf}
use Rattle.mg_tables.specs.Table.{Row, column}
use Rattle.mg_tables.specs.Gaps.{Places, Gapped, Stands, gaps, number, packed, standing, row_at, cell_at, fill_at, cleared, without, IsGapped}
use Rattle.mg_tables.specs.Cells.{places_of, seen, IsKept}
use Rattle.mg_tables.specs.Joining.{Joins}
use Rattle.mg_tables.specs.Collapse.{Leads, Collapsing, IsCollapse, JoinsGone, KeepsGone, Makes, Moved, SomeCollapse, LeadsOn, went_of, left_to_do}
use Rattle.mg_tables.specs.declared.join.Pair.{Pair}
use Rattle.mg_tables.proofs.Gaps.{get_or_map, gaps_filled}
use Rattle.mg_tables.proofs.Filling.{which, at_back, letter_turned, turned_twice}
use Rattle.mg_tables.proofs.Moving.{JoinPairs, Moves, collapse_moves, collapse_found, collapse_alike, all_push, all_pushed}
use Rattle.mg_tables.proofs.Cells.{places_length}
use Rattle.mg_tables.proofs.Collapse.{collapse_start, collapse_joins, collapse_keeps, collapse_fewer}
use Rattle.mg_tables.specs.Looking.{In, Changes, Touched}
use Rattle.mg_tables.proofs.Going.{collapse_goes, without_cell}
use Rattle.mg_tables.proofs.Steps.{unled}
use Rattle.mg_tables.proofs.Clearing.{cleared_stands, cleared_stood, cleared_cell, cleared_inverse, cleared_none, cleared_gaps, front_none, gapped_cleared, move_onto, move_free}

abbrev pub pair : ℕ → ℕ → Pair
pair l r = record { left = l; right = r }

abbrev pub Stood : Places → List Pair → Type 0
Stood first pairs = AllByRecursion (λ (e : Pair). Stands first e.left × Stands first e.right) pairs

same_some : (o u : Option Row) → is_none o ≡ is_none u → IsSome o → IsSome u
same_some None u e h = absurd (false≢true h)
same_some (Some r) None e h = absurd (false≢true e)
same_some (Some r) (Some s) e h = refl

-- where the gaps are the same, the same rows stand
pub stands_same : (a b : Places) → gaps a ≡ gaps b → (c : ℕ) → Stands a c → Stands b c
stands_same a b e c h =
    same_some (get_or a c None) (get_or b c None)
    (sym (get_or_map (is_none {T = Row}) a c None) ∙ (ap (λ bs. get_or bs c true) e ∙ get_or_map (is_none {T = Row}) b c None)) h

-- as many rows stand
pub standing_same : (a b : Places) → gaps a ≡ gaps b → length (standing a) ≡ length (standing b)
standing_same [] [] e = refl
standing_same [] (o ∷ b) e = absurd cc
standing_same (o ∷ a) [] e = absurd cc
standing_same (None ∷ a) (None ∷ b) e = standing_same a b (tail_same e)
  where
    tail_same : true ∷ gaps a ≡ true ∷ gaps b → gaps a ≡ gaps b
    tail_same e = cc
standing_same (None ∷ a) (Some s ∷ b) e = absurd cc
standing_same (Some r ∷ a) (None ∷ b) e = absurd cc
standing_same (Some r ∷ a) (Some s ∷ b) e = ap suc (standing_same a b cc)

-- one row fewer
pub standing_without : (ps : Places) (go : ℕ) → Stands ps go → suc (length (standing (without ps go))) ≡ length (standing ps)
standing_without [] go h = absurd (false≢true h)
standing_without (None ∷ ps) zero h = absurd (false≢true h)
standing_without (Some r ∷ ps) zero h = refl
standing_without (None ∷ ps) (suc go) h = standing_without ps go h
standing_without (Some r ∷ ps) (suc go) h = ap suc (standing_without ps go h)

pub moved_still : (m n keep go : ℕ) (xs : List ℕ) (before : List Pair) → IsKept m n xs → Moved m n keep go xs before xs before
moved_still m n keep go xs before k = record { kept = k; gaps_same = refl; bare = λ i h. h; collapse = λ first p q c. c; told = λ c i d e. inl e }

pub moved_then : (m n keep go : ℕ) (xs ys zs : List ℕ) (a b c : List Pair) → Moved m n keep go xs a ys b → Moved m n keep go ys b zs c → Moved m n keep go xs a zs c
moved_then m n keep go xs ys zs a b c s t = record {
  kept = t.kept;
  gaps_same = t.gaps_same ∙ s.gaps_same;
  bare = λ i h. t.bare i (s.bare i h);
  collapse = λ first p q k. t.collapse first p q (s.collapse first p q k);
  told = λ e i d h. elim (t.told e i d h) [ inl mid ↦ s.told e i d mid | inr at ↦ inr at ];
}

moved_by : (m n keep go : ℕ) (xs ys : List ℕ) (before after : List Pair) → IsKept m n ys → KeepsGone m n xs ys →
    Moves m (places_of (2 * m) n xs) (places_of (2 * m) n ys) (pair keep go ∷ before) (pair keep go ∷ after) →
    gaps (places_of (2 * m) n ys) ≡ gaps (places_of (2 * m) n xs) →
    ((i : ℕ) → cell_at (places_of (2 * m) n xs) go i ≡ None → cell_at (places_of (2 * m) n ys) go i ≡ None) →
    ((first : Places) → ((c : ℕ) → Stands (places_of (2 * m) n xs) c → Stands first c) → Stood first before → Stood first after) →
    ((c i d : ℕ) → cell_at (places_of (2 * m) n ys) c i ≡ Some d → (cell_at (places_of (2 * m) n xs) c i ≡ Some d) ⊎ ((c ≡ keep) ⊎ (d ≡ keep))) →
    Moved m n keep go xs before ys after
moved_by m n keep go xs ys before after kept gone moves same bare stood told = record {
  kept = kept;
  gaps_same = same;
  bare = bare;
  collapse = λ first p q k. record {
    kept = kept;
    count = k.count;
    collapsing = collapse_alike m first (places_of (2 * m) n ys) p q (went_of (2 * m) xs) (went_of (2 * m) ys) (pair keep go ∷ after) (pair keep go ∷ after)
        (collapse_moves m first (places_of (2 * m) n xs) (places_of (2 * m) n ys) p q (went_of (2 * m) xs) (pair keep go ∷ before) (pair keep go ∷ after) k.collapsing moves)
        (λ f j. j) (λ f j. j) (λ c s out. gone c (λ h. out (moves.kept c h)));
    pairs_stood = (k.pairs_stood.0, stood first k.collapsing.stood k.pairs_stood.1);
  };
  told = told;
}

-- the new pair stands at the end
moves_pushed : (m : ℕ) (old new : Places) (pg pr : Pair) (before : List Pair) → Moves m old new (pg ∷ before) (pr ∷ (pg ∷ before)) → Moves m old new (pg ∷ before) (pg ∷ (before ++ pr ∷ []))
moves_pushed m old new pg pr before h = record {
  gapped = h.gapped;
  kept = h.kept;
  stood = h.stood;
  more = λ f j. h.more f (turn f j);
  least = λ f keeps j. let r : JoinPairs f (pr ∷ (pg ∷ before)) = h.least f keeps j in (r.1.0, all_push (λ (e : Pair). f e.left ≡ f e.right) before pr r.1.1 r.0);
  back = h.back;
  forth = λ f j. h.forth f (turn f j);
}
  where
    turn : (f : ℕ → ℕ) → JoinPairs f (pg ∷ (before ++ pr ∷ [])) → JoinPairs f (pr ∷ (pg ∷ before))
    turn f j =
        let r : JoinPairs f before × (f pr.left ≡ f pr.right) = all_pushed (λ (e : Pair). f e.left ≡ f e.right) before pr j.1 in
        (r.1, (j.0, r.0))

module _ (m n : ℕ) (xs ys : List ℕ) (k : IsKept m n xs) (keep go d to : ℕ) (x : ℤ) (hk : Stands (places_of (2 * m) n xs) keep) (hg : Stands (places_of (2 * m) n xs) go) (less : keep < go)
    (l : IsLetterOf m x) (e : cell_at (places_of (2 * m) n xs) go (column x) ≡ Some d) (mk : Makes m n xs ys (cleared (places_of (2 * m) n xs) go x d))
    (goes : d ≡ go → to ≡ keep) (stays : (d ≡ go → ⊥) → to ≡ d) (before : List Pair) where
  abbrev ps : Places
  ps = places_of (2 * m) n xs

  abbrev cs : Places
  cs = cleared ps go x d

  to_not_go : to ≡ go → ⊥
  to_not_go f = elim (cases_eq d go) [
    | inl s ↦ omega (arith, less, f, goes s)
    | inr ne ↦ ne (sym (stays ne) ∙ f)
  ]

  to_stands : Stands ps to
  to_stands = elim (cases_eq d go) [
    | inl s ↦ subst (Stands ps) (sym (goes s)) hk
    | inr ne ↦ subst (Stands ps) (sym (stays ne)) (k.gapped.there go (column x) d e)
  ]

  to_joined : (f : ℕ → ℕ) → f keep ≡ f go → f to ≡ f d
  to_joined f h = elim (cases_eq d go) [
    | inl s ↦ ap f (goes s) ∙ (h ∙ ap f (sym s))
    | inr ne ↦ ap f (stays ne)
  ]

  -- the rows still stand
  pub still_stands : (c : ℕ) → Stands ps c → Stands (places_of (2 * m) n ys) c
  still_stands c h = subst (λ (qs : Places). Stands qs c) (sym mk.seen) (cleared_stands m ps k.gapped go x d hg l e c h)

  pub to_still_stands : Stands (places_of (2 * m) n ys) to
  to_still_stands = still_stands to to_stands

  cleared_same : gaps (places_of (2 * m) n ys) ≡ gaps ps
  cleared_same = ap gaps mk.seen ∙ cleared_gaps m ps k.gapped go x d hg l e

  cleared_bare : (i : ℕ) → cell_at ps go i ≡ None → cell_at (places_of (2 * m) n ys) go i ≡ None
  cleared_bare i h = ap (λ (qs : Places). cell_at qs go i) mk.seen ∙ cleared_none m ps k.gapped go x d hg l e go i h

  pub taken : cell_at (places_of (2 * m) n ys) go (column x) ≡ None
  taken = ap (λ (qs : Places). cell_at qs go (column x)) mk.seen ∙ front_none m ps k.gapped go x d hg l e

  onto : (pr : Pair) → Moves m ps cs (pair keep go ∷ before) (pr ∷ (pair keep go ∷ before)) → Stands ps pr.left → Stands ps pr.right →
      Moved m n keep go xs before ys (before ++ pr ∷ [])
  onto pr moves hl hr =
      moved_by m n keep go xs ys before (before ++ pr ∷ []) mk.kept mk.gone
      (subst (λ (qs : Places). Moves m ps qs (pair keep go ∷ before) (pair keep go ∷ (before ++ pr ∷ []))) (sym mk.seen) (moves_pushed m ps cs (pair keep go) pr before moves))
      cleared_same cleared_bare
      (λ first st s. all_push (λ (e : Pair). Stands first e.left × Stands first e.right) before pr s (st pr.left hl, st pr.right hr))
      (λ c i b h. inl (cleared_cell m ps k.gapped go x d hg l e c i b (subst (λ (qs : Places). cell_at qs c i ≡ Some b) mk.seen h)))

  pub onto_keep : (there : ℕ) → cell_at (places_of (2 * m) n ys) keep (column x) ≡ Some there → Moved m n keep go xs before ys (before ++ pair there to ∷ [])
  onto_keep there h =
      let lead : Leads cs keep x there = subst (λ (qs : Places). cell_at qs keep (column x) ≡ Some there) mk.seen h in
      let was : Leads ps keep x there = cleared_cell m ps k.gapped go x d hg l e keep (column x) there lead in
      onto (pair there to)
      (move_onto m ps k.gapped go x d hg l e (pair keep go ∷ before) (pair there to) keep there lead
      (λ f j. (j.1.0, j.0 ∙ to_joined f j.1.0))
      (λ f keeps j. keeps keep go there d x l was e j.0 ∙ sym (to_joined f j.0)))
      (k.gapped.there keep (column x) there was) to_stands

  pub onto_to : (there : ℕ) → cell_at (places_of (2 * m) n ys) to (column (neg_ℤ x)) ≡ Some there → Moved m n keep go xs before ys (before ++ pair there keep ∷ [])
  onto_to there h =
      let lead : Leads cs to (neg_ℤ x) there = subst (λ (qs : Places). cell_at qs to (column (neg_ℤ x)) ≡ Some there) mk.seen h in
      let was : Leads ps to (neg_ℤ x) there = cleared_cell m ps k.gapped go x d hg l e to (column (neg_ℤ x)) there lead in
      let front : Leads cs there x to = subst (λ z. Leads cs there z to) (turned_twice x) (cleared_inverse m ps k.gapped go x d hg l e to there (neg_ℤ x) (letter_turned m x l) lead) in
      onto (pair there keep)
      (move_onto m ps k.gapped go x d hg l e (pair keep go ∷ before) (pair there keep) there to front
      (λ f j. (j.0 ∙ j.1.0, to_joined f j.1.0))
      (λ f keeps j. keeps to d there go (neg_ℤ x) (letter_turned m x l) was (k.gapped.inverse go d x l e) (to_joined f j.0) ∙ sym j.0))
      (k.gapped.there to (column (neg_ℤ x)) there was) hk

  module _ (zs : List ℕ) (mz : Makes m n ys zs (fill_at (places_of (2 * m) n ys) keep x to))
      (free : cell_at (places_of (2 * m) n ys) keep (column x) ≡ None) (free_back : cell_at (places_of (2 * m) n ys) to (column (neg_ℤ x)) ≡ None) where
    free_cs : cell_at cs keep (column x) ≡ None
    free_cs = ap (λ (qs : Places). cell_at qs keep (column x)) (sym mk.seen) ∙ free

    back_cs : cell_at cs to (column (neg_ℤ x)) ≡ None
    back_cs = ap (λ (qs : Places). cell_at qs to (column (neg_ℤ x))) (sym mk.seen) ∙ free_back

    seen_zs : places_of (2 * m) n zs ≡ fill_at cs keep x to
    seen_zs = mz.seen ∙ ap (λ (qs : Places). fill_at qs keep x to) mk.seen

    filled_bare : (i : ℕ) → cell_at cs go i ≡ None → cell_at (places_of (2 * m) n zs) go i ≡ None
    filled_bare i h =
        ap (λ (qs : Places). cell_at qs go i) seen_zs
        ∙ elim (which m cs (gapped_cleared m ps k.gapped go x d hg l e) keep x to (cleared_stands m ps k.gapped go x d hg l e keep hk) (cleared_stands m ps k.gapped go x d hg l e to to_stands) l free_cs back_cs go i) [
          | inl s ↦ absurd (to_not_go (sym s.0))
          | inr r ↦ elim r [ inl s ↦ absurd (omega (arith, less, s.0)) | inr same ↦ same ∙ h ]
        ]

    filled_told : (c i b : ℕ) → cell_at (places_of (2 * m) n zs) c i ≡ Some b → (cell_at ps c i ≡ Some b) ⊎ ((c ≡ keep) ⊎ (b ≡ keep))
    filled_told c i b h =
        let sk : Stands cs keep = cleared_stands m ps k.gapped go x d hg l e keep hk in
        let st : Stands cs to = cleared_stands m ps k.gapped go x d hg l e to to_stands in
        let gc : IsGapped m cs = gapped_cleared m ps k.gapped go x d hg l e in
        let now : cell_at (fill_at cs keep x to) c i ≡ Some b = subst (λ (qs : Places). cell_at qs c i ≡ Some b) seen_zs h in
        elim (which m cs gc keep x to sk st l free_cs back_cs c i) [
          | inl s ↦
              let back : cell_at (fill_at cs keep x to) to (column (neg_ℤ x)) ≡ Some keep = at_back m cs gc keep x to sk st l free_cs back_cs in
              let at : cell_at (fill_at cs keep x to) to (column (neg_ℤ x)) ≡ Some b = subst (λ a. cell_at (fill_at cs keep x to) a (column (neg_ℤ x)) ≡ Some b) s.0 (subst (λ j. cell_at (fill_at cs keep x to) c j ≡ Some b) s.1 now) in
              inr (inr (one_some at back))
          | inr r ↦ elim r [
            | inl s ↦ inr (inl s.0)
            | inr same ↦ inl (cleared_cell m ps k.gapped go x d hg l e c i b (sym same ∙ now))
          ]
        ]
      where
        one_some : {o : Option ℕ} {a b : ℕ} → o ≡ Some a → o ≡ Some b → a ≡ b
        one_some e f = cc

    pub free_moved : Moved m n keep go xs before zs before
    free_moved =
        moved_by m n keep go xs zs before before mz.kept
        (λ c out. mz.gone c (λ s. out (cleared_stood m ps k.gapped go x d hg l e c (subst (λ (qs : Places). Stands qs c) mk.seen s))) ∙ mk.gone c out)
        (subst (λ (qs : Places). Moves m ps qs (pair keep go ∷ before) (pair keep go ∷ before)) (sym seen_zs)
        (move_free m ps k.gapped go x d hg l e (pair keep go ∷ before) keep to hk to_stands free_cs back_cs (λ f j. (j.0, to_joined f j.0))))
        (ap gaps seen_zs ∙ (gaps_filled cs keep x to (cleared_stands m ps k.gapped go x d hg l e keep hk) (cleared_stands m ps k.gapped go x d hg l e to to_stands) ∙ cleared_gaps m ps k.gapped go x d hg l e))
        (λ i h. filled_bare i (cleared_none m ps k.gapped go x d hg l e go i h))
        (λ first st s. s)
        filled_told

    pub free_taken : cell_at (places_of (2 * m) n zs) go (column x) ≡ None
    free_taken = filled_bare (column x) (front_none m ps k.gapped go x d hg l e)

-- so many entries of the row are moved
pub record RowMoving (m n keep go i : ℕ) (xs : List ℕ) (before : List Pair) (ys : List ℕ) (after : List Pair) : Type 0 where
  pub moved : Moved m n keep go xs before ys after
  pub done : (j : ℕ) → j < i → cell_at (places_of (2 * m) n ys) go j ≡ None
  pub few : length after ≤ length before + i

pub row_start : (m n keep go : ℕ) (xs : List ℕ) (before : List Pair) → IsKept m n xs → RowMoving m n keep go 0 xs before xs before
row_start m n keep go xs before k = record {
  moved = moved_still m n keep go xs before k;
  done = λ j h. absurd (omega (arith, h));
  few = omega arith;
}

pub row_next : (m n keep go i : ℕ) (x : ℤ) (xs ys zs : List ℕ) (a b c : List Pair) → RowMoving m n keep go i xs a ys b → Moved m n keep go ys b zs c →
    column x ≡ i → cell_at (places_of (2 * m) n zs) go (column x) ≡ None → length c ≤ length b + 1 → RowMoving m n keep go (i + 1) xs a zs c
row_next m n keep go i x xs ys zs a b c r s at taken few = record {
  moved = moved_then m n keep go xs ys zs a b c r.moved s;
  done = λ j h. elim (cases_lt j i) [
    | inl below ↦ s.bare j (r.done j below)
    | inr past ↦ let same : i ≡ j = omega (arith, h, past) in subst (λ j. cell_at (places_of (2 * m) n zs) go j ≡ None) (at ∙ same) taken
  ];
  few = omega (arith, few, r.few);
}

pub row_stands : (m n keep go i : ℕ) (xs ys : List ℕ) (a b : List Pair) → RowMoving m n keep go i xs a ys b → (c : ℕ) → Stands (places_of (2 * m) n xs) c → Stands (places_of (2 * m) n ys) c
row_stands m n keep go i xs ys a b r c h = stands_same (places_of (2 * m) n xs) (places_of (2 * m) n ys) (sym r.moved.gaps_same) c h

pub row_bare : (m n keep go i : ℕ) (xs ys : List ℕ) (a b : List Pair) → RowMoving m n keep go i xs a ys b → 2 * m ≤ i → Stands (places_of (2 * m) n xs) go → (j : ℕ) → cell_at (places_of (2 * m) n ys) go j ≡ None
row_bare m n keep go i xs ys a b r e h j =
    elim (cases_lt j i) [
      | inl below ↦ r.done j below
      | inr past ↦ get_or_past (row_at (places_of (2 * m) n ys) go) j None (omega (arith, past, e, r.moved.kept.gapped.width go (row_stands m n keep go i xs ys a b r go h)))
    ]

-- the row goes
pub merge_leads : (m n keep go : ℕ) (xs ys zs : List ℕ) (before after : List Pair) → Stands (places_of (2 * m) n xs) keep → Stands (places_of (2 * m) n xs) go → keep < go →
    Moved m n keep go xs before ys after → ((i : ℕ) → cell_at (places_of (2 * m) n ys) go i ≡ None) → Makes m n ys zs (without (places_of (2 * m) n ys) go) → went_of (2 * m) zs go ≡ keep →
    LeadsOn m n xs (pair keep go ∷ before) zs after
merge_leads m n keep go xs ys zs before after hk hg less s bare mk to first p q k =
    let ps : Places = places_of (2 * m) n ys in
    let c : IsCollapse m n first p q (pair keep go ∷ after) ys = s.collapse first p q k in
    let sk : Stands ps keep = stands_same (places_of (2 * m) n xs) ps (sym s.gaps_same) keep hk in
    let sg : Stands ps go = stands_same (places_of (2 * m) n xs) ps (sym s.gaps_same) go hg in
    record {
      kept = mk.kept;
      count = c.count;
      collapsing = subst (λ (qs : Places). Collapsing m first qs p q (went_of (2 * m) zs) after) (sym mk.seen)
          (collapse_goes m first ps p q keep go (went_of (2 * m) ys) (went_of (2 * m) zs) after c.collapsing sg sk less bare (unled m n ys s.kept keep go sg less bare) to (λ a st out. mk.gone a out));
      pairs_stood = c.pairs_stood.1;
    }

row_off : (s t w a b : ℕ) → suc s ≡ t → a ≤ b + w → s * w + a ≤ t * w + b
row_off s t w a b e h = subst (λ t. s * w + a ≤ t * w + b) e (omega (arith, h))

pub merge_less : (m n keep go : ℕ) (xs ys zs : List ℕ) (before after : List Pair) → Stands (places_of (2 * m) n xs) go → Moved m n keep go xs before ys after →
    Makes m n ys zs (without (places_of (2 * m) n ys) go) → length after ≤ length before + 2 * m → left_to_do m n zs after ≤ left_to_do m n xs before
merge_less m n keep go xs ys zs before after hg s mk few =
    row_off (length (standing (places_of (2 * m) n zs))) (length (standing (places_of (2 * m) n xs))) (2 * m) (length after) (length before)
    (ap (λ (qs : Places). suc (length (standing qs))) mk.seen
    ∙ (standing_without (places_of (2 * m) n ys) go (stands_same (places_of (2 * m) n xs) (places_of (2 * m) n ys) (sym s.gaps_same) go hg)
    ∙ standing_same (places_of (2 * m) n ys) (places_of (2 * m) n xs) s.gaps_same))
    few

-- the pairs are told otherwise
collapse_told : (m n : ℕ) (xs : List ℕ) (before after : List Pair) → ((f : ℕ → ℕ) → JoinPairs f before → JoinPairs f after) → ((f : ℕ → ℕ) → JoinPairs f after → JoinPairs f before) →
    ((first : Places) → Stood first before → Stood first after) → LeadsOn m n xs before xs after
collapse_told m n xs before after there back stood first p q k = record {
  kept = k.kept;
  count = k.count;
  collapsing = collapse_alike m first (places_of (2 * m) n xs) p q (went_of (2 * m) xs) (went_of (2 * m) xs) before after k.collapsing there back (λ c s out. refl);
  pairs_stood = stood first k.pairs_stood;
}

-- what `find` answers
abbrev pub Found_for : ℕ → ℕ → List ℕ → ℕ → ℕ → Type 0
Found_for m n xs place row = (first : Places) (p q : ℕ) (pairs : List Pair) (f : ℕ → ℕ) → IsCollapse m n first p q pairs xs → Stands first place →
    JoinsGone first (places_of (2 * m) n xs) (went_of (2 * m) xs) f → f row ≡ f place

pub found_leads : (m n : ℕ) (xs : List ℕ) (pr : Pair) (pairs : List Pair) (left right : ℕ) → Stands (places_of (2 * m) n xs) left → Stands (places_of (2 * m) n xs) right →
    Found_for m n xs pr.left left → Found_for m n xs pr.right right → LeadsOn m n xs (pr ∷ pairs) xs (pair left right ∷ pairs)
found_leads m n xs pr pairs left right hl hr fl fr first p q k = record {
  kept = k.kept;
  count = k.count;
  collapsing = collapse_found m first (places_of (2 * m) n xs) p q pr.left pr.right left right (went_of (2 * m) xs) pairs
      (collapse_alike m first (places_of (2 * m) n xs) p q (went_of (2 * m) xs) (went_of (2 * m) xs) (pr ∷ pairs) (pair pr.left pr.right ∷ pairs) k.collapsing (λ f j. j) (λ f j. j) (λ c s out. refl))
      (λ f j. (fl first p q (pr ∷ pairs) f k k.pairs_stood.0.0 j, fr first p q (pr ∷ pairs) f k k.pairs_stood.0.1 j));
  pairs_stood = ((k.collapsing.stood left hl, k.collapsing.stood right hr), k.pairs_stood.1);
}

pub turned_leads : (m n : ℕ) (xs : List ℕ) (left right : ℕ) (pairs : List Pair) → LeadsOn m n xs (pair left right ∷ pairs) xs (pair right left ∷ pairs)
turned_leads m n xs left right pairs =
    collapse_told m n xs (pair left right ∷ pairs) (pair right left ∷ pairs) (λ f j. (sym j.0, j.1)) (λ f j. (sym j.0, j.1)) (λ first s. ((s.0.1, s.0.0), s.1))

pub same_leads : (m n : ℕ) (xs : List ℕ) (left right : ℕ) (pairs : List Pair) → left ≡ right → LeadsOn m n xs (pair left right ∷ pairs) xs pairs
same_leads m n xs left right pairs e =
    collapse_told m n xs (pair left right ∷ pairs) pairs (λ f j. j.1) (λ f j. (ap f e, j)) (λ first s. s.1)

pub leads_then : (m n : ℕ) (xs ys zs : List ℕ) (a b c : List Pair) → LeadsOn m n xs a ys b → LeadsOn m n ys b zs c → LeadsOn m n xs a zs c
leads_then m n xs ys zs a b c s t first p q k = t first p q (s first p q k)

-- the last pair of the list is taken off
pub popped_leads : (m n : ℕ) (xs : List ℕ) (pr : Pair) (all rest : List Pair) → all ≡ rest ++ pr ∷ [] → LeadsOn m n xs all xs (pr ∷ rest)
popped_leads m n xs pr all rest e =
    subst (λ (all : List Pair). LeadsOn m n xs all xs (pr ∷ rest)) (sym e)
    (collapse_told m n xs (rest ++ pr ∷ []) (pr ∷ rest)
    (λ f j. flip (all_pushed (λ (e : Pair). f e.left ≡ f e.right) rest pr j))
    (λ f j. all_push (λ (e : Pair). f e.left ≡ f e.right) rest pr j.1 j.0)
    (λ first s. flip (all_pushed (λ (e : Pair). Stands first e.left × Stands first e.right) rest pr s)))
  where
    flip : {A B : Type 0} → A × B → B × A
    flip h = (h.1, h.0)

pub some_led : (m n : ℕ) (xs ys : List ℕ) (a b : List Pair) → LeadsOn m n xs a ys b → SomeCollapse m n a xs → SomeCollapse m n b ys
some_led m n xs ys a b h (first, p, q, k) = (first, p, q, h first p q k)

pub none_left : (pairs : List Pair) → length pairs ≡ 0 → pairs ≡ []
none_left [] e = refl
none_left (pr ∷ pairs) e = absurd (omega (arith, e))

-- the whole collapse
pub first_collapse : (m n p q : ℕ) (xs : List ℕ) → IsKept m n xs → Stands (places_of (2 * m) n xs) p → Stands (places_of (2 * m) n xs) q → IsCollapse m n (places_of (2 * m) n xs) p q (pair p q ∷ []) xs
first_collapse m n p q xs k hp hq = record {
  kept = k;
  count = places_length (2 * m) n xs;
  collapsing = collapse_start m (places_of (2 * m) n xs) p q (went_of (2 * m) xs) k.gapped;
  pairs_stood = ((hp, hq), tt);
}

-- what a call of `join` makes of a table
pub record JoinMade (m n p q : ℕ) (ys : List ℕ) (v : Gapped) (rows : List ℕ) : Type 0 where
  pub kept : IsKept m n ys
  pub joined : Joins v.generators (packed v.places) (number v.places p) (number v.places q) (packed (places_of (2 * m) n ys))
  pub count : length (places_of (2 * m) n ys) ≡ length v.places
  pub changes : Changes v.generators v.places (places_of (2 * m) n ys) rows
  pub stood : (c : ℕ) → Stands (places_of (2 * m) n ys) c → Stands v.places c
  pub fewer : (p ≢ q) → length (packed (places_of (2 * m) n ys)) < length (packed v.places)

pub whole_collapse : (m n p q : ℕ) (xs ys rows after : List ℕ) (v : Gapped) → seen m n xs ≡ v → IsKept m n xs → Stands v.places p → Stands v.places q → LeadsOn m n xs (pair p q ∷ []) ys [] → Touched m n xs ys rows after →
    JoinMade m n p q ys v after
whole_collapse m n p q xs ys rows after v s k =
    subst (λ (v : Gapped). Stands v.places p → Stands v.places q → LeadsOn m n xs (pair p q ∷ []) ys [] → Touched m n xs ys rows after → JoinMade m n p q ys v after) s (λ hp hq h t.
    let old : Places = places_of (2 * m) n xs in
    let new : Places = places_of (2 * m) n ys in
    let c : IsCollapse m n old p q [] ys = h old p q (first_collapse m n p q xs k hp hq) in
    record {
      kept = c.kept;
      joined = collapse_joins m old new p q (went_of (2 * m) ys) k.gapped hp hq c.collapsing;
      count = places_length (2 * m) n ys ∙ sym (places_length (2 * m) n xs);
      changes = record {
        stood = λ a st. inl (c.collapsing.stood a st);
        kept = λ a d x l st e. collapse_keeps m old new p q (went_of (2 * m) ys) k.gapped hp hq c.collapsing a d x l st e;
        told = t.told;
      };
      stood = c.collapsing.stood;
      fewer = collapse_fewer m old new p q (went_of (2 * m) ys) k.gapped hp hq c.collapsing (places_length (2 * m) n xs ∙ sym (places_length (2 * m) n ys));
    })

pub some_first : (m n p q : ℕ) (xs : List ℕ) (v : Gapped) → seen m n xs ≡ v → IsKept m n xs → Stands v.places p → Stands v.places q → SomeCollapse m n (pair p q ∷ []) xs
some_first m n p q xs v s k =
    subst (λ (v : Gapped). Stands v.places p → Stands v.places q → SomeCollapse m n (pair p q ∷ []) xs) s (λ hp hq.
    (places_of (2 * m) n xs, p, q, first_collapse m n p q xs k hp hq))

pub join_makes : (m n p q len : ℕ) (xs zs ys rest rows after : List ℕ) (a b : List Pair) (v : Gapped) → seen m n xs ≡ v → IsKept m n xs → Stands v.places p → Stands v.places q →
    zs ≡ xs → a ≡ [] → b ≡ a ++ pair p q ∷ [] → LeadsOn m n zs b ys [] → Touched m n zs ys rows after → length ys ≡ len → JoinMade m n p q (take len (ys ++ rest)) v after
join_makes m n p q len xs zs ys rest rows after a b v s k hp hq e ea eb h t long =
    let same : b ≡ pair p q ∷ [] = eb ∙ ap (λ (ps : List Pair). ps ++ pair p q ∷ []) ea in
    let led : LeadsOn m n xs (pair p q ∷ []) ys [] =
    subst (λ (zs : List ℕ). LeadsOn m n zs (pair p q ∷ []) ys []) e (subst (λ (b : List Pair). LeadsOn m n zs b ys []) same h) in
    let told : Touched m n xs ys rows after = subst (λ (zs : List ℕ). Touched m n zs ys rows after) e t in
    let back : take len (ys ++ rest) ≡ ys = take-append-le len ys rest (omega (arith, long)) ∙ take_all len ys (omega (arith, long)) in
    subst (λ (zs : List ℕ). JoinMade m n p q zs v after) (sym back) (whole_collapse m n p q xs ys rows after v s k hp hq led told)

-- what is put on the list
pub in_pushed : (c x : ℕ) (xs : List ℕ) → In c xs → In c (xs ++ x ∷ [])
in_pushed c x [] h = elim h [ ]
in_pushed c x (y ∷ xs) (inl e) = inl e
in_pushed c x (y ∷ xs) (inr h) = inr (in_pushed c x xs h)

pub in_last : (x : ℕ) (xs : List ℕ) → In x (xs ++ x ∷ [])
in_last x [] = inl refl
in_last x (y ∷ xs) = inr (in_last x xs)

pub touched_same : (m n : ℕ) (xs rows : List ℕ) → Touched m n xs xs rows rows
touched_same m n xs rows = record { more = λ c h. h; told = λ c i d e. inl e }

pub touched_then : (m n : ℕ) (xs ys zs a b c : List ℕ) → Touched m n xs ys a b → Touched m n ys zs b c → Touched m n xs zs a c
touched_then m n xs ys zs a b c s t = record {
  more = λ e h. t.more e (s.more e h);
  told = λ e i d h. elim (t.told e i d h) [
    | inl mid ↦ elim (s.told e i d mid) [
      | inl old ↦ inl old
      | inr at ↦ elim at [ inl f ↦ inr (inl (t.more e f)) | inr f ↦ inr (inr (t.more d f)) ]
    ]
    | inr at ↦ inr at
  ];
}

pub merge_touched : (m n keep go : ℕ) (xs ys zs rows after : List ℕ) (before pairs : List Pair) → Stands (places_of (2 * m) n xs) go → Moved m n keep go xs before ys pairs →
    Makes m n ys zs (without (places_of (2 * m) n ys) go) → after ≡ rows ++ keep ∷ [] → Touched m n xs zs rows after
merge_touched m n keep go xs ys zs rows after before pairs hg s mk e =
    subst (λ (after : List ℕ). Touched m n xs zs rows after) (sym e) (record {
      more = λ c h. in_pushed c keep rows h;
      told = λ c i d h.
          let sg : Stands (places_of (2 * m) n ys) go = stands_same (places_of (2 * m) n xs) (places_of (2 * m) n ys) (sym s.gaps_same) go hg in
          let mid : cell_at (places_of (2 * m) n ys) c i ≡ Some d = without_cell (places_of (2 * m) n ys) go sg c i d (subst (λ (qs : Places). cell_at qs c i ≡ Some d) mk.seen h) in
          elim (s.told c i d mid) [
            | inl old ↦ inl old
            | inr at ↦ elim at [
              | inl f ↦ inr (inl (subst (λ a. In a (rows ++ keep ∷ [])) (sym f) (in_last keep rows)))
              | inr f ↦ inr (inr (subst (λ a. In a (rows ++ keep ∷ [])) (sym f) (in_last keep rows)))
            ]
          ];
    })
