-- An entry and its inverse are taken away.
use Rattle.std.proofs.Common.{◌≡◌, ℕ, ℤ, List, ◌∷◌, length, get_or, set, Option, Some, None, refl, sym, ap, subst, ◌∙◌, ◌⊎◌, inl, inr, arith}
use Rattle.std.specs.Prelude.{IsSome, neg_ℤ}
use Rattle.std.proofs.lemmas.Bool.{cases_eq, cases_lt}
use Rattle.std.proofs.lemmas.List.{get_or-set_same, get_or-set_other, length-set, get_or_past}
use Rattle.mg_words.specs.Letter.{IsLetterOf}
use Rattle.mg_tables.specs.Table.{Row, column}
use Rattle.mg_tables.specs.Gaps.{Places, Stands, gaps, row_or_none, cell_at, row_at, fill_at, empty_at, cleared, IsGapped}
use Rattle.mg_tables.proofs.Gaps.{stands_below, gaps_set}
use Rattle.mg_tables.proofs.Filling.{at_front, at_back, which, gapped_filled, fill_stands, fill_unstands, column_apart, letter_turned, turned_twice}
use Rattle.mg_tables.specs.Collapse.{Leads, Keeps}
use Rattle.mg_tables.specs.declared.join.Pair.{Pair}
use Rattle.mg_tables.proofs.Moving.{JoinPairs, Moves}

empty_same : (ps : Places) (c i : ℕ) → Stands ps c → cell_at (empty_at ps c i) c i ≡ None
empty_same ps c i h =
    ap (λ (o : Option Row). get_or (row_or_none o) i None) (get_or-set_same ps c (Some (set (row_at ps c) i None)) None (stands_below ps c h))
    ∙ elim (cases_lt i (length (row_at ps c))) [
      | inl below ↦ get_or-set_same (row_at ps c) i None None below
      | inr past ↦ get_or_past (set (row_at ps c) i None) i None (omega (arith, past, length-set (row_at ps c) i None))
    ]

empty_other : (ps : Places) (c i e j : ℕ) → Stands ps c → (e ≡ c → j ≡ i → ⊥) → cell_at (empty_at ps c i) e j ≡ cell_at ps e j
empty_other ps c i e j h apart =
    elim (cases_eq e c) [
      | inl same ↦
          subst (λ k. cell_at (empty_at ps c i) k j ≡ cell_at ps k j) (sym same)
          (ap (λ (o : Option Row). get_or (row_or_none o) j None) (get_or-set_same ps c (Some (set (row_at ps c) i None)) None (stands_below ps c h))
          ∙ get_or-set_other (row_at ps c) i j None None (apart same))
      | inr ne ↦ ap (λ (o : Option Row). get_or (row_or_none o) j None) (get_or-set_other ps c e (Some (set (row_at ps c) i None)) None ne)
    ]

empty_row_at : (ps : Places) (c i e : ℕ) → Stands ps c → length (row_at (empty_at ps c i) e) ≡ length (row_at ps e)
empty_row_at ps c i e h =
    elim (cases_eq e c) [
      | inl same ↦
          subst (λ k. length (row_at (empty_at ps c i) k) ≡ length (row_at ps k)) (sym same)
          (ap (λ (o : Option Row). length (row_or_none o)) (get_or-set_same ps c (Some (set (row_at ps c) i None)) None (stands_below ps c h))
          ∙ length-set (row_at ps c) i None)
      | inr ne ↦ ap (λ (o : Option Row). length (row_or_none o)) (get_or-set_other ps c e (Some (set (row_at ps c) i None)) None ne)
    ]

pub empty_stands : (ps : Places) (c i e : ℕ) → Stands ps c → Stands ps e → Stands (empty_at ps c i) e
empty_stands ps c i e h k =
    elim (cases_eq e c) [
      | inl same ↦ subst (λ a. Stands (empty_at ps c i) a) (sym same) (subst (λ (o : Option Row). IsSome o) (sym (get_or-set_same ps c (Some (set (row_at ps c) i None)) None (stands_below ps c h))) refl)
      | inr ne ↦ subst (λ (o : Option Row). IsSome o) (sym (get_or-set_other ps c e (Some (set (row_at ps c) i None)) None ne)) k
    ]

pub empty_unstands : (ps : Places) (c i e : ℕ) → Stands ps c → Stands (empty_at ps c i) e → Stands ps e
empty_unstands ps c i e h k =
    elim (cases_eq e c) [
      | inl same ↦ subst (Stands ps) (sym same) h
      | inr ne ↦ subst (λ (o : Option Row). IsSome o) (get_or-set_other ps c e (Some (set (row_at ps c) i None)) None ne) k
    ]

never : {P : Type 0} {o : Option ℕ} {a : ℕ} → o ≡ None → o ≡ Some a → P
never e f = absurd cc

some_is : {o : Option ℕ} {a b : ℕ} → o ≡ Some a → o ≡ Some b → a ≡ b
some_is e f = cc

module _ (m : ℕ) (ps : Places) (g : IsGapped m ps) (go : ℕ) (x : ℤ) (d : ℕ) (hg : Stands ps go) (l : IsLetterOf m x) (e : Leads ps go x d) where
  d_stands : Stands ps d
  d_stands = g.there go (column x) d e

  mid_d : Stands (empty_at ps go (column x)) d
  mid_d = empty_stands ps go (column x) d hg d_stands

  pub cleared_stands : (c : ℕ) → Stands ps c → Stands (cleared ps go x d) c
  cleared_stands c h = empty_stands (empty_at ps go (column x)) d (column (neg_ℤ x)) c mid_d (empty_stands ps go (column x) c hg h)

  pub cleared_stood : (c : ℕ) → Stands (cleared ps go x d) c → Stands ps c
  cleared_stood c h = empty_unstands ps go (column x) c hg (empty_unstands (empty_at ps go (column x)) d (column (neg_ℤ x)) c mid_d h)

  -- an entry is one of the two, which are away, or an old one
  pub cleared_which : (c j : ℕ) → (((c ≡ d) × (j ≡ column (neg_ℤ x))) × (cell_at (cleared ps go x d) c j ≡ None)) ⊎ ((((c ≡ go) × (j ≡ column x)) × (cell_at (cleared ps go x d) c j ≡ None)) ⊎ (cell_at (cleared ps go x d) c j ≡ cell_at ps c j))
  cleared_which c j =
      elim (both c j d (column (neg_ℤ x))) [
        | inl k ↦ inl (
          k,
          subst (λ a. cell_at (cleared ps go x d) a j ≡ None) (sym k.0) (subst (λ b. cell_at (cleared ps go x d) d b ≡ None) (sym k.1)
              (empty_same (empty_at ps go (column x)) d (column (neg_ℤ x)) mid_d)),
        )
        | inr ne ↦
            let other : cell_at (cleared ps go x d) c j ≡ cell_at (empty_at ps go (column x)) c j = empty_other (empty_at ps go (column x)) d (column (neg_ℤ x)) c j mid_d ne in
            elim (both c j go (column x)) [
              | inl k ↦ inr (inl (k, other ∙ subst (λ a. cell_at (empty_at ps go (column x)) a j ≡ None) (sym k.0) (subst (λ b. cell_at (empty_at ps go (column x)) go b ≡ None) (sym k.1) (empty_same ps go (column x) hg))))
              | inr nf ↦ inr (inr (other ∙ empty_other ps go (column x) c j hg nf))
            ]
      ]
    where
      both : (c j a b : ℕ) → ((c ≡ a) × (j ≡ b)) ⊎ (c ≡ a → j ≡ b → ⊥)
      both c j a b = elim (cases_eq c a) [
        | inl e ↦ elim (cases_eq j b) [ inl f ↦ inl (e, f) | inr nf ↦ inr (λ h k. nf k) ]
        | inr ne ↦ inr (λ h k. ne h)
      ]

  -- what is there was there
  pub cleared_cell : (c j b : ℕ) → cell_at (cleared ps go x d) c j ≡ Some b → cell_at ps c j ≡ Some b
  cleared_cell c j b h = elim (cleared_which c j) [
    | inl k ↦ never k.1 h
    | inr r ↦ elim r [ inl k ↦ never k.1 h | inr same ↦ sym same ∙ h ]
  ]

  -- what was there is there, or is one of the two
  pub was_there : (a b : ℕ) (y : ℤ) → IsLetterOf m y → Leads ps a y b → (((a ≡ d) × (y ≡ neg_ℤ x)) × (b ≡ go)) ⊎ ((((a ≡ go) × (y ≡ x)) × (b ≡ d)) ⊎ Leads (cleared ps go x d) a y b)
  was_there a b y ly h =
      elim (cleared_which a (column y)) [
        | inl k ↦
            let same : y ≡ neg_ℤ x = column_apart m y (neg_ℤ x) ly (letter_turned m x l) k.0.1 in
            let at : cell_at ps d (column (neg_ℤ x)) ≡ Some b = subst (λ c. cell_at ps c (column (neg_ℤ x)) ≡ Some b) k.0.0 (subst (λ j. cell_at ps a j ≡ Some b) k.0.1 h) in
            inl ((k.0.0, same), some_is at (g.inverse go d x l e))
        | inr r ↦ elim r [
          | inl k ↦
              let same : y ≡ x = column_apart m y x ly l k.0.1 in
              let at : cell_at ps go (column x) ≡ Some b = subst (λ c. cell_at ps c (column x) ≡ Some b) k.0.0 (subst (λ j. cell_at ps a j ≡ Some b) k.0.1 h) in
              inr (inl ((k.0.0, same), some_is at e))
          | inr kept ↦ inr (inr (kept ∙ h))
        ]
      ]

  -- the entry is away
  pub front_none : cell_at (cleared ps go x d) go (column x) ≡ None
  front_none = elim (cases_eq go d) [
    | inl s ↦ elim (cases_eq (column x) (column (neg_ℤ x))) [
      | inl t ↦ subst (λ c. cell_at (cleared ps go x d) c (column x) ≡ None) (sym s) (subst (λ j. cell_at (cleared ps go x d) d j ≡ None) (sym t) (empty_same (empty_at ps go (column x)) d (column (neg_ℤ x)) mid_d))
      | inr n ↦ empty_other (empty_at ps go (column x)) d (column (neg_ℤ x)) go (column x) mid_d (λ h k. n k) ∙ empty_same ps go (column x) hg
    ]
    | inr n ↦ empty_other (empty_at ps go (column x)) d (column (neg_ℤ x)) go (column x) mid_d (λ h k. n h) ∙ empty_same ps go (column x) hg
  ]

  -- an empty entry stays empty
  pub cleared_none : (c j : ℕ) → cell_at ps c j ≡ None → cell_at (cleared ps go x d) c j ≡ None
  cleared_none c j h = elim (cleared_which c j) [
    | inl k ↦ k.1
    | inr r ↦ elim r [ inl k ↦ k.1 | inr same ↦ same ∙ h ]
  ]

  pub cleared_gaps : gaps (cleared ps go x d) ≡ gaps ps
  cleared_gaps =
      gaps_set (empty_at ps go (column x)) d (set (row_at (empty_at ps go (column x)) d) (column (neg_ℤ x)) None) mid_d
      ∙ gaps_set ps go (set (row_at ps go) (column x) None) hg

  pub cleared_inverse : (a b : ℕ) (y : ℤ) → IsLetterOf m y → Leads (cleared ps go x d) a y b → Leads (cleared ps go x d) b (neg_ℤ y) a
  cleared_inverse a b y ly h =
      let old : Leads ps b (neg_ℤ y) a = g.inverse a b y ly (cleared_cell a (column y) b h) in
      elim (was_there b a (neg_ℤ y) (letter_turned m y ly) old) [
        | inl k ↦
            let same : y ≡ x = sym (turned_twice y) ∙ (ap neg_ℤ k.0.1 ∙ turned_twice x) in
            gone_front a b y (k.1) same h
        | inr r ↦ elim r [
          | inl k ↦
              let same : y ≡ neg_ℤ x = sym (turned_twice y) ∙ ap neg_ℤ k.0.1 in
              gone_back a b y k.1 same h
          | inr kept ↦ kept
        ]
      ]
    where
      gone_front : {P : Type 0} → (a b : ℕ) (y : ℤ) → a ≡ go → y ≡ x → Leads (cleared ps go x d) a y b → P
      gone_front a b y ea ey h =
          let at : cell_at (cleared ps go x d) go (column x) ≡ Some b = subst (λ c. cell_at (cleared ps go x d) c (column x) ≡ Some b) ea (subst (λ z. Leads (cleared ps go x d) a z b) ey h) in
          elim (cleared_which go (column x)) [
            | inl k ↦ never k.1 at
            | inr r ↦ elim r [ inl k ↦ never k.1 at | inr kept ↦ never (front_none) at ]
          ]

      gone_back : {P : Type 0} → (a b : ℕ) (y : ℤ) → a ≡ d → y ≡ neg_ℤ x → Leads (cleared ps go x d) a y b → P
      gone_back a b y ea ey h =
          never (empty_same (empty_at ps go (column x)) d (column (neg_ℤ x)) mid_d)
          (subst (λ c. cell_at (cleared ps go x d) c (column (neg_ℤ x)) ≡ Some b) ea (subst (λ z. Leads (cleared ps go x d) a z b) ey h))

  pub gapped_cleared : IsGapped m (cleared ps go x d)
  gapped_cleared = record {
    first = cleared_stands 0 g.first;
    width = λ c h. empty_row_at (empty_at ps go (column x)) d (column (neg_ℤ x)) c mid_d ∙ (empty_row_at ps go (column x) c hg ∙ g.width c (cleared_stood c h));
    there = λ c i b h. cleared_stands b (g.there c i b (cleared_cell c i b h));
    inverse = λ c b y ly h. cleared_inverse c b y ly h;
  }

  -- the entry falls together with one that is there
  pub move_onto : (before : List Pair) (pair : Pair) (k to : ℕ) → Leads (cleared ps go x d) k x to →
      ((f : ℕ → ℕ) → JoinPairs f (pair ∷ before) → (f k ≡ f go) × (f to ≡ f d)) →
      ((f : ℕ → ℕ) → Keeps m ps f → JoinPairs f before → f pair.left ≡ f pair.right) →
      Moves m ps (cleared ps go x d) before (pair ∷ before)
  move_onto before pair k to there alike joined = record {
    gapped = gapped_cleared;
    kept = cleared_stands;
    stood = cleared_stood;
    more = λ f j. j.1;
    least = λ f keeps j. (joined f keeps j, j);
    back = λ f keeps j a b y ly h. record { c = a; d = b; leads = cleared_cell a (column y) b h; from = refl; to = refl };
    forth = λ f j a b y ly h. elim (was_there a b y ly h) [
      | inl s ↦
          record {
            c = to;
            d = k;
            leads = subst (λ z. Leads (cleared ps go x d) to z k) (sym s.0.1) (cleared_inverse k to x l there);
            from = (alike f j).1 ∙ ap f (sym s.0.0);
            to = (alike f j).0 ∙ ap f (sym s.1);
          }
      | inr r ↦ elim r [
        | inl s ↦
            record {
              c = k;
              d = to;
              leads = subst (λ z. Leads (cleared ps go x d) k z to) (sym s.0.1) there;
              from = (alike f j).0 ∙ ap f (sym s.0.0);
              to = (alike f j).1 ∙ ap f (sym s.1);
            }
        | inr stays ↦ record { c = a; d = b; leads = stays; from = refl; to = refl }
      ]
    ];
  }

  -- the entry is moved to where none is
  pub move_free : (before : List Pair) (keep to : ℕ) → Stands ps keep → Stands ps to →
      cell_at (cleared ps go x d) keep (column x) ≡ None → cell_at (cleared ps go x d) to (column (neg_ℤ x)) ≡ None →
      ((f : ℕ → ℕ) → JoinPairs f before → (f keep ≡ f go) × (f to ≡ f d)) →
      Moves m ps (fill_at (cleared ps go x d) keep x to) before before
  move_free before keep to hk ht free free_back alike =
      let cs : Places = cleared ps go x d in
      let sk : Stands cs keep = cleared_stands keep hk in
      let st : Stands cs to = cleared_stands to ht in
      let front : Leads (fill_at cs keep x to) keep x to = at_front m cs gapped_cleared keep x to sk st l free free_back in
      let back : Leads (fill_at cs keep x to) to (neg_ℤ x) keep = at_back m cs gapped_cleared keep x to sk st l free free_back in
      record {
        gapped = gapped_filled m cs gapped_cleared keep x to sk st l free free_back;
        kept = λ c h. fill_stands m cs gapped_cleared keep x to sk st l free free_back c (cleared_stands c h);
        stood = λ c h. cleared_stood c (fill_unstands m cs gapped_cleared keep x to sk st l free free_back c h);
        more = λ f j. j;
        least = λ f keeps j. j;
        back = λ f keeps j a b y ly h. elim (which m cs gapped_cleared keep x to sk st l free free_back a (column y)) [
          | inl s ↦
              let same : y ≡ neg_ℤ x = column_apart m y (neg_ℤ x) ly (letter_turned m x l) s.1 in
              let at : Leads (fill_at cs keep x to) to (neg_ℤ x) b = subst (λ c. cell_at (fill_at cs keep x to) c (column (neg_ℤ x)) ≡ Some b) s.0 (subst (λ i. cell_at (fill_at cs keep x to) a i ≡ Some b) s.1 h) in
              record {
                c = d;
                d = go;
                leads = subst (λ z. Leads ps d z go) (sym same) (g.inverse go d x l e);
                from = sym (alike f j).1 ∙ ap f (sym s.0);
                to = sym (alike f j).0 ∙ ap f (some_is back at);
              }
          | inr r ↦ elim r [
            | inl s ↦
                let same : y ≡ x = column_apart m y x ly l s.1 in
                let at : Leads (fill_at cs keep x to) keep x b = subst (λ c. cell_at (fill_at cs keep x to) c (column x) ≡ Some b) s.0 (subst (λ i. cell_at (fill_at cs keep x to) a i ≡ Some b) s.1 h) in
                record {
                  c = go;
                  d = d;
                  leads = subst (λ z. Leads ps go z d) (sym same) e;
                  from = sym (alike f j).0 ∙ ap f (sym s.0);
                  to = sym (alike f j).1 ∙ ap f (some_is front at);
                }
            | inr same ↦ record { c = a; d = b; leads = cleared_cell a (column y) b (sym same ∙ h); from = refl; to = refl }
          ]
        ];
        forth = λ f j a b y ly h. elim (was_there a b y ly h) [
          | inl s ↦
              record {
                c = to;
                d = keep;
                leads = subst (λ z. Leads (fill_at cs keep x to) to z keep) (sym s.0.1) back;
                from = (alike f j).1 ∙ ap f (sym s.0.0);
                to = (alike f j).0 ∙ ap f (sym s.1);
              }
          | inr r ↦ elim r [
            | inl s ↦
                record {
                  c = keep;
                  d = to;
                  leads = subst (λ z. Leads (fill_at cs keep x to) keep z to) (sym s.0.1) front;
                  from = (alike f j).0 ∙ ap f (sym s.0.0);
                  to = (alike f j).1 ∙ ap f (sym s.1);
                }
            | inr stays ↦ elim (which m cs gapped_cleared keep x to sk st l free free_back a (column y)) [
              | inl s ↦ never free_back (subst (λ c. cell_at cs c (column (neg_ℤ x)) ≡ Some b) s.0 (subst (λ i. cell_at cs a i ≡ Some b) s.1 stays))
              | inr t ↦ elim t [
                | inl s ↦ never free (subst (λ c. cell_at cs c (column x) ≡ Some b) s.0 (subst (λ i. cell_at cs a i ≡ Some b) s.1 stays))
                | inr same ↦ record { c = a; d = b; leads = same ∙ stays; from = refl; to = refl }
              ]
            ]
          ]
        ];
      }
