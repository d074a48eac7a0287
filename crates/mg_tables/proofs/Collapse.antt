-- A collapse: rows are joined one after another, and each that goes keeps the place of the one it went to.
use Rattle.std.proofs.Common.{◌≡◌, ℕ, zero, suc, ◌<◌, ◌≤◌, ℤ, List, [], ◌∷◌, length, get_or, false, cond, Option, Some, None, refl, sym, ap, subst, ◌∙◌, inl, inr, arith}
use Rattle.std.specs.Prelude.{IsSome, is_some}
use Rattle.std.specs.Option.{option_map}
use Rattle.std.proofs.lemmas.Bool.{cases_eq, cases_lt, cases_Bool, false≢true, cond-true, cond-false}
use Rattle.mg_words.specs.Letter.{IsLetterOf}
use Rattle.mg_tables.specs.Table.{Row, column, entry}
use Rattle.mg_tables.specs.Joining.{IsKept, IsLeast, Joins}
use Rattle.mg_tables.specs.Gaps.{Places, Stands, number, standing, packed, row_or_none, cell_at, IsGapped}
use Rattle.mg_tables.specs.Collapse.{Leads, Keeps, Like, JoinsAll, Collapsing}
use Rattle.mg_tables.proofs.Gaps.{place_of, number_apart, packed_length, packed_cell, packed_below}
use Rattle.mg_tables.proofs.Filling.{packed_is_table, Found, found_places}

-- the place of the row with a number
abbrev pub nth : Places → ℕ → ℕ
nth [] r = 0
nth (None ∷ ps) r = suc (nth ps r)
nth (Some s ∷ ps) zero = 0
nth (Some s ∷ ps) (suc r) = suc (nth ps r)

pub nth_number : (ps : Places) (c : ℕ) → Stands ps c → nth ps (number ps c) ≡ c
nth_number [] c h = absurd (false≢true h)
nth_number (None ∷ ps) zero h = absurd (false≢true h)
nth_number (Some s ∷ ps) zero h = refl
nth_number (None ∷ ps) (suc c) h = ap suc (nth_number ps c h)
nth_number (Some s ∷ ps) (suc c) h = ap suc (nth_number ps c h)

pub nth_stands : (ps : Places) (r : ℕ) → r < length (packed ps) → Stands ps (nth ps r) × (number ps (nth ps r) ≡ r)
nth_stands ps r h =
    let e : length (packed ps) ≡ length (standing ps) = packed_length ps in
    let c : (c : ℕ) × Stands ps c × (number ps c ≡ r) = place_of ps r (omega (arith, e, h)) in
    let same : nth ps r ≡ c.0 = ap (nth ps) (sym c.2) ∙ nth_number ps c.0 c.1 in
    (subst (Stands ps) (sym same) c.1, ap (number ps) same ∙ c.2)

-- numbers rise
pub number_rises : (ps : Places) (c d : ℕ) → Stands ps c → c < d → number ps c < number ps d
number_rises [] c d h k = absurd (false≢true h)
number_rises ps c zero h k = absurd (omega (arith, k))
number_rises (None ∷ ps) zero (suc d) h k = absurd (false≢true h)
number_rises (Some s ∷ ps) zero (suc d) h k = omega arith
number_rises (None ∷ ps) (suc c) (suc d) h k = number_rises ps c d h (omega (arith, k))
number_rises (Some s ∷ ps) (suc c) (suc d) h k = omega (arith, number_rises ps c d h (omega (arith, k)))

-- a list by its elements
abbrev pub listed : ℕ → (ℕ → ℕ) → List ℕ
listed zero f = []
listed (suc n) f = f 0 ∷ listed n (λ i. f (suc i))

pub listed_length : (n : ℕ) (f : ℕ → ℕ) → length (listed n f) ≡ n
listed_length zero f = refl
listed_length (suc n) f = ap suc (listed_length n (λ i. f (suc i)))

pub listed_at : (n : ℕ) (f : ℕ → ℕ) (i : ℕ) → i < n → get_or (listed n f) i 0 ≡ f i
listed_at zero f i h = absurd (omega (arith, h))
listed_at (suc n) f zero h = refl
listed_at (suc n) f (suc i) h = listed_at n (λ i. f (suc i)) i (omega (arith, h))

-- the row to which a row went in the end
abbrev pub root_in : ℕ → Places → (ℕ → ℕ) → ℕ → ℕ
root_in zero ps went c = c
root_in (suc n) ps went c = cond (is_some (get_or ps c None)) c (root_in n ps went (went c))

root_stays : (n : ℕ) (ps : Places) (went : ℕ → ℕ) (c : ℕ) → Stands ps c → root_in n ps went c ≡ c
root_stays zero ps went c h = refl
root_stays (suc n) ps went c h = cond-true (is_some (get_or ps c None)) c (root_in n ps went (went c)) h

root_goes : (n : ℕ) (ps : Places) (went : ℕ → ℕ) (c : ℕ) → is_some (get_or ps c None) ≡ false → root_in (suc n) ps went c ≡ root_in n ps went (went c)
root_goes n ps went c h = cond-false (is_some (get_or ps c None)) c (root_in n ps went (went c)) h

gone : (ps : Places) (c : ℕ) → is_some (get_or ps c None) ≡ false → Stands ps c → ⊥
gone ps c h k = false≢true (sym h ∙ k)

none_first : {P : Type 0} {o : Option ℕ} {a : ℕ} → o ≡ None → o ≡ Some a → P
none_first e f = absurd cc

some_equal : {o : Option ℕ} {a b : ℕ} → o ≡ Some a → o ≡ Some b → a ≡ b
some_equal e f = cc

leads_from : (ps : Places) (c d : ℕ) (x : ℤ) → Leads ps c x d → Stands ps c
leads_from ps c d x e = from (get_or ps c None) e
  where
    from : (o : Option Row) → get_or (row_or_none o) (column x) None ≡ Some d → IsSome o
    from None e = none_first refl e
    from (Some r) e = refl

-- where fewer rows stand, there are fewer rows
standing_most : (a b : Places) → length a ≡ length b → ((c : ℕ) → Stands b c → Stands a c) → length (standing b) ≤ length (standing a)
standing_most [] [] e h = omega arith
standing_most [] (o ∷ b) e h = absurd (omega (arith, e))
standing_most (o ∷ a) [] e h = absurd (omega (arith, e))
standing_most (None ∷ a) (None ∷ b) e h = standing_most a b (omega (arith, e)) (λ c. h (suc c))
standing_most (None ∷ a) (Some s ∷ b) e h = absurd (false≢true (h 0 refl))
standing_most (Some r ∷ a) (None ∷ b) e h = omega (arith, standing_most a b (omega (arith, e)) (λ c. h (suc c)))
standing_most (Some r ∷ a) (Some s ∷ b) e h = omega (arith, standing_most a b (omega (arith, e)) (λ c. h (suc c)))

standing_fewer : (a b : Places) → length a ≡ length b → ((c : ℕ) → Stands b c → Stands a c) → (c : ℕ) → Stands a c → (Stands b c → ⊥) → length (standing b) < length (standing a)
standing_fewer [] b e h c s out = absurd (false≢true s)
standing_fewer (o ∷ a) [] e h c s out = absurd (omega (arith, e))
standing_fewer (None ∷ a) (b1 ∷ b) e h zero s out = absurd (false≢true s)
standing_fewer (Some r ∷ a) (None ∷ b) e h zero s out = omega (arith, standing_most a b (omega (arith, e)) (λ c. h (suc c)))
standing_fewer (Some r ∷ a) (Some t ∷ b) e h zero s out = absurd (out refl)
standing_fewer (None ∷ a) (None ∷ b) e h (suc c) s out = standing_fewer a b (omega (arith, e)) (λ d. h (suc d)) c s out
standing_fewer (None ∷ a) (Some t ∷ b) e h (suc c) s out = absurd (false≢true (h 0 refl))
standing_fewer (Some r ∷ a) (None ∷ b) e h (suc c) s out = omega (arith, standing_fewer a b (omega (arith, e)) (λ d. h (suc d)) c s out)
standing_fewer (Some r ∷ a) (Some t ∷ b) e h (suc c) s out = omega (arith, standing_fewer a b (omega (arith, e)) (λ d. h (suc d)) c s out)

-- when no pair is left, the rows that are left are the joined ones
module _ (m : ℕ) (old new : Places) (p q : ℕ) (went : ℕ → ℕ) (g : IsGapped m old) (hp : Stands old p) (hq : Stands old q) (k : Collapsing m old new p q went []) where
  root_facts : (n c : ℕ) → c ≤ n → Stands old c → Stands new (root_in n new went c) × (root_in n new went c ≤ c)
  root_facts zero c h s = (subst (Stands new) (zero_is c h) k.gapped.first, omega arith)
    where
      zero_is : (c : ℕ) → c ≤ 0 → 0 ≡ c
      zero_is c h = omega (arith, h)
  root_facts (suc n) c h s =
      elim (cases_Bool (is_some (get_or new c None))) [
        | inl sits ↦
            let e : root_in (suc n) new went c ≡ c = root_stays (suc n) new went c sits in
            (subst (Stands new) (sym e) sits, omega (arith, e))
        | inr left ↦
            let e : root_in (suc n) new went c ≡ root_in n new went (went c) = root_goes n new went c left in
            let low : (went c < c) × Stands old (went c) = k.lower c s (gone new c left) in
            let rest : Stands new (root_in n new went (went c)) × (root_in n new went (went c) ≤ went c) = root_facts n (went c) (omega (arith, low.0, h)) low.1 in
            (subst (Stands new) (sym e) rest.0, omega (arith, e, rest.1, low.0))
      ]

  -- labels that join what went join each row with its root
  root_joined : (f : ℕ → ℕ) → JoinsAll old new went [] f → (n c : ℕ) → c ≤ n → Stands old c → f (root_in n new went c) ≡ f c
  root_joined f j zero c h s = refl
  root_joined f j (suc n) c h s =
      elim (cases_Bool (is_some (get_or new c None))) [
        | inl sits ↦ ap f (root_stays (suc n) new went c sits)
        | inr left ↦
            let low : (went c < c) × Stands old (went c) = k.lower c s (gone new c left) in
            ap f (root_goes n new went c left) ∙ (root_joined f j n (went c) (omega (arith, low.0, h)) low.1 ∙ sym (j.gone_joined c s (gone new c left)))
      ]

  same_root : (n i c : ℕ) → c ≤ n → c ≤ i → Stands old c → root_in n new went c ≡ root_in i new went c
  same_root zero zero c h l s = refl
  same_root zero (suc i) c h l s = sym (root_stays (suc i) new went c (subst (Stands new) (zero_is c h) k.gapped.first))
    where
      zero_is : (c : ℕ) → c ≤ 0 → 0 ≡ c
      zero_is c h = omega (arith, h)
  same_root (suc n) zero c h l s = root_stays (suc n) new went c (subst (Stands new) (zero_is c l) k.gapped.first)
    where
      zero_is : (c : ℕ) → c ≤ 0 → 0 ≡ c
      zero_is c h = omega (arith, h)
  same_root (suc n) (suc i) c h l s =
      elim (cases_Bool (is_some (get_or new c None))) [
        | inl sits ↦ root_stays (suc n) new went c sits ∙ sym (root_stays (suc i) new went c sits)
        | inr left ↦
            let low : (went c < c) × Stands old (went c) = k.lower c s (gone new c left) in
            root_goes n new went c left ∙ (same_root n i (went c) (omega (arith, low.0, h)) (omega (arith, low.0, l)) low.1 ∙ sym (root_goes i new went c left))
      ]

  abbrev root : ℕ → ℕ
  root c = root_in c new went c

  root_stands : (c : ℕ) → Stands old c → Stands new (root c)
  root_stands c s = (root_facts c c (omega arith) s).0

  root_below : (c : ℕ) → Stands old c → root c ≤ c
  root_below c s = (root_facts c c (omega arith) s).1

  root_own : (c : ℕ) → Stands new c → root c ≡ c
  root_own c s = root_stays c new went c s

  root_joins : JoinsAll old new went [] root
  root_joins = record {
    pairs_joined = tt;
    gone_joined = λ c s h. step c s h;
  }
    where
      step : (c : ℕ) → Stands old c → (Stands new c → ⊥) → root c ≡ root (went c)
      step zero s h = absurd (h k.gapped.first)
      step (suc c) s h =
          let low : (went (suc c) < suc c) × Stands old (went (suc c)) = k.lower (suc c) s h in
          elim (cases_Bool (is_some (get_or new (suc c) None))) [
            | inl sits ↦ absurd (h sits)
            | inr left ↦ root_goes c new went (suc c) left ∙ same_root c (went (suc c)) (went (suc c)) (omega (arith, low.0)) (omega arith) low.1
          ]

  -- the entries of the roots
  root_leads : (a b : ℕ) (x : ℤ) → IsLetterOf m x → Leads old a x b → Leads new (root a) x (root b)
  root_leads a b x l e =
      let like : Like new root a x b = k.forth root root_joins a b x l e in
      let from : like.c ≡ root a = sym (root_own like.c (leads_from new like.c like.d x like.leads)) ∙ like.from in
      let to : like.d ≡ root b = sym (root_own like.d (k.gapped.there like.c (column x) like.d like.leads)) ∙ like.to in
      subst (λ c. Leads new c x (root b)) from (like.leads ∙ ap Some to)

  root_keeps : Keeps m old root
  root_keeps a b c d x l e f same = some_equal (root_leads a c x l e) (ap (λ r. cell_at new r (column x)) same ∙ root_leads b d x l f)

  root_pq : root p ≡ root q
  root_pq = k.joins root root_joins

  abbrev label : ℕ → ℕ
  label r = number new (root (nth old r))

  abbrev labels : List ℕ
  labels = listed (length (packed old)) label

  labels_at : (c : ℕ) → Stands old c → get_or labels (number old c) 0 ≡ number new (root c)
  labels_at c s =
      listed_at (length (packed old)) label (number old c) (packed_below old c s)
      ∙ ap (λ i. number new (root i)) (nth_number old c s)

  collapse_kept : IsKept m (packed old) labels
  collapse_kept = record {
    count = listed_length (length (packed old)) label;
    kept = λ a b c d x l e f same.
        let u : Found old a c x = found_places old a c x e in
        let v : Found old b d x = found_places old b d x f in
        let su : Stands old u.d = g.there u.c (column x) u.d u.entry in
        let sv : Stands old v.d = g.there v.c (column x) v.d v.entry in
        let roots : root u.c ≡ root v.c = number_apart new (root u.c) (root v.c) (root_stands u.c u.stands) (root_stands v.c v.stands)
        (sym (labels_at u.c u.stands) ∙ (ap (λ i. get_or labels i 0) u.from ∙ (same ∙ (ap (λ i. get_or labels i 0) (sym v.from) ∙ labels_at v.c v.stands)))) in
        ap (λ i. get_or labels i 0) (sym u.to) ∙ (labels_at u.d su ∙ (ap (number new) (root_keeps u.c v.c u.d v.d x l u.entry v.entry roots)
        ∙ (sym (labels_at v.d sv) ∙ ap (λ i. get_or labels i 0) v.to)));
  }

  collapse_least : IsLeast m (packed old) (number old p) (number old q) labels
  collapse_least = record {
    kept = collapse_kept;
    joins = labels_at p hp ∙ (ap (number new) root_pq ∙ sym (labels_at q hq));
    least = λ others kept joins a b ha hb same.
        let f : ℕ → ℕ = λ c. get_or others (number old c) 0 in
        let keeps : Keeps m old f = λ a b c d x l e h s. kept.kept (number old a) (number old b) (number old c) (number old d) x l
        (packed_cell old a (column x) (leads_from old a c x e) ∙ ap (option_map (number old)) e)
        (packed_cell old b (column x) (leads_from old b d x h) ∙ ap (option_map (number old)) h) s in
        let all : JoinsAll old new went [] f = k.least f keeps joins in
        let u : Stands old (nth old a) × (number old (nth old a) ≡ a) = nth_stands old a ha in
        let v : Stands old (nth old b) × (number old (nth old b) ≡ b) = nth_stands old b hb in
        let roots : root (nth old a) ≡ root (nth old b) = number_apart new (root (nth old a)) (root (nth old b)) (root_stands (nth old a) u.0) (root_stands (nth old b) v.0)
        (sym (listed_at (length (packed old)) label a ha) ∙ (same ∙ listed_at (length (packed old)) label b hb)) in
        ap (λ i. get_or others i 0) (sym u.1)
        ∙ (sym (root_joined f all (nth old a) (nth old a) (omega arith) u.0)
        ∙ (ap f roots
        ∙ (root_joined f all (nth old b) (nth old b) (omega arith) v.0
        ∙ ap (λ i. get_or others i 0) v.1)));
  }

  divided_used : (r : ℕ) → r < length (packed new) → (a : ℕ) × (a < length (packed old)) × (get_or labels a 0 ≡ r)
  divided_used r h =
      let u : Stands new (nth new r) × (number new (nth new r) ≡ r) = nth_stands new r h in
      let s : Stands old (nth new r) = k.stood (nth new r) u.0 in
      (number old (nth new r), packed_below old (nth new r) s, labels_at (nth new r) s ∙ (ap (number new) (root_own (nth new r) u.0) ∙ u.1))

  divided_order : (a r : ℕ) → a < length (packed old) → r < get_or labels a 0 → (b : ℕ) × (b < a) × (get_or labels b 0 ≡ r)
  divided_order a r h less =
      let u : Stands old (nth old a) × (number old (nth old a) ≡ a) = nth_stands old a h in
      let at : get_or labels a 0 ≡ number new (root (nth old a)) = listed_at (length (packed old)) label a h in
      let below : number new (root (nth old a)) < length (packed new) = packed_below new (root (nth old a)) (root_stands (nth old a) u.0) in
      let v : Stands new (nth new r) × (number new (nth new r) ≡ r) = nth_stands new r (omega (arith, less, at, below)) in
      let s : Stands old (nth new r) = k.stood (nth new r) v.0 in
      let before : nth new r < root (nth old a) = rises_back (nth new r) (root (nth old a)) v.0 (root_stands (nth old a) u.0) (omega (arith, less, at, v.1)) in
      let low : root (nth old a) ≤ nth old a = root_below (nth old a) u.0 in
      let up : number old (nth new r) < number old (nth old a) = number_rises old (nth new r) (nth old a) s (omega (arith, before, low)) in
      (number old (nth new r), omega (arith, up, u.1), labels_at (nth new r) s ∙ (ap (number new) (root_own (nth new r) v.0) ∙ v.1))
    where
      rises_back : (c d : ℕ) → Stands new c → Stands new d → number new c < number new d → c < d
      rises_back c d hc hd h =
          elim (cases_lt c d) [
            | inl less ↦ less
            | inr more ↦ elim (cases_eq d c) [
              | inl same ↦ absurd (omega (arith, h, ap (number new) same))
              | inr ne ↦ elim (cases_lt d c) [
                | inl under ↦ absurd (omega (arith, h, number_rises new d c hd under))
                | inr over ↦ absurd (ne (omega (arith, more, over)))
              ]
            ]
          ]

  divided_forward : (a b : ℕ) (x : ℤ) → IsLetterOf m x → entry (packed old) a x ≡ Some b → entry (packed new) (get_or labels a 0) x ≡ Some (get_or labels b 0)
  divided_forward a b x l e =
      let u : Found old a b x = found_places old a b x e in
      let sd : Stands old u.d = g.there u.c (column x) u.d u.entry in
      let from : get_or labels a 0 ≡ number new (root u.c) = ap (λ i. get_or labels i 0) (sym u.from) ∙ labels_at u.c u.stands in
      let to : get_or labels b 0 ≡ number new (root u.d) = ap (λ i. get_or labels i 0) (sym u.to) ∙ labels_at u.d sd in
      ap (λ i. entry (packed new) i x) from
      ∙ (packed_cell new (root u.c) (column x) (root_stands u.c u.stands)
      ∙ (ap (option_map (number new)) (root_leads u.c u.d x l u.entry)
      ∙ ap Some (sym to)))

  divided_back : (r s : ℕ) (x : ℤ) → IsLetterOf m x → entry (packed new) r x ≡ Some s → (a : ℕ) × (b : ℕ) × (entry (packed old) a x ≡ Some b) × (get_or labels a 0 ≡ r) × (get_or labels b 0 ≡ s)
  divided_back r s x l e =
      let u : Found new r s x = found_places new r s x e in
      let sd : Stands new u.d = k.gapped.there u.c (column x) u.d u.entry in
      let like : Like old root u.c x u.d = k.back root root_keeps root_pq u.c u.d x l u.entry in
      let sa : Stands old like.c = leads_from old like.c like.d x like.leads in
      let sb : Stands old like.d = g.there like.c (column x) like.d like.leads in (
        number old like.c,
        number old like.d,
        packed_cell old like.c (column x) sa ∙ ap (option_map (number old)) like.leads,
        labels_at like.c sa ∙ (ap (number new) (like.from ∙ root_own u.c u.stands) ∙ u.from),
        labels_at like.d sb ∙ (ap (number new) (like.to ∙ root_own u.d sd) ∙ u.to),
      )

  pub collapse_joins : Joins m (packed old) (number old p) (number old q) (packed new)
  collapse_joins = record {
    labels = labels;
    least = collapse_least;
    divided = record {
      whole = packed_is_table m new k.gapped;
      named = λ a h.
          let u : Stands old (nth old a) × (number old (nth old a) ≡ a) = nth_stands old a h in
          let at : get_or labels a 0 ≡ number new (root (nth old a)) = listed_at (length (packed old)) label a h in
          omega (arith, at, packed_below new (root (nth old a)) (root_stands (nth old a) u.0));
      used = divided_used;
      in_order = divided_order;
      forward = divided_forward;
      back = divided_back;
    };
  }

  -- no entry of a row that stands is away
  pub collapse_keeps : (c d : ℕ) (x : ℤ) → IsLetterOf m x → Stands new c → Leads old c x d → (e : ℕ) × Leads new c x e
  collapse_keeps c d x l s e = (root d, subst (λ a. Leads new a x (root d)) (root_own c s) (root_leads c d x l e))

  -- of the two rows one is gone
  pub collapse_fewer : length old ≡ length new → (p ≡ q → ⊥) → length (packed new) < length (packed old)
  collapse_fewer e apart =
      let less : length (standing new) < length (standing old) = elim (cases_Bool (is_some (get_or new p None))) [
        | inl sp ↦ elim (cases_Bool (is_some (get_or new q None))) [
          | inl sq ↦ absurd (apart (sym (root_own p sp) ∙ (root_pq ∙ root_own q sq)))
          | inr out ↦ standing_fewer old new e k.stood q hq (gone new q out)
        ]
        | inr out ↦ standing_fewer old new e k.stood p hp (gone new p out)
      ] in
      omega (arith, less, packed_length old, packed_length new)

-- at the start nothing is gone
pub collapse_start : (m : ℕ) (old : Places) (p q : ℕ) (went : ℕ → ℕ) → IsGapped m old → Collapsing m old old p q went (record { left = p; right = q } ∷ [])
collapse_start m old p q went g = record {
  gapped = g;
  stood = λ c h. h;
  lower = λ c s h. absurd (h s);
  least = λ f keeps e. record { pairs_joined = (e, tt); gone_joined = λ c s h. absurd (h s) };
  back = λ f keeps e c d x l h. record { c = c; d = d; leads = h; from = refl; to = refl };
  joins = λ f j. j.pairs_joined.0;
  forth = λ f j a b x l h. record { c = a; d = b; leads = h; from = refl; to = refl };
}
