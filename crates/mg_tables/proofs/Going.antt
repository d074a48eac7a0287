-- A row whose entries are all moved goes.
use Rattle.std.proofs.Common.{◌≡◌, ℕ, ◌<◌, List, ◌∷◌, length, get_or, Option, Some, None, sym, ap, subst, ◌∙◌, inl, inr, arith}
use Rattle.std.specs.Prelude.{IsSome, neg_ℤ}
use Rattle.std.proofs.lemmas.Bool.{cases_eq, false≢true}
use Rattle.std.proofs.lemmas.List.{get_or-set_same, get_or-set_other}
use Rattle.mg_tables.specs.Table.{Row, column}
use Rattle.mg_tables.specs.Gaps.{Places, Stands, row_or_none, cell_at, without, IsGapped}
use Rattle.mg_tables.proofs.Gaps.{stands_below}
use Rattle.mg_tables.specs.Collapse.{Like, JoinsAll, Collapsing}
use Rattle.mg_tables.specs.declared.join.Pair.{Pair}

never : {P : Type 0} {o : Option ℕ} {a : ℕ} → o ≡ None → o ≡ Some a → P
never e f = absurd cc

module _ (ps : Places) (go : ℕ) (h : Stands ps go) where
  pub without_gone : Stands (without ps go) go → ⊥
  without_gone s = false≢true (subst (λ (o : Option Row). IsSome o) (get_or-set_same ps go None None (stands_below ps go h)) s)

  pub without_stands : (c : ℕ) → (c ≡ go → ⊥) → Stands ps c → Stands (without ps go) c
  without_stands c ne s = subst (λ (o : Option Row). IsSome o) (sym (get_or-set_other ps go c None None ne)) s

  pub without_stood : (c : ℕ) → Stands (without ps go) c → Stands ps c
  without_stood c s = elim (cases_eq c go) [
    | inl same ↦ subst (Stands ps) (sym same) h
    | inr ne ↦ subst (λ (o : Option Row). IsSome o) (get_or-set_other ps go c None None ne) s
  ]

  pub without_other : (c i : ℕ) → (c ≡ go → ⊥) → cell_at (without ps go) c i ≡ cell_at ps c i
  without_other c i ne = ap (λ (o : Option Row). get_or (row_or_none o) i None) (get_or-set_other ps go c None None ne)

  without_none : (i : ℕ) → cell_at (without ps go) go i ≡ None
  without_none i = ap (λ (o : Option Row). get_or (row_or_none o) i None) (get_or-set_same ps go None None (stands_below ps go h))

  pub without_cell : (c i d : ℕ) → cell_at (without ps go) c i ≡ Some d → cell_at ps c i ≡ Some d
  without_cell c i d e = elim (cases_eq c go) [
    | inl same ↦ never (without_none i) (subst (λ k. cell_at (without ps go) k i ≡ Some d) same e)
    | inr ne ↦ sym (without_other c i ne) ∙ e
  ]

pub without_gapped : (m : ℕ) (old : Places) → IsGapped m old → (go : ℕ) → Stands old go → 0 < go → ((i : ℕ) → cell_at old go i ≡ None) →
    ((c d : ℕ) (i : ℕ) → cell_at old c i ≡ Some d → d ≡ go → ⊥) → IsGapped m (without old go)
without_gapped m old k go hg some bare unled = record {
  first = without_stands old go hg 0 (λ e. omega (arith, some, e)) k.first;
  width = λ c s. elim (cases_eq c go) [
    | inl e ↦ absurd (without_gone old go hg (subst (Stands (without old go)) e s))
    | inr ne ↦ ap (λ (o : Option Row). length (row_or_none o)) (get_or-set_other old go c None None ne) ∙ k.width c (without_stood old go hg c s)
  ];
  there = λ c i d e.
      let was : cell_at old c i ≡ Some d = without_cell old go hg c i d e in
      without_stands old go hg d (unled c d i was) (k.there c i d was);
  inverse = λ c d x l e.
      let was : cell_at old c (column x) ≡ Some d = without_cell old go hg c (column x) d e in
      without_other old go hg d (column (neg_ℤ x)) (unled c d (column x) was) ∙ k.inverse c d x l was;
}

-- the pair of the row that goes is done
pub collapse_goes : (m : ℕ) (first old : Places) (p q keep go : ℕ) (went now : ℕ → ℕ) (pairs : List Pair) →
    Collapsing m first old p q went (record { left = keep; right = go } ∷ pairs) →
    Stands old go → Stands old keep → keep < go → ((i : ℕ) → cell_at old go i ≡ None) →
    ((c d : ℕ) (i : ℕ) → cell_at old c i ≡ Some d → d ≡ go → ⊥) →
    now go ≡ keep → ((c : ℕ) → Stands first c → (Stands old c → ⊥) → now c ≡ went c) →
    Collapsing m first (without old go) p q now pairs
collapse_goes m first old p q keep go went now pairs k hg hk less bare unled to same = record {
  gapped = without_gapped m old k.gapped go hg (omega (arith, less)) bare unled;
  stood = λ c s. k.stood c (without_stood old go hg c s);
  lower = λ c s n. elim (cases_eq c go) [
    | inl e ↦ subst (λ a. (now a < a) × Stands first (now a)) (sym e) (subst (λ a. (a < go) × Stands first a) (sym to) (less, k.stood keep hk))
    | inr ne ↦
        let was : Stands old c → ⊥ = λ o. n (without_stands old go hg c ne o) in
        subst (λ a. (a < c) × Stands first a) (sym (same c s was)) (k.lower c s was)
  ];
  least = λ f keeps e.
      let all : JoinsAll first old went (record { left = keep; right = go } ∷ pairs) f = k.least f keeps e in
      record {
        pairs_joined = all.pairs_joined.1;
        gone_joined = λ c s n. elim (cases_eq c go) [
          | inl e ↦ ap f e ∙ (sym all.pairs_joined.0 ∙ ap f (sym to ∙ ap now (sym e)))
          | inr ne ↦ let was : Stands old c → ⊥ = λ o. n (without_stands old go hg c ne o) in all.gone_joined c s was ∙ ap f (sym (same c s was))
        ];
      };
  back = λ f keeps e c d x l h. k.back f keeps e c d x l (without_cell old go hg c (column x) d h);
  joins = λ f j. k.joins f (earlier f j);
  forth = λ f j a b x l h.
      let s : Like old f a x b = k.forth f (earlier f j) a b x l h in
      record {
        c = s.c;
        d = s.d;
        leads = without_other old go hg s.c (column x) (λ e. never (bare (column x)) (subst (λ c. cell_at old c (column x) ≡ Some s.d) e s.leads)) ∙ s.leads;
        from = s.from;
        to = s.to;
      };
}
  where
    earlier : (f : ℕ → ℕ) → JoinsAll first (without old go) now pairs f → JoinsAll first old went (record { left = keep; right = go } ∷ pairs) f
    earlier f j = record {
      pairs_joined = (sym (j.gone_joined go (k.stood go hg) (without_gone old go hg) ∙ ap f to), j.pairs_joined);
      gone_joined = λ c s n.
          j.gone_joined c s (λ o. n (without_stood old go hg c o)) ∙ ap f (same c s n);
    }
