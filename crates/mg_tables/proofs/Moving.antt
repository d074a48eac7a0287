-- One step of a collapse: some entries are taken away and others put in, so that up to labels nothing changes.
use Rattle.std.proofs.Common.{◌≡◌, ℕ, ◌<◌, ℤ, List, [], ◌∷◌, ◌++◌, refl, sym, ap, subst, ◌∙◌}
use Rattle.std.specs.List.{AllByRecursion}
use Rattle.mg_words.specs.Letter.{IsLetterOf}
use Rattle.mg_tables.specs.Gaps.{Places, Stands, IsGapped}
use Rattle.mg_tables.specs.Collapse.{Leads, Keeps, Like, JoinsAll, JoinsGone, Collapsing}
use Rattle.mg_tables.specs.declared.join.Pair.{Pair}

-- the labels join each pair
abbrev pub JoinPairs : (ℕ → ℕ) → List Pair → Type 0
JoinPairs f pairs = AllByRecursion (λ (e : Pair). f e.left ≡ f e.right) pairs

-- labels that are kept and join what is to be joined can't tell the two tables apart
pub record Moves (m : ℕ) (old new : Places) (before after : List Pair) : Type 0 where
  pub gapped : IsGapped m new
  pub kept : (c : ℕ) → Stands old c → Stands new c
  pub stood : (c : ℕ) → Stands new c → Stands old c
  pub more : (f : ℕ → ℕ) → JoinPairs f after → JoinPairs f before
  pub least : (f : ℕ → ℕ) → Keeps m old f → JoinPairs f before → JoinPairs f after
  pub back : (f : ℕ → ℕ) → Keeps m old f → JoinPairs f before → (c d : ℕ) (x : ℤ) → IsLetterOf m x → Leads new c x d → Like old f c x d
  pub forth : (f : ℕ → ℕ) → JoinPairs f after → (c d : ℕ) (x : ℤ) → IsLetterOf m x → Leads old c x d → Like new f c x d

like_like : (a b : Places) (f : ℕ → ℕ) (c d : ℕ) (x : ℤ) → (u : Like a f c x d) → Like b f u.c x u.d → Like b f c x d
like_like a b f c d x u v = record { c = v.c; d = v.d; leads = v.leads; from = v.from ∙ u.from; to = v.to ∙ u.to }

-- labels that the table keeps at first are kept on the way
still_kept : (m : ℕ) (first old : Places) (p q : ℕ) (went : ℕ → ℕ) (pairs : List Pair) → Collapsing m first old p q went pairs → (f : ℕ → ℕ) → Keeps m first f → f p ≡ f q → Keeps m old f
still_kept m first old p q went pairs k f keeps e a b c d x l u v same =
    let s : Like first f a x c = k.back f keeps e a c x l u in
    let t : Like first f b x d = k.back f keeps e b d x l v in
    sym s.to ∙ (keeps s.c t.c s.d t.d x l s.leads t.leads (s.from ∙ (same ∙ sym t.from)) ∙ t.to)

pub collapse_moves : (m : ℕ) (first old new : Places) (p q : ℕ) (went : ℕ → ℕ) (before after : List Pair) →
    Collapsing m first old p q went before → Moves m old new before after → Collapsing m first new p q went after
collapse_moves m first old new p q went before after k h = record {
  gapped = h.gapped;
  stood = λ c s. k.stood c (h.stood c s);
  lower = λ c s n. k.lower c s (λ o. n (h.kept c o));
  least = λ f keeps e.
      let all : JoinsAll first old went before f = k.least f keeps e in
      record {
        pairs_joined = h.least f (still_kept m first old p q went before k f keeps e) all.pairs_joined;
        gone_joined = λ c s n. all.gone_joined c s (λ o. n (h.kept c o));
      };
  back = λ f keeps e c d x l u.
      let all : JoinsAll first old went before f = k.least f keeps e in
      let s : Like old f c x d = h.back f (still_kept m first old p q went before k f keeps e) all.pairs_joined c d x l u in
      like_like old first f c d x s (k.back f keeps e s.c s.d x l s.leads);
  joins = λ f j. k.joins f (earlier f j);
  forth = λ f j a b x l u.
      let s : Like old f a x b = k.forth f (earlier f j) a b x l u in
      like_like old new f a b x s (h.forth f j.pairs_joined s.c s.d x l s.leads);
}
  where
    earlier : (f : ℕ → ℕ) → JoinsAll first new went after f → JoinsAll first old went before f
    earlier f j = record {
      pairs_joined = h.more f j.pairs_joined;
      gone_joined = λ c s n. j.gone_joined c s (λ o. n (h.stood c o));
    }

-- the rows that stand for a pair's rows are to be joined in their place
pub collapse_found : (m : ℕ) (first new : Places) (p q a b c d : ℕ) (went : ℕ → ℕ) (pairs : List Pair) →
    Collapsing m first new p q went (record { left = a; right = b } ∷ pairs) →
    ((f : ℕ → ℕ) → JoinsGone first new went f → (f c ≡ f a) × (f d ≡ f b)) →
    Collapsing m first new p q went (record { left = c; right = d } ∷ pairs)
collapse_found m first new p q a b c d went pairs k h = record {
  gapped = k.gapped;
  stood = k.stood;
  lower = k.lower;
  least = λ f keeps e.
      let all : JoinsAll first new went (record { left = a; right = b } ∷ pairs) f = k.least f keeps e in
      let both : (f c ≡ f a) × (f d ≡ f b) = h f all.gone_joined in
      record { pairs_joined = (both.0 ∙ (all.pairs_joined.0 ∙ sym both.1), all.pairs_joined.1); gone_joined = all.gone_joined };
  back = k.back;
  joins = λ f j. k.joins f (earlier f j);
  forth = λ f j. k.forth f (earlier f j);
}
  where
    earlier : (f : ℕ → ℕ) → JoinsAll first new went (record { left = c; right = d } ∷ pairs) f → JoinsAll first new went (record { left = a; right = b } ∷ pairs) f
    earlier f j =
        let both : (f c ≡ f a) × (f d ≡ f b) = h f j.gone_joined in
        record { pairs_joined = (sym both.0 ∙ (j.pairs_joined.0 ∙ both.1), j.pairs_joined.1); gone_joined = j.gone_joined }

-- a pair of one row is done
pub collapse_same : (m : ℕ) (first new : Places) (p q c : ℕ) (went : ℕ → ℕ) (pairs : List Pair) →
    Collapsing m first new p q went (record { left = c; right = c } ∷ pairs) → Collapsing m first new p q went pairs
collapse_same m first new p q c went pairs k = record {
  gapped = k.gapped;
  stood = k.stood;
  lower = k.lower;
  least = λ f keeps e.
      let all : JoinsAll first new went (record { left = c; right = c } ∷ pairs) f = k.least f keeps e in
      record { pairs_joined = all.pairs_joined.1; gone_joined = all.gone_joined };
  back = k.back;
  joins = λ f j. k.joins f (earlier f j);
  forth = λ f j. k.forth f (earlier f j);
}
  where
    earlier : (f : ℕ → ℕ) → JoinsAll first new went pairs f → JoinsAll first new went (record { left = c; right = c } ∷ pairs) f
    earlier f j = record { pairs_joined = (refl, j.pairs_joined); gone_joined = j.gone_joined }

-- the pairs and what is gone may be told otherwise
pub collapse_alike : (m : ℕ) (first new : Places) (p q : ℕ) (went now : ℕ → ℕ) (before after : List Pair) → Collapsing m first new p q went before →
    ((f : ℕ → ℕ) → JoinPairs f before → JoinPairs f after) → ((f : ℕ → ℕ) → JoinPairs f after → JoinPairs f before) →
    ((c : ℕ) → Stands first c → (Stands new c → ⊥) → now c ≡ went c) → Collapsing m first new p q now after
collapse_alike m first new p q went now before after k there back same = record {
  gapped = k.gapped;
  stood = k.stood;
  lower = λ c s n. subst (λ a. (a < c) × Stands first a) (sym (same c s n)) (k.lower c s n);
  least = λ f keeps e.
      let all : JoinsAll first new went before f = k.least f keeps e in
      record { pairs_joined = there f all.pairs_joined; gone_joined = λ c s n. all.gone_joined c s n ∙ ap f (sym (same c s n)) };
  back = k.back;
  joins = λ f j. k.joins f (earlier f j);
  forth = λ f j. k.forth f (earlier f j);
}
  where
    earlier : (f : ℕ → ℕ) → JoinsAll first new now after f → JoinsAll first new went before f
    earlier f j = record { pairs_joined = back f j.pairs_joined; gone_joined = λ c s n. j.gone_joined c s n ∙ ap f (same c s n) }

-- what holds of all pairs holds with one more at the end
pub all_push : (P : Pair → Type 0) (xs : List Pair) (x : Pair) → AllByRecursion P xs → P x → AllByRecursion P (xs ++ x ∷ [])
all_push P [] x h k = (k, tt)
all_push P (y ∷ xs) x h k = (h.0, all_push P xs x h.1 k)

pub all_pushed : (P : Pair → Type 0) (xs : List Pair) (x : Pair) → AllByRecursion P (xs ++ x ∷ []) → AllByRecursion P xs × P x
all_pushed P [] x h = (tt, h.0)
all_pushed P (y ∷ xs) x h = let r : AllByRecursion P xs × P x = all_pushed P xs x h.1 in ((h.0, r.0), r.1)
