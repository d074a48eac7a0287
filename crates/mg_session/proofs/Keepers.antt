-- The entry that keeps a verdict keeps it in every longer log.
use Rattle.std.proofs.Common.{◌≡◌, false, List, [], ◌∷◌, ◌++◌, refl, ap, sym, ◌∙◌, subst, append_assoc}
use Rattle.std.specs.Prelude.{Option, Some, Contains}
use Rattle.mg_core.specs.declared.entries.Entry.{Entry}
use Rattle.mg_core.specs.Log.{Settled, KeeperOf}

not_nil : {X : Type 0} (before after : List X) (x : X) → [] ≡ before ++ x ∷ after → ⊥
not_nil [] after x e = cc e
not_nil (y ∷ before) after x e = cc e

-- a member of a list that ends with z is z, or stands before it
pub data IsLast {X : Type 0} (front : List X) (z : X) (before : List X) (x : X) (after : List X) : Type 0 where
  is_last : x ≡ z → front ≡ before → IsLast front z before x after
  is_before : (rest : List X) → front ≡ before ++ x ∷ rest → IsLast front z before x after

later : {X : Type 0} (f b : X) (front : List X) (z : X) (before : List X) (x : X) (after : List X) → f ≡ b → IsLast front z before x after → IsLast (f ∷ front) z (b ∷ before) x after
later f b front z before x after same (is_last e g) = is_last e (cc)
later f b front z before x after same (is_before rest g) = is_before rest (cc)

pub split_last : {X : Type 0} (front : List X) (z : X) (before : List X) (x : X) (after : List X) → front ++ z ∷ [] ≡ before ++ x ∷ after → IsLast front z before x after
split_last [] z [] x after e = let same : z ≡ x = cc e in is_last (sym same) refl
split_last [] z (b ∷ before) x after e = let none : [] ≡ before ++ x ∷ after = cc e in absurd (not_nil before after x none)
split_last (f ∷ front) z [] x after e = let same : f ≡ x = cc e in is_before front (ap (λ y. y ∷ front) same)
split_last (f ∷ front) z (b ∷ before) x after e =
    let first : f ≡ b = cc e in
    let rest : front ++ z ∷ [] ≡ before ++ x ∷ after = cc e in later f b front z before x after first (split_last front z before x after rest)

module _ {R K : Type 0} (settles : R → Option K) where
  -- some record of the entry, which wasn't dropped, settles the key
  pub record Brings (key : K) (entry : Entry R) : Type 0 where
    pub kept : entry.dropped ≡ false
    pub verdict : R
    pub among : Contains entry.records verdict
    pub settles_it : settles verdict ≡ Some key

  -- the keeper in a log with one entry more: that entry, or the keeper before
  pub data IsKeeperOf (log : List (Entry R)) (last : Entry R) (key : K) (entry : Entry R) : Type 0 where
    is_new : entry ≡ last → (Settled settles log key → ⊥) → Brings key entry → IsKeeperOf log last key entry
    is_old : KeeperOf settles log key entry → IsKeeperOf log last key entry

  pub keeper_grows : (log more : List (Entry R)) (key : K) (entry : Entry R) → KeeperOf settles log key entry → KeeperOf settles (log ++ more) key entry
  keeper_grows log more key entry k = record {
    before = k.before;
    after = k.after ++ more;
    place = ap (λ l. l ++ more) k.place ∙ append_assoc k.before (entry ∷ k.after) more;
    kept = k.kept;
    verdict = k.verdict;
    among = k.among;
    settles_it = k.settles_it;
    not_before = k.not_before;
  }

  keeper_at : (log : List (Entry R)) (last : Entry R) (key : K) (entry : Entry R) (k : KeeperOf settles (log ++ last ∷ []) key entry) → IsLast log last k.before entry k.after → IsKeeperOf log last key entry
  keeper_at log last key entry k (is_last e g) =
      is_new e (subst (λ (l : List (Entry R)). Settled settles l key → ⊥) (sym g) k.not_before) (record { kept = k.kept; verdict = k.verdict; among = k.among; settles_it = k.settles_it })
  keeper_at log last key entry k (is_before rest g) = is_old (record {
    before = k.before;
    after = rest;
    place = g;
    kept = k.kept;
    verdict = k.verdict;
    among = k.among;
    settles_it = k.settles_it;
    not_before = k.not_before;
  })

  pub keeper_back : (log : List (Entry R)) (last : Entry R) (key : K) (entry : Entry R) → KeeperOf settles (log ++ last ∷ []) key entry → IsKeeperOf log last key entry
  keeper_back log last key entry k = keeper_at log last key entry k (split_last log last k.before entry k.after k.place)
