use Rattle.std.proofs.Common.{◌≡◌, ℕ, ◌^◌, ◌<◌, ◌⊎◌, List, [], ◌∷◌, ◌++◌, length, map, All, sym, ◌∙◌, ap, subst, inl, inr, arith}
use Rattle.std.specs.List.{concat}
use Rattle.std.proofs.Math.Nat.{suc_inj, lt_trans}
use Rattle.std.proofs.lemmas.List.{length-map}
use Rattle.std.proofs.lemmas.List.Elements.{All-head, All-tail, All-map, All-weaker}
use Rattle.mg_numbers.specs.Blocks.{Earlier, number_in}
use Rattle.mg_numbers.proofs.BlocksNth.{Ranking, Before-from_rank}
use Rattle.mg_numbers.proofs.BlocksLex.{Earlier-cases, Earlier-head, Earlier-tail, Earlier-total, Earlier-append_cases, Earlier-append_left, Earlier-append_right}
use Rattle.mg_numbers.proofs.ResiduesRank.{AreDigits, digits_ranking, digits_of}
use Rattle.mg_numbers.proofs.PermsRank.{map-map_back}

-- m lists, each of them Q
pub record AreOf (Q : List ℕ → Type 0) (m : ℕ) (ts : List (List ℕ)) : Type 0 where
  pub count : length ts ≡ m
  pub each : All Q ts

-- the joined lists in lexicographic order
abbrev pub JoinedEarlier : List (List ℕ) → List (List ℕ) → Type 0
JoinedEarlier ts us = Earlier (concat ts) (concat us)

module _ (Q : List ℕ → Type 0) (long n : ℕ) (alike : (x : List ℕ) → Q x → length x ≡ long) (r : Ranking Q Earlier (λ i. i < n)) where
  pub ranks_earlier : (ts us : List (List ℕ)) → length ts ≡ length us → All Q ts → All Q us → JoinedEarlier ts us → Earlier (map r.rank ts) (map r.rank us)
  ranks_earlier [] [] e p q h = h
  ranks_earlier [] (u ∷ us) e p q h = absurd (omega arith)
  ranks_earlier (t ∷ ts) [] e p q h = absurd (omega arith)
  ranks_earlier (t ∷ ts) (u ∷ us) e p q h =
      let a = All-head Q t ts p in
      let b = All-head Q u us q in
      elim (Earlier-append_cases t u (concat ts) (concat us) (alike t a ∙ sym (alike u b)) h) [
        | inl l ↦ Earlier-head (r.rank t) (r.rank u) (map r.rank ts) (map r.rank us) (r.rises t u a b l)
        | inr (same, rest) ↦ Earlier-tail (r.rank t) (r.rank u) (map r.rank ts) (map r.rank us) (ap r.rank same) (ranks_earlier ts us (suc_inj e) (All-tail Q t ts p) (All-tail Q u us q) rest)
      ]

  joined_from_ranks : (ts us : List (List ℕ)) → length ts ≡ length us → All Q ts → All Q us → Earlier (map r.rank ts) (map r.rank us) → JoinedEarlier ts us
  joined_from_ranks [] [] e p q h = h
  joined_from_ranks [] (u ∷ us) e p q h = absurd (omega arith)
  joined_from_ranks (t ∷ ts) [] e p q h = absurd (omega arith)
  joined_from_ranks (t ∷ ts) (u ∷ us) e p q h =
      let a = All-head Q t ts p in
      let b = All-head Q u us q in
      elim (Earlier-cases (r.rank t) (r.rank u) (map r.rank ts) (map r.rank us) h) [
        | inl l ↦ Earlier-append_left t u (concat ts) (concat us) (alike t a ∙ sym (alike u b)) (Before-from_rank Q Earlier (λ i. i < n) r t u a b l)
        | inr (same, rest) ↦
            let equal : t ≡ u = sym (r.back t a) ∙ ap r.nth same ∙ r.back u b in
            let below = joined_from_ranks ts us (suc_inj e) (All-tail Q t ts p) (All-tail Q u us q) rest in
            subst (λ v. Earlier (t ++ concat ts) (v ++ concat us)) equal (Earlier-append_right t (concat ts) (concat us) below)
      ]

  pub ranks_are : (m : ℕ) (ts : List (List ℕ)) → AreOf Q m ts → AreDigits n m (map r.rank ts)
  ranks_are m ts p = record { count = length-map ts r.rank ∙ p.count; below = All-map (λ i. i < n) r.rank ts (All-weaker Q (λ t. r.rank t < n) r.fits ts p.each) }

  pub things_are : (m : ℕ) (ds : List ℕ) → AreDigits n m ds → AreOf Q m (map r.nth ds)
  things_are m ds p = record { count = length-map ds r.nth ∙ p.count; each = All-map Q r.nth ds (All-weaker (λ i. i < n) (λ i. Q (r.nth i)) r.is ds p.below) }

  pub things_back : (ts : List (List ℕ)) → All Q ts → map r.nth (map r.rank ts) ≡ ts
  things_back ts p = map-map_back r.nth r.rank ts (All-weaker Q (λ t. r.nth (r.rank t) ≡ t) r.back ts p)

  pub ranks_back : (ds : List ℕ) → All (λ i. i < n) ds → map r.rank (map r.nth ds) ≡ ds
  ranks_back ds p = map-map_back r.rank r.nth ds (All-weaker (λ i. i < n) (λ i. r.rank (r.nth i) ≡ i) r.forth ds p)

  pub total_of : (m : ℕ) (ts us : List (List ℕ)) → AreOf Q m ts → AreOf Q m us → JoinedEarlier ts us ⊎ ((ts ≡ us) ⊎ JoinedEarlier us ts)
  total_of m ts us p q =
      let same : length ts ≡ length us = p.count ∙ sym q.count in
      elim (Earlier-total (map r.rank ts) (map r.rank us) (length-map ts r.rank ∙ same ∙ sym (length-map us r.rank))) [
        | inl h ↦ inl (joined_from_ranks ts us same p.each q.each h)
        | inr (inl e) ↦ inr (inl (sym (things_back ts p.each) ∙ ap (map r.nth) e ∙ things_back us q.each))
        | inr (inr h) ↦ inr (inr (joined_from_ranks us ts (sym same) q.each p.each h))
      ]

  -- tuples of numbered lists are numbered by their numbers as digits
  abbrev pub tuples_ranking : (m : ℕ) → Ranking (AreOf Q m) JoinedEarlier (λ i. i < n ^ m)
  tuples_ranking m =
      let d = digits_ranking n m in
      record {
        rank = λ ts. number_in n (map r.rank ts);
        nth = λ i. map r.nth (digits_of n m i);
        fits = λ ts p. d.fits (map r.rank ts) (ranks_are m ts p);
        is = λ i h. things_are m (digits_of n m i) (d.is i h);
        back = λ ts p. ap (map r.nth) (d.back (map r.rank ts) (ranks_are m ts p)) ∙ things_back ts p.each;
        forth = λ i h. ap (number_in n) (ranks_back (digits_of n m i) (d.is i h).below) ∙ d.forth i h;
        rises = λ ts us p q h. d.rises (map r.rank ts) (map r.rank us) (ranks_are m ts p) (ranks_are m us q) (ranks_earlier ts us (p.count ∙ sym q.count) p.each q.each h);
        total = total_of m;
        lower = λ i j below fits. lt_trans below fits;
      }
