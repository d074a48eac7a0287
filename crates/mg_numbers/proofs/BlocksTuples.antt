use Rattle.std.proofs.Common.{◌≡◌, ℕ, ◌+◌, ◌<◌, ◌≤◌, ◌⊎◌, refl, sym, ◌∙◌, ap, subst, inl, inr, arith}
use Rattle.std.proofs.lemmas.Bool.{cases_order}
use Rattle.mg_numbers.specs.Blocks.{IsNth}
use Rattle.mg_numbers.proofs.BlocksNth.{Ranking, IsNth-rank}
use Rattle.mg_numbers.proofs.BlocksRank.{places_below, block_at, block_at-is, IsPlace, one_place, later_block}

-- Things of sizes from the first one on, each a size and a part, which are P. Those of one size are numbered in the order of their parts.
module _ {X A : Type 0} (size : X → ℕ) (part : X → A) (make : ℕ → A → X) (size-make : (n : ℕ) (a : A) → size (make n a) ≡ n) (part-make : (n : ℕ) (a : A) → part (make n a) ≡ a) (make_back : (x : X) → make (size x) (part x) ≡ x) (P : X → Type 0) (Q : ℕ → A → Type 0) (B : A → A → Type 0) (first : ℕ) (size_of : ℕ → ℕ) (positive : (n : ℕ) → first ≤ n → 0 < size_of n) (low : (x : X) → P x → first ≤ size x) (part_is : (x : X) → P x → Q (size x) (part x)) (made : (n : ℕ) (a : A) → first ≤ n → Q n a → P (make n a)) (r : (n : ℕ) → Ranking (Q n) B (λ i. i < size_of n)) where
  -- the smaller size first, then the order of the parts
  abbrev pub SizeFirst : X → X → Type 0
  SizeFirst x y = (size x < size y) ⊎ ((size x ≡ size y) × B (part x) (part y))

  -- the place of a part among those of its size
  abbrev pub rank_at : ℕ → A → ℕ
  rank_at n a = places_below size_of first n + (r n).rank a

  abbrev pub block_of : ℕ → ℕ × ℕ
  block_of k = block_at size_of first k

  abbrev pub thing_at : ℕ → ℕ → X
  thing_at n i = make n ((r n).nth i)

  pub place_of : (x : X) → P x → IsPlace size_of first (rank_at (size x) (part x)) (size x) ((r (size x)).rank (part x))
  place_of x p = record { from_first = low x p; within = (r (size x)).fits (part x) (part_is x p); place = refl }

  pub block_of-is : (k : ℕ) → IsPlace size_of first k (block_of k).0 (block_of k).1
  block_of-is k = block_at-is size_of first positive k

  pub nth_is : (k : ℕ) → P (thing_at (block_of k).0 (block_of k).1)
  nth_is k =
      let b = block_of-is k in
      made (block_of k).0 ((r (block_of k).0).nth (block_of k).1) b.from_first ((r (block_of k).0).is (block_of k).1 b.within)

  pub nth_back : (x : X) → P x → thing_at (block_of (rank_at (size x) (part x))).0 (block_of (rank_at (size x) (part x))).1 ≡ x
  nth_back x p =
      let k = rank_at (size x) (part x) in
      let same = one_place size_of first k (block_of k).0 (block_of k).1 (size x) ((r (size x)).rank (part x)) (block_of-is k) (place_of x p) in
      ap (λ n. thing_at n (block_of k).1) same.0 ∙ ap (thing_at (size x)) same.1 ∙ ap (make (size x)) ((r (size x)).back (part x) (part_is x p)) ∙ make_back x

  pub nth_forth : (k : ℕ) → rank_at (size (thing_at (block_of k).0 (block_of k).1)) (part (thing_at (block_of k).0 (block_of k).1)) ≡ k
  nth_forth k =
      let b = block_of-is k in
      let n = (block_of k).0 in
      let i = (block_of k).1 in
      let a = (r n).nth i in
      ap (λ s. rank_at s (part (make n a))) (size-make n a) ∙ ap (rank_at n) (part-make n a) ∙ ap (λ j. places_below size_of first n + j) ((r n).forth i b.within) ∙ b.place

  pub rank_rises : (x y : X) → P x → P y → SizeFirst x y → rank_at (size x) (part x) < rank_at (size y) (part y)
  rank_rises x y p q (inl l) =
      omega (arith, later_block size_of first (size x) (size y) (low x p) l, (r (size x)).fits (part x) (part_is x p))
  rank_rises x y p q (inr (e, b)) =
      let one : Q (size x) (part y) = subst (λ n. Q n (part y)) (sym e) (part_is y q) in
      let below = (r (size x)).rises (part x) (part y) (part_is x p) one b in
      omega (arith, below, ap (λ n. rank_at n (part y)) e)

  pub order_total : (x y : X) → P x → P y → SizeFirst x y ⊎ ((x ≡ y) ⊎ SizeFirst y x)
  order_total x y p q =
      elim (cases_order (size x) (size y)) [
        | inl e ↦ elim ((r (size x)).total (part x) (part y) (part_is x p) (subst (λ n. Q n (part y)) (sym e) (part_is y q))) [
          | inl b ↦ inl (inr (e, b))
          | inr (inl s) ↦ inr (inl (sym (make_back x) ∙ ap (λ n. make n (part x)) e ∙ ap (make (size y)) s ∙ make_back y))
          | inr (inr b) ↦ inr (inr (inr (sym e, b)))
        ]
        | inr (inl l) ↦ inl (inl l)
        | inr (inr l) ↦ inr (inr (inl l))
      ]

  -- the things of all sizes are numbered
  abbrev pub blocks_ranking : Ranking P SizeFirst (λ k. Unit {0})
  blocks_ranking =
      record {
        rank = λ x. rank_at (size x) (part x);
        nth = λ k. thing_at (block_of k).0 (block_of k).1;
        fits = λ x p. tt;
        is = λ k h. nth_is k;
        back = nth_back;
        forth = λ k h. nth_forth k;
        rises = rank_rises;
        total = order_total;
        lower = λ i j below h. tt;
      }

  -- the part at a place of a block has the number that follows from block and place
  pub IsNth-block : (number n i : ℕ) (a : A) → first ≤ n → Q n a → (r n).rank a ≡ i → places_below size_of first n + i + 1 ≡ number → IsNth P SizeFirst number (make n a)
  IsNth-block number n i a from_first is rank place =
      let e : rank_at (size (make n a)) (part (make n a)) ≡ rank_at n a = ap (λ s. rank_at s (part (make n a))) (size-make n a) ∙ ap (rank_at n) (part-make n a) in
      subst (λ k. IsNth P SizeFirst k (make n a)) (ap (λ k. k + 1) e ∙ ap (λ j. places_below size_of first n + j + 1) rank ∙ place) (IsNth-rank P SizeFirst (λ k. Unit {0}) blocks_ranking (make n a) (made n a from_first is))
