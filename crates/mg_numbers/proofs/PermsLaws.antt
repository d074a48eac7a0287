use Rattle.std.proofs.Common.{◌≡◌, ◌↔◌, ℕ, suc, ◌+◌, ◌^◌, ◌<◌, ◌≤◌, List, [], ◌∷◌, length, map, All, refl, ap, ◌∙◌, arith}
use Rattle.std.proofs.Math.Nat.{one-le-pow}
use Rattle.std.specs.List.{AllZip}
use Rattle.std.proofs.lemmas.List.Elements.{All-nil, All-cons}
use Rattle.mg_numbers.specs.Blocks.{Earlier, IsNth, number_in}
use Rattle.mg_numbers.specs.Perms.{IsPerm, factorial, PermTuple, IsPermTuple, PermTupleBefore, IsPermTupleAt, perm_tuples_below}
use Rattle.mg_numbers.proofs.BlocksNth.{Ranking, IsNth-one_number, IsNth-rank, number_is, each_number, in_order, one_thing}
use Rattle.mg_numbers.proofs.BlocksTuples.{blocks_ranking, IsNth-block}
use Rattle.mg_numbers.proofs.PermsRank.{perms_ranking, perm_rank, factorial-pos}
use Rattle.mg_numbers.proofs.PermsTuples.{AreOf, JoinedEarlier, tuples_ranking}

abbrev make : ℕ → List (List ℕ) → PermTuple
make n xs = record { degree = n; images = xs }

-- at each place of the tuple stands the permutation before which so many come
abbrev pub ArePermsAt : ℕ → List ℕ → List (List ℕ) → Type 0
ArePermsAt degree places images = AllZip (λ place image. IsNth (IsPerm degree) Earlier (place + 1) image) places images

perms_are : (degree : ℕ) (places : List ℕ) (images : List (List ℕ)) → ArePermsAt degree places images → All (IsPerm degree) images
perms_are degree [] [] h = All-nil (IsPerm degree)
perms_are degree [] (x ∷ xs) h = absurd h
perms_are degree (n ∷ ns) [] h = absurd h
perms_are degree (n ∷ ns) (x ∷ xs) h = All-cons (IsPerm degree) x xs h.0.is (perms_are degree ns xs h.1)

ranks_are : (degree : ℕ) (places : List ℕ) (images : List (List ℕ)) → ArePermsAt degree places images → map (perm_rank degree) images ≡ places
ranks_are degree [] [] h = refl
ranks_are degree [] (x ∷ xs) h = absurd h
ranks_are degree (n ∷ ns) [] h = absurd h
ranks_are degree (n ∷ ns) (x ∷ xs) h =
    let e : perm_rank degree x ≡ n = omega (arith, number_is (IsPerm degree) Earlier (λ i. i < factorial degree) (perms_ranking degree) (n + 1) x h.0) in
    let rest = ranks_are degree ns xs h.1 in
    cc

count_is : (degree : ℕ) (places : List ℕ) (images : List (List ℕ)) → ArePermsAt degree places images → length images ≡ length places
count_is degree [] [] h = refl
count_is degree [] (x ∷ xs) h = absurd h
count_is degree (n ∷ ns) [] h = absurd h
count_is degree (n ∷ ns) (x ∷ xs) h = ap suc (count_is degree ns xs h.1)

module _ (m : ℕ) where
  positive : (n : ℕ) → 1 ≤ n → 0 < factorial n ^ m
  positive n h = one-le-pow m (factorial n) (factorial-pos n)

  made : (n : ℕ) (xs : List (List ℕ)) → 1 ≤ n → AreOf (IsPerm n) m xs → IsPermTuple m (make n xs)
  made n xs h p = record { points = h; count = p.count; perms = p.each }

  perms : (t : PermTuple) → IsPermTuple m t → AreOf (IsPerm t.degree) m t.images
  perms t p = record { count = p.count; each = p.perms }

  abbrev of_degree : (n : ℕ) → Ranking (AreOf (IsPerm n) m) JoinedEarlier (λ i. i < factorial n ^ m)
  of_degree n = tuples_ranking (IsPerm n) n (factorial n) (λ x p. p.count) (perms_ranking n) m

  ranking : Ranking (IsPermTuple m) PermTupleBefore (λ k. Unit {0})
  ranking = blocks_ranking (λ (t : PermTuple). t.degree) (λ (t : PermTuple). t.images) make (λ n xs. refl) (λ n xs. refl) (λ t. refl) (IsPermTuple m) (λ n. AreOf (IsPerm n) m) JoinedEarlier 1 (λ n. factorial n ^ m) positive (λ t p. p.points) perms made of_degree

  -- each number from 1 belongs to a tuple
  pub perm_tuple_at : (n : ℕ) → 1 ≤ n → (t : PermTuple) × IsPermTupleAt m n t
  perm_tuple_at n h = each_number (IsPermTuple m) PermTupleBefore (λ k. Unit {0}) ranking n h tt

  -- and to one alone
  pub one_perm_tuple : (n : ℕ) (t u : PermTuple) → IsPermTupleAt m n t → IsPermTupleAt m n u → t ≡ u
  one_perm_tuple = one_thing (IsPermTuple m) PermTupleBefore (λ k. Unit {0}) ranking

  -- each tuple has a number
  pub perm_tuple_number : (t : PermTuple) → IsPermTuple m t → (n : ℕ) × (1 ≤ n) × IsPermTupleAt m n t
  perm_tuple_number t p =
      let h = IsNth-rank (IsPermTuple m) PermTupleBefore (λ k. Unit {0}) ranking t p in
      (length h.earlier + 1, omega arith, record { is = h.is; earlier = h.earlier; once = h.once; just = h.just; number = refl })

  -- and one alone
  pub one_perm_number : (n k : ℕ) (t : PermTuple) → IsPermTupleAt m n t → IsPermTupleAt m k t → n ≡ k
  one_perm_number n k t = IsNth-one_number (IsPermTuple m) PermTupleBefore n k t

  -- the tuple that comes before has the smaller number, and the other way round
  pub perm_tuples_in_order : (n k : ℕ) (t u : PermTuple) → IsPermTupleAt m n t → IsPermTupleAt m k u → PermTupleBefore t u ↔ (n < k)
  perm_tuples_in_order = in_order (IsPermTuple m) PermTupleBefore (λ k. Unit {0}) ranking

  -- the permutations at the places that are the digits of a place in a block are the tuple of the number that follows from both
  pub perm_tuple_of_block : (number degree index : ℕ) (places : List ℕ) (images : List (List ℕ)) → 1 ≤ degree → perm_tuples_below m degree + index + 1 ≡ number → length places ≡ m → number_in (factorial degree) places ≡ index → ArePermsAt degree places images → IsPermTupleAt m number (record { degree = degree; images = images })
  perm_tuple_of_block number degree index places images points place count digits_are at =
      IsNth-block (λ (t : PermTuple). t.degree) (λ (t : PermTuple). t.images) make (λ n xs. refl) (λ n xs. refl) (λ t. refl) (IsPermTuple m) (λ n. AreOf (IsPerm n) m) JoinedEarlier 1 (λ n. factorial n ^ m) positive (λ t p. p.points) perms made of_degree number degree index images points (record { count = count_is degree places images at ∙ count; each = perms_are degree places images at }) (ap (number_in (factorial degree)) (ranks_are degree places images at) ∙ digits_are) place
