use Rattle.std.proofs.Common.{◌≡◌, ◌↔◌, ℕ, ◌+◌, ◌^◌, ◌<◌, ◌≤◌, List, length, All, refl, arith}
use Rattle.std.proofs.Math.Nat.{one-le-pow}
use Rattle.mg_numbers.specs.Blocks.{Earlier, number_in}
use Rattle.mg_numbers.specs.Residues.{ResidueTuple, IsResidueTuple, ResidueTupleBefore, IsResidueTupleAt, residue_tuples_below}
use Rattle.mg_numbers.proofs.BlocksNth.{Ranking, IsNth-one_number, IsNth-rank, each_number, in_order, one_thing}
use Rattle.mg_numbers.proofs.BlocksTuples.{blocks_ranking, IsNth-block}
use Rattle.mg_numbers.proofs.ResiduesRank.{AreDigits, digits_ranking}

abbrev make : ℕ → List ℕ → ResidueTuple
make n xs = record { modulus = n; residues = xs }

module _ (m : ℕ) where
  positive : (n : ℕ) → 2 ≤ n → 0 < n ^ m
  positive n h = one-le-pow m n (omega arith)

  made : (n : ℕ) (xs : List ℕ) → 2 ≤ n → AreDigits n m xs → IsResidueTuple m (make n xs)
  made n xs h p = record { proper = h; count = p.count; below = p.below }

  digits : (t : ResidueTuple) → IsResidueTuple m t → AreDigits t.modulus m t.residues
  digits t p = record { count = p.count; below = p.below }

  ranking : Ranking (IsResidueTuple m) ResidueTupleBefore (λ k. Unit {0})
  ranking = blocks_ranking (λ (t : ResidueTuple). t.modulus) (λ (t : ResidueTuple). t.residues) make (λ n xs. refl) (λ n xs. refl) (λ t. refl) (IsResidueTuple m) (λ n. AreDigits n m) Earlier 2 (λ n. n ^ m) positive (λ t p. p.proper) digits made (λ n. digits_ranking n m)

  -- each number from 1 belongs to a tuple
  pub residue_tuple_at : (n : ℕ) → 1 ≤ n → (t : ResidueTuple) × IsResidueTupleAt m n t
  residue_tuple_at n h = each_number (IsResidueTuple m) ResidueTupleBefore (λ k. Unit {0}) ranking n h tt

  -- and to one alone
  pub one_residue_tuple : (n : ℕ) (t u : ResidueTuple) → IsResidueTupleAt m n t → IsResidueTupleAt m n u → t ≡ u
  one_residue_tuple = one_thing (IsResidueTuple m) ResidueTupleBefore (λ k. Unit {0}) ranking

  -- each tuple has a number
  pub residue_tuple_number : (t : ResidueTuple) → IsResidueTuple m t → (n : ℕ) × (1 ≤ n) × IsResidueTupleAt m n t
  residue_tuple_number t p =
      let h = IsNth-rank (IsResidueTuple m) ResidueTupleBefore (λ k. Unit {0}) ranking t p in
      (length h.earlier + 1, omega arith, record { is = h.is; earlier = h.earlier; once = h.once; just = h.just; number = refl })

  -- and one alone
  pub one_residue_number : (n k : ℕ) (t : ResidueTuple) → IsResidueTupleAt m n t → IsResidueTupleAt m k t → n ≡ k
  one_residue_number n k t = IsNth-one_number (IsResidueTuple m) ResidueTupleBefore n k t

  -- the tuple that comes before has the smaller number, and the other way round
  pub residue_tuples_in_order : (n k : ℕ) (t u : ResidueTuple) → IsResidueTupleAt m n t → IsResidueTupleAt m k u → ResidueTupleBefore t u ↔ (n < k)
  residue_tuples_in_order = in_order (IsResidueTuple m) ResidueTupleBefore (λ k. Unit {0}) ranking

  -- the digits of a place in a block are the tuple of the number that follows from both
  pub residue_tuple_of_block : (number modulus index : ℕ) (residues : List ℕ) → 2 ≤ modulus → residue_tuples_below m modulus + index + 1 ≡ number → length residues ≡ m → All (λ x. x < modulus) residues → number_in modulus residues ≡ index → IsResidueTupleAt m number (record { modulus = modulus; residues = residues })
  residue_tuple_of_block number modulus index residues proper place count below digits_are =
      IsNth-block (λ (t : ResidueTuple). t.modulus) (λ (t : ResidueTuple). t.residues) make (λ n xs. refl) (λ n xs. refl) (λ t. refl) (IsResidueTuple m) (λ n. AreDigits n m) Earlier 2 (λ n. n ^ m) positive (λ t p. p.proper) digits made (λ n. digits_ranking n m) number modulus index residues proper (record { count = count; below = below }) digits_are place
