use Rattle.std.specs.Prelude.{◌≡◌, ℕ, ◌-◌, ◌^◌, ◌<◌, ◌≤◌, ◌⊎◌, List, length, All, sum_by}
use Rattle.std.specs.List.{range_with_len}
use Rattle.mg_numbers.specs.Blocks.{Earlier, IsNth}

-- a modulus, and a tuple of residues
pub record ResidueTuple : Type 0 where
  pub modulus : ℕ
  pub residues : List ℕ

-- It has m residues of its modulus, which is at least 2.
pub record IsResidueTuple (m : ℕ) (t : ResidueTuple) : Type 0 where
  pub proper : 2 ≤ t.modulus
  pub count : length t.residues ≡ m
  pub below : All (λ x. x < t.modulus) t.residues

-- the smaller modulus first, then the residues in lexicographic order, the first most significant
abbrev pub ResidueTupleBefore : ResidueTuple → ResidueTuple → Type 0
ResidueTupleBefore t u = (t.modulus < u.modulus) ⊎ ((t.modulus ≡ u.modulus) × Earlier t.residues u.residues)

-- t is the n-th, from 1, of the tuples of m residues.
abbrev pub IsResidueTupleAt : ℕ → ℕ → ResidueTuple → Type 0
IsResidueTupleAt m n t = IsNth (IsResidueTuple m) ResidueTupleBefore n t

-- how many tuples of m residues have a smaller modulus
abbrev pub residue_tuples_below : ℕ → ℕ → ℕ
residue_tuples_below m modulus = sum_by (λ k. k ^ m) (range_with_len 2 (modulus - 2))
