-- The residues of words, letter by letter.
use Rattle.std.proofs.Common.{◌≡◌, ℕ, ◌+◌, ◌%◌, ◌<◌, ℤ, List, length, get_or, take}
use Rattle.mg_numbers.specs.Residues.{ResidueTuple}
use Rattle.mg_cyclic.specs.Map.{added_by_letter, residue_of_word}
use Rattle.mg_cyclic.proofs.Sums as sums

-- one letter more
pub residue_more : (map : ResidueTuple) (word : List ℤ) (i old add new : ℕ) (x : ℤ) → new ≡ (old + add) % map.modulus → add ≡ added_by_letter map x → x ≡ get_or word i x → i < length word → old ≡ residue_of_word map (take i word) → new ≡ residue_of_word map (take (i + 1) word)
residue_more = sums.residue_more
