-- Maps of presented groups to residues, and what they refute. A map is a modulus and a residue for each generator;
-- words go to the sums of these residues.
use Rattle.std.specs.Prelude.{◌≡◌, ◌≢◌, ℕ, zero, suc, ◌-◌, ◌%◌, ◌<◌, ℤ, pos, negsuc, List, [], length, sum_by, slice_index, slice_index_or}
use Rattle.std.specs.List.{AllByRecursion}
use Rattle.mg_numbers.specs.Residues.{ResidueTuple, IsResidueTuple}
use Rattle.mg_present.specs.Presentation.{Group}
use Rattle.mg_present.specs.Ask.{Inquiry}

-- the residue of the generator at a place from 1, and 0 where there is none
abbrev pub residue_of_generator : ResidueTuple → ℕ → ℕ
residue_of_generator map zero = 0
residue_of_generator map (suc n) = slice_index map.residues n

-- what a letter adds: the residue of its generator, or for an inverse what that lacks to the modulus
abbrev pub added_by_letter : ResidueTuple → ℤ → ℕ
added_by_letter map (pos place) = residue_of_generator map place
added_by_letter map (negsuc n) = map.modulus - residue_of_generator map (suc n)

-- the residue of a word: the sum of what its letters add, modulo the modulus
abbrev pub residue_of_word : ResidueTuple → List ℤ → ℕ
residue_of_word map w = sum_by (added_by_letter map) w % map.modulus

-- there are as many residues as generators, and each relator sums to 0
pub record IsMap (group : Group) (map : ResidueTuple) : Type 0 where
  pub residues : IsResidueTuple group.generators map
  pub relators : AllByRecursion (λ relator. residue_of_word map relator ≡ 0) group.relators

-- it is a map of the group at which every subgroup word sums to 0, and the goal at the place doesn't
pub record Refutes (ask : Inquiry) (goal : ℕ) (map : ResidueTuple) : Type 0 where
  pub is_map : IsMap ask.group map
  pub vanish : AllByRecursion (λ w. residue_of_word map w ≡ 0) ask.subgroup
  pub there : goal < length ask.goals
  pub remains : residue_of_word map (slice_index_or ask.goals goal []) ≢ 0

-- the map refutes no goal before this one
abbrev pub RefutesNoneBefore : Inquiry → ℕ → ResidueTuple → Type 0
RefutesNoneBefore ask goal map = (k : ℕ) → k < goal → Refutes ask k map → ⊥
