-- Words with the residues to which they sum at a map, and how these change with the map.
use Rattle.std.specs.Prelude.{◌≡◌, ℕ, ℤ, ◌+◌, ◌%◌, ◌<◌, List, [], length, set, slice_index, slice_index_or}
use Rattle.mg_words.specs.Word.{IsOver}
use Rattle.mg_numbers.specs.Residues.{ResidueTuple, IsResidueTuple}
use Rattle.mg_cyclic.specs.declared.kept.Kept.{Kept}
use Rattle.mg_cyclic.specs.Map.{residue_of_word}
use Rattle.mg_cyclic.specs.Exponents.{DependsOnFirst, Tallies, IsTally, brought}

-- the table says what each generator brings to the residue of a word with these counts
abbrev pub IsStepsAt : ℕ → Kept → Type 0
IsStepsAt modulus row = (place : ℕ) → place < 64 → slice_index row.steps place ≡ brought modulus (slice_index row.tally.plus place) (slice_index row.tally.minus place)

-- the letters of the word are counted, it is known on how many of the first residues it depends and what each generator
-- brings, and the sum kept is its residue at the map
pub record IsKept (map : ResidueTuple) (word : List ℤ) (row : Kept) : Type 0 where
  pub over : IsOver (length map.residues) word
  pub tallies : Tallies row.tally.plus row.tally.minus word
  pub tally : IsTally (length word) row.tally.plus row.tally.minus
  pub depends : DependsOnFirst (length map.residues) row.reach word
  pub steps : IsStepsAt map.modulus row
  pub sums : row.sum ≡ residue_of_word map word

-- each word is kept so
pub record Keep (words : List (List ℤ)) (map : ResidueTuple) (rows : List Kept) : Type 0 where
  pub count : length rows ≡ length words
  pub each : (place : ℕ) → (row : Kept) → place < length words → IsKept map (slice_index_or words place []) (slice_index_or rows place row)

-- a sum and a step below the modulus have been added modulo it, and the rest stayed
pub record IsRaised (modulus place : ℕ) (old new : Kept) : Type 0 where
  pub tally : new.tally ≡ old.tally
  pub reach : new.reach ≡ old.reach
  pub steps : new.steps ≡ old.steps
  pub sum : old.sum < modulus → slice_index old.steps place < modulus → new.sum ≡ (old.sum + slice_index old.steps place) % modulus

-- the table has become that of the modulus, and the rest stayed
pub record IsRenewed (modulus : ℕ) (old new : Kept) : Type 0 where
  pub tally : new.tally ≡ old.tally
  pub reach : new.reach ≡ old.reach
  pub steps : IsStepsAt modulus new
  pub sum : new.sum ≡ old.sum

-- the second map differs from the first one at the place alone, where its residue is one more modulo the modulus
pub record IsNextOne (place : ℕ) (s t : ResidueTuple) : Type 0 where
  pub is : IsResidueTuple (length s.residues) s
  pub there : place < length s.residues
  pub modulus : t.modulus ≡ s.modulus
  pub residues : t.residues ≡ set s.residues place ((slice_index s.residues place + 1) % s.modulus)
