-- What the exponent sums of a word tell of its residues.
use Rattle.std.specs.Prelude.{◌≡◌, ℕ, ℤ, ◌+◌, ◌-◌, ◌*◌, ◌%◌, ◌≤◌, List, [], ◌∷◌, length, take, sum_by, All}
use Rattle.mg_words.specs.Word.{IsOver}
use Rattle.mg_numbers.specs.Residues.{ResidueTuple, IsResidueTuple}
use Rattle.mg_cyclic.specs.Map.{added_by_letter, residue_of_word}

-- the residue of the word depends on the first residues alone, as many as its reach
abbrev pub DependsOnFirst : ℕ → ℕ → List ℤ → Type 0
DependsOnFirst generators reach w = (s t : ResidueTuple) → IsResidueTuple generators s → IsResidueTuple generators t → s.modulus ≡ t.modulus
    → take reach s.residues ≡ take reach t.residues → residue_of_word s w ≡ residue_of_word t w

-- the word sums to 0 at every map whose modulus divides this number
abbrev pub VanishesWith : ℕ → ℕ → List ℤ → Type 0
VanishesWith generators content w = (t : ResidueTuple) → IsResidueTuple generators t → content % t.modulus ≡ 0 → residue_of_word t w ≡ 0

-- what the generators add that stand so often in a word, and whose inverses stand so often in it
abbrev pub tallied : ℕ → List ℕ → List ℕ → List ℕ → ℕ
tallied modulus plus minus [] = 0
tallied modulus [] minus (x ∷ xs) = 0
tallied modulus (p ∷ ps) [] (x ∷ xs) = 0
tallied modulus (p ∷ ps) (m ∷ ms) (x ∷ xs) = p * x + m * (modulus - x) + tallied modulus ps ms xs

-- the letters of the word are counted: at every map they add what their counts say
abbrev pub Tallies : List ℕ → List ℕ → List ℤ → Type 0
Tallies plus minus w = (t : ResidueTuple) → IsOver (length t.residues) w → length t.residues ≤ length plus → length t.residues ≤ length minus
    → sum_by (added_by_letter t) w ≡ tallied t.modulus plus minus t.residues

-- a count of at most so many letters
pub record IsTally (letters : ℕ) (plus minus : List ℕ) : Type 0 where
  pub plus_count : length plus ≡ 64
  pub minus_count : length minus ≡ 64
  pub plus_most : All (λ n. n ≤ letters) plus
  pub minus_most : All (λ n. n ≤ letters) minus

-- what a generator that stands so often in a word, and its inverse so often, brings to the residue of the word where the
-- residue of the generator is raised by one
abbrev pub brought : ℕ → ℕ → ℕ → ℕ
brought modulus plus minus = (plus % modulus + (modulus - minus % modulus)) % modulus
