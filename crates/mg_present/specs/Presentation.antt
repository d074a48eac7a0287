-- Finite presentations (Magnus, Karrass and Solitar, 1.2).
use Rattle.std.specs.Prelude.{ℕ, ℤ, ◌≤◌, List, length}
use Rattle.std.specs.List.{AllByRecursion}
use Rattle.mg_words.specs.Word.{IsOver, IsReduced}
use Rattle.mg_present.specs.declared.presentation.TheConstants.{MOST_GENERATORS, MOST_RELATORS, MOST_RELATOR_LETTERS}

-- a group by generators, of which only the number counts, and relators
pub record Group : Type 0 where
  pub generators : ℕ
  pub relators : List (List ℤ)

-- a word that a presentation may have as a relator
pub record IsRelator (generators : ℕ) (w : List ℤ) : Type 0 where
  pub over : IsOver generators w
  pub reduced : IsReduced w
  pub short : length w ≤ MOST_RELATOR_LETTERS

-- m generators and the relators rs are a presentation
pub record Fits (m : ℕ) (rs : List (List ℤ)) : Type 0 where
  pub generators : m ≤ MOST_GENERATORS
  pub count : length rs ≤ MOST_RELATORS
  pub relators : AllByRecursion (IsRelator m) rs

-- what holds of every presentation
abbrev pub IsPresented : Group → Type 0
IsPresented group = Fits group.generators group.relators
