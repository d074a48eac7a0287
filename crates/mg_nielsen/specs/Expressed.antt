-- Words with expressions in the subgroup words. A sign is the place of a subgroup word, from 1, negative for its
-- inverse. So a list of signs is a word over as many letters as there are subgroup words, and its product is the
-- image of that word. All products are those of the free group.
use Rattle.std.specs.Prelude.{◌≡◌, ℤ, Bool, List, [], ◌∷◌, ◌++◌, length}
use Rattle.mg_words.specs.Word.{IsReduced}
use Rattle.mg_words.specs.Reduction.{free_form}
use Rattle.mg_present.specs.Ask.{IsReducedOver}
use Rattle.mg_present.specs.Same.{signed}
use Rattle.mg_present.specs.Image.{image_of}

-- a word, and a list of signs
pub record Expressed : Type 0 where
  pub word : List ℤ
  pub signs : List ℤ

abbrev pub empty : Expressed
empty = record { word = []; signs = [] }

-- as it is, or inverted
abbrev pub turned : Bool → Expressed → Expressed
turned inverse e = record { word = signed inverse e.word; signs = signed inverse e.signs }

-- the product, word by word and list by list
abbrev pub times : Expressed → Expressed → Expressed
times a b = record { word = free_form (a.word ++ b.word); signs = free_form (a.signs ++ b.signs) }

-- the word is the product of the signs
pub record IsExpressed (subgroup : List (List ℤ)) (e : Expressed) : Type 0 where
  pub word : e.word ≡ free_form (image_of subgroup e.signs)
  pub signs : IsReducedOver (length subgroup) e.signs

-- the goal is the product of the signs followed by the word, which is the rest of the goal
pub record IsRestOf (subgroup : List (List ℤ)) (rest : Expressed) (goal : List ℤ) : Type 0 where
  pub reduced : IsReduced rest.word
  pub goal_is : goal ≡ free_form (image_of subgroup rest.signs ++ rest.word)
  pub signs : IsReducedOver (length subgroup) rest.signs

-- there is one rest for each goal
abbrev pub AreRests : List (List ℤ) → List Expressed → List (List ℤ) → Type 0
AreRests subgroup [] [] = Unit {0}
AreRests subgroup (rest ∷ rests) (goal ∷ goals) = IsRestOf subgroup rest goal × AreRests subgroup rests goals
AreRests subgroup [] (goal ∷ goals) = ⊥
AreRests subgroup (rest ∷ rests) [] = ⊥
