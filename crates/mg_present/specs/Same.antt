-- Sameness in a presented group, and membership in a subgroup (Magnus, Karrass and Solitar, 1.2).
use Rattle.std.specs.Prelude.{ℕ, ℤ, ◌<◌, Bool, true, false, List, [], ◌∷◌, ◌++◌, length, slice_index_or}
use Rattle.std.specs.List.{AllByRecursion}
use Rattle.mg_words.specs.Word.{inv}
use Rattle.mg_words.specs.Chain as chain
use Rattle.mg_present.specs.Presentation.{Group}
use Rattle.mg_present.specs.Ask.{Inquiry}

-- v comes from u by inserting or deleting a relator, the inverse of one, or a letter and its inverse
abbrev pub Step : Group → List ℤ → List ℤ → Type 0
Step group u v = chain.Step group.generators group.relators u v

-- u and v are the same element of the group: some finite chain of steps leads from u to v
abbrev pub Same : Group → List ℤ → List ℤ → Type 0
Same group u v = chain.Same group.generators group.relators u v

-- a word or its inverse
abbrev pub signed : Bool → List ℤ → List ℤ
signed false w = w
signed true w = inv w

-- the product of members of a list at places from 0, each as it is or inverted
abbrev pub product : List (List ℤ) → List (ℕ × Bool) → List ℤ
product members [] = []
product members (factor ∷ factors) = signed factor.1 (slice_index_or members factor.0 []) ++ product members factors

-- w lies in the subgroup that the members generate: it is the same as a product of them and their inverses
pub record Lies (group : Group) (members : List (List ℤ)) (w : List ℤ) : Type 0 where
  pub factors : List (ℕ × Bool)
  pub there : AllByRecursion (λ factor. factor.0 < length members) factors
  pub same : Same group (product members factors) w

-- each goal lies in the subgroup
abbrev pub Holds : Inquiry → Type 0
Holds ask = AllByRecursion (Lies ask.group ask.subgroup) ask.goals
