-- Steps between words and chains of steps, over a number of generators and a list of relators
-- (Magnus, Karrass and Solitar, 1.2).
use Rattle.std.specs.Prelude.{◌≡◌, ℕ, ℤ, neg_ℤ, List, [], ◌∷◌, ◌++◌, Contains, ◌⊎◌}
use Rattle.mg_words.specs.Letter.{IsLetterOf}
use Rattle.mg_words.specs.Word.{inv}

-- what a step inserts or deletes: a letter and its inverse, a relator, or the inverse of a relator
pub data IsPiece (m : ℕ) (relators : List (List ℤ)) (piece : List ℤ) : Type 0 where
  a_pair : (x : ℤ) → IsLetterOf m x → piece ≡ x ∷ neg_ℤ x ∷ [] → IsPiece m relators piece
  a_relator : Contains relators piece → IsPiece m relators piece
  an_inverse : (relator : List ℤ) → Contains relators relator → piece ≡ inv relator → IsPiece m relators piece

-- v is u with one piece inserted at one place
pub record Inserts (m : ℕ) (relators : List (List ℤ)) (u v : List ℤ) : Type 0 where
  pub before : List ℤ
  pub piece : List ℤ
  pub after : List ℤ
  pub is_piece : IsPiece m relators piece
  pub without : u ≡ before ++ after
  pub with_it : v ≡ before ++ (piece ++ after)

-- v comes from u by inserting or deleting one piece
abbrev pub Step : ℕ → List (List ℤ) → List ℤ → List ℤ → Type 0
Step m relators u v = Inserts m relators u v ⊎ Inserts m relators v u

-- these words lead from u to v, each next one by a step
abbrev pub Leads : ℕ → List (List ℤ) → List ℤ → List (List ℤ) → List ℤ → Type 0
Leads m relators u [] v = u ≡ v
Leads m relators u (w ∷ ws) v = Step m relators u w × Leads m relators w ws v

-- some finite list of words leads from u to v
abbrev pub Same : ℕ → List (List ℤ) → List ℤ → List ℤ → Type 0
Same m relators u v = (words : List (List ℤ)) × Leads m relators u words v

-- u and v are equal in the free group: over any generators that both are words over
abbrev pub FreelyEqual : ℕ → List ℤ → List ℤ → Type 0
FreelyEqual m u v = Same m [] u v
