-- Reading a word letter by letter, with rewritings as they come up: what one reading does, and the
-- rewritings that are told.
use Rattle.std.specs.Prelude.{◌≡◌, ℕ, ◌<◌, ◌⊎◌, ℤ, List, [], ◌∷◌, ◌++◌, length, reverse}
use Rattle.mg_rules.specs.declared.rewriter.Rewriting.{Rewriting}
use Rattle.mg_rules.specs.Rule.{Rule, IsNormal}
use Rattle.mg_rules.specs.First.{IsLeastEnd, RewritesFirst, RewritesAt}

-- the word that is read and the rest, of which the next letter stands last
abbrev pub whole : List ℤ → List ℤ → List ℤ
whole read rest = read ++ reverse rest

-- the least rule with this number ends the word, and no left side occurs in it without its last
-- letter
pub record EndsFirst (rules : List Rule) (read : List ℤ) (number : ℕ) : Type 0 where
  pub front : List ℤ
  pub last : ℤ
  pub is : read ≡ front ++ last ∷ []
  pub normal : IsNormal rules front
  pub some : 0 < number
  pub least : IsLeastEnd rules read number

-- reading goes on until a left side ends what is read, or, with the number 0, to the end
pub record ReadsTo (rules : List Rule) (read rest read' rest' : List ℤ) (number : ℕ) : Type 0 where
  pub same : whole read rest ≡ whole read' rest'
  pub how : ((number ≡ 0) × (rest' ≡ []) × IsNormal rules read') ⊎ EndsFirst rules read' number

-- the first occurrence is replaced, and reading goes on before the right side
pub record Replaced (rules : List Rule) (read rest read' rest' : List ℤ) (number : ℕ) : Type 0 where
  pub first : RewritesFirst rules (whole read rest) (whole read' rest')
  pub at : RewritesAt rules number (length read') (whole read rest) (whole read' rest')
  pub normal : IsNormal rules read'

-- these rewritings lead from u to v
abbrev pub LeadsBy : List Rule → List ℤ → List Rewriting → List ℤ → Type 0
LeadsBy rules u [] v = u ≡ v
LeadsBy rules u (one ∷ more) v =
    (w : List ℤ) × RewritesAt rules one.rule one.place u w × LeadsBy rules w more v

-- the rewritings that lead from u to v are appended
pub record Tells (rules : List Rule) (u v : List ℤ) (old new : List Rewriting) : Type 0 where
  pub told : List Rewriting
  pub appended : new ≡ old ++ told
  pub lead : LeadsBy rules u told v
