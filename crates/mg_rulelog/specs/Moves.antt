-- Moves: how a word is changed at one place, over a group and a list of rules.
use Rattle.std.specs.Prelude.{◌≡◌, ℕ, ℤ, neg_ℤ, Some, List, [], ◌∷◌, ◌++◌, length, map, reverse}
use Rattle.mg_words.specs.Letter.{IsLetterOf}
use Rattle.mg_present.specs.Presentation.{Group}
use Rattle.mg_present.specs.Same.{signed}
use Rattle.mg_rulelog.specs.declared.moves.Move.{Move}
use Rattle.mg_rulelog.specs.declared.moves.Move.TheVariants.{InPair, OutPair, InRelator, OutRelator, By, Back}
use Rattle.mg_rulelog.specs.Rule.{Sides, relator_numbered, sides_numbered}

-- v is u with one word put where another stands, behind so many letters
pub record Replaces (old new : List ℤ) (place : ℕ) (u v : List ℤ) : Type 0 where
  pub before : List ℤ
  pub behind : List ℤ
  pub at : length before ≡ place
  pub stands : u ≡ before ++ (old ++ behind)
  pub replaced : v ≡ before ++ (new ++ behind)

-- a letter and its inverse
abbrev pub pair_of : ℤ → List ℤ
pair_of x = x ∷ neg_ℤ x ∷ []

-- A move takes u to v: a pair of a letter of the group, or a relator or the inverse of one, is put in or taken
-- out, or the left side of a rule is replaced by the right side, or the right side by the left side.
abbrev pub Takes : Group → List Sides → Move → List ℤ → List ℤ → Type 0
Takes group rules (InPair x place) u v = IsLetterOf group.generators x × Replaces [] (pair_of x) place u v
Takes group rules (OutPair x place) u v = IsLetterOf group.generators x × Replaces (pair_of x) [] place u v
Takes group rules (InRelator number inverse place) u v =
    (relator : List ℤ) × (relator_numbered group.relators number ≡ Some relator) × Replaces [] (signed inverse relator) place u v
Takes group rules (OutRelator number inverse place) u v =
    (relator : List ℤ) × (relator_numbered group.relators number ≡ Some relator) × Replaces (signed inverse relator) [] place u v
Takes group rules (By number place) u v =
    (rule : Sides) × (sides_numbered rules number ≡ Some rule) × Replaces rule.left rule.right place u v
Takes group rules (Back number place) u v =
    (rule : Sides) × (sides_numbered rules number ≡ Some rule) × Replaces rule.right rule.left place u v

-- the moves lead from u to v, one after another
abbrev pub Leads : Group → List Sides → List Move → List ℤ → List ℤ → Type 0
Leads group rules [] u v = u ≡ v
Leads group rules (move ∷ moves) u v = (w : List ℤ) × Takes group rules move u w × Leads group rules moves w v

-- the move that undoes a move
abbrev pub undone : Move → Move
undone (InPair x place) = OutPair x place
undone (OutPair x place) = InPair x place
undone (InRelator number inverse place) = OutRelator number inverse place
undone (OutRelator number inverse place) = InRelator number inverse place
undone (By number place) = Back number place
undone (Back number place) = By number place

-- the moves that undo moves, the last one first
abbrev pub all_undone : List Move → List Move
all_undone moves = map undone (reverse moves)
