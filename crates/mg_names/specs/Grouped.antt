-- What reading the generators and the relations of a group brings.
use Rattle.std.specs.Prelude.{◌≡◌, ◌≢◌, ℕ, ℤ, Option, Some, List, [], ◌∷◌, ◌++◌, length, map, if◌then◌else◌}
use Rattle.std.specs.List.{flat_map, AllByRecursion}
use Rattle.mg_lex.specs.declared.mark.Mark.TheVariants as mark
use Rattle.mg_lex.specs.declared.refusal.Cause.TheVariants as cause
use Rattle.mg_terms.specs.declared.lexeme.Lexeme.TheVariants as lexeme
use Rattle.mg_names.specs.declared.grouping.Parts.{Parts}
use Rattle.mg_names.specs.declared.home.Home.{Home}
use Rattle.mg_names.specs.Plan.{Plan, PlanGroup}
use Rattle.mg_names.specs.Named.{Named, Relation}
use Rattle.mg_names.specs.Scope.{Declared}
use Rattle.mg_names.specs.Meaning.{relator_of, relations_in, texts}
use Rattle.mg_names.specs.Cause.{Shown, at, in_relation, is_among, twice}
use Rattle.mg_names.specs.Sign.{Sign, first_lexeme, Stops, the_mark, listed, generator_signs, relation_signs, bar_signs}
use Rattle.mg_names.specs.Least.{Gets}
use Rattle.mg_names.specs.Within.{IsObject, IsGroupAt, IsSizedRelation, IsSizedGroup}

-- what may stand behind a relation
pub record EndsRelation (ss : List Sign) : Type 0 where
  pub stops : Stops ss
  pub no_equals : first_lexeme ss ≢ Some (lexeme.Mark mark.Equals)

-- what may stand behind a list
pub record EndsList (ss : List Sign) : Type 0 where
  pub ends : EndsRelation ss
  pub no_comma : first_lexeme ss ≢ Some (lexeme.Mark mark.Comma)

-- the cause that a generator shows which stands among those before it
abbrev pub again : List (List ℕ) → Named → List Shown
again earlier n = if is_among earlier n.text then at cause.GeneratorTwice n.place else []

-- names of generators have been read
pub record AreGeneratorsRead (ns : List Named) (rest : List Sign) (before : Option Shown) (names : List (List ℕ)) (left : List Sign) (after : Option Shown) : Type 0 where
  pub names_are : names ≡ texts ns
  pub rest_is : left ≡ rest
  pub causes : Gets (twice ns) before after

-- the group of these words isn't declared yet, and what is declared is within bounds
pub record IsNewHome (home : Home) : Type 0 where
  pub plan : Plan
  pub objects : AllByRecursion (λ d. IsObject plan d.object) home.names.now
  pub new : (g : PlanGroup) → IsGroupAt plan home.place g → ⊥

-- a relation within the limits stands here
pub record IsRelationAhead (ss : List Sign) : Type 0 where
  pub relation : Relation
  pub rest : List Sign
  pub written : ss ≡ relation_signs relation ++ rest
  pub ends : EndsRelation rest
  pub sized : IsSizedRelation relation

-- a relation with this relator has been read
pub record IsRelationRead (home : Home) (r : Relation) (rest : List Sign) (before : Option Shown) (relator : List ℤ) (left : List Sign) (after : Option Shown) : Type 0 where
  pub relator_is : relator ≡ relator_of home.names.now home.place home.generators.now r
  pub rest_is : left ≡ rest
  pub causes : Gets (in_relation home.names.now home.place home.generators.now r) before after

-- relations within the limits stand here
pub record AreRelationsAhead (ss : List Sign) : Type 0 where
  pub relations : List Relation
  pub rest : List Sign
  pub written : ss ≡ listed (map relation_signs relations) ++ rest
  pub ends : EndsList rest
  pub sized : AllByRecursion IsSizedRelation relations

-- they have been read
pub record AreRelationsRead (names : List Declared) (place : ℕ) (generators : List (List ℕ)) (rs : List Relation) (before : Option Shown) (relators : List (List ℤ)) (after : Option Shown) : Type 0 where
  pub relators_are : relators ≡ map (relator_of names place generators) rs
  pub causes : Gets (flat_map (in_relation names place generators) rs) before after

-- what stands behind the name of a group
abbrev pub group_signs : List Named → Option (List Relation) → List Sign
group_signs generators rs =
    the_mark mark.Equals ∷ the_mark mark.Less ∷ (listed (map generator_signs generators) ++ (bar_signs rs ++ the_mark mark.Greater ∷ []))

pub record IsGroupAhead (ss : List Sign) : Type 0 where
  pub generators : List Named
  pub relations : Option (List Relation)
  pub written : ss ≡ group_signs generators relations
  pub sized : IsSizedGroup (length generators) (length (relations_in relations)) (relations_in relations)

-- the generators and the relators of a group have been read
pub record IsGroupRead (names : List Declared) (place : ℕ) (generators : List Named) (rs : List Relation) (before : Option Shown) (parts : Parts) (after : Option Shown) : Type 0 where
  pub generators_are : parts.generators ≡ texts generators
  pub relators_are : parts.relators ≡ map (relator_of names place (texts generators)) rs
  pub causes : Gets (twice generators ++ flat_map (in_relation names place (texts generators)) rs) before after

-- the group with this name and these parts
abbrev pub group_with : Named → Parts → PlanGroup
group_with n parts = record {
  name = n.text;
  generators = parts.generators;
  group = record { generators = length parts.generators; relators = parts.relators };
}
