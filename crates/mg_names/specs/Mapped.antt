-- What reading a map brings.
use Rattle.std.specs.Prelude.{◌≡◌, ◌≢◌, ℕ, ℤ, Option, Some, None, List, [], ◌∷◌, ◌++◌, map}
use Rattle.std.specs.List.{flat_map, AllByRecursion}
use Rattle.mg_lex.specs.declared.mark.Mark.TheVariants as mark
use Rattle.mg_names.specs.declared.home.Home.{Home}
use Rattle.mg_names.specs.declared.mapping.Arrows.{Arrows}
use Rattle.mg_names.specs.declared.mapping.Heading.{Heading}
use Rattle.mg_names.specs.declared.scope.Object as declared
use Rattle.mg_names.specs.Asked.{IsHome}
use Rattle.mg_names.specs.Cause.{Shown, in_word, lefts, not_a_group}
use Rattle.mg_names.specs.Least.{Gets}
use Rattle.mg_names.specs.Meaning.{images, value}
use Rattle.mg_names.specs.Name.{named_of}
use Rattle.mg_names.specs.Named.{Named, Word, Arrow}
use Rattle.mg_names.specs.Objects.{object_of}
use Rattle.mg_names.specs.Scope.{Scope, Object, a_group, a_map, lookup}
use Rattle.mg_names.specs.Sign.{Sign, Stops, a_name, the_mark, arrow_signs, listed, listed_on}
use Rattle.mg_names.specs.Within.{IsSizedWord}

-- a word in the target, if that is known
abbrev pub value_at : Option Home → Word → List ℤ
value_at None w = []
value_at (Some home) w = value home.names.now home.place home.generators.now w

abbrev pub causes_at : Option Home → Word → List Shown
causes_at None w = []
causes_at (Some home) w = in_word home.names.now home.place home.generators.now w

-- what is written from the arrows on, and behind an arrow
abbrev pub closing : List Sign
closing = the_mark mark.CloseSquare ∷ []

abbrev pub arrows_signs : List Arrow → List Sign
arrows_signs all = listed (map arrow_signs all) ++ closing

abbrev pub further_signs : List Arrow → List Sign
further_signs all = listed_on (map arrow_signs all) ++ closing

-- what is written before the arrows
abbrev pub heading_signs : Named → Named → Named → List Sign → List Sign
heading_signs n a b rest = a_name n ∷ the_mark mark.Colon ∷ a_name a ∷ the_mark mark.Arrow ∷ a_name b ∷ the_mark mark.Equals ∷ the_mark mark.OpenSquare ∷ rest

abbrev pub IsHeadingAhead : List Sign → Type 0
IsHeadingAhead ss = (n : Named) × (a : Named) × (b : Named) × (rest : List Sign) × (ss ≡ heading_signs n a b rest)

pub record IsHeading (n a b : Named) (rest : List Sign) (heading : Heading) (left : List Sign) : Type 0 where
  pub name : named_of heading.name ≡ n
  pub source : named_of heading.source ≡ a
  pub target : named_of heading.target ≡ b
  pub rest_is : left ≡ rest

-- an arrow within the limits stands here, and all arrows
pub record IsArrowAhead (ss : List Sign) : Type 0 where
  pub arrow : Arrow
  pub rest : List Sign
  pub written : ss ≡ arrow_signs arrow ++ rest
  pub stops : Stops rest
  pub sized : IsSizedWord arrow.image

pub record AreArrowsAhead (ss : List Sign) : Type 0 where
  pub arrows : List Arrow
  pub written : ss ≡ arrows_signs arrows
  pub sized : AllByRecursion (λ a. IsSizedWord a.image) arrows

-- one more arrow has been read, and these signs are left
pub record IsOneRead (target : Option Home) (a : Arrow) (rest : List Sign) (before : Option Shown) (old : Arrows) (left : List Sign) (new : Arrows) (after : Option Shown) : Type 0 where
  pub rest_is : left ≡ rest
  pub names : map named_of new.names ≡ map named_of old.names ++ a.generator ∷ []
  pub images : new.images ≡ old.images ++ value_at target a.image ∷ []
  pub causes : Gets (causes_at target a.image) before after

-- these arrows have been read
pub record AreRead (target : Option Home) (all : List Arrow) (before : Option Shown) (arrows : Arrows) (after : Option Shown) : Type 0 where
  pub names : map named_of arrows.names ≡ lefts all
  pub images : arrows.images ≡ map (λ a. value_at target a.image) all
  pub causes : Gets (flat_map (λ a. causes_at target a.image) all) before after

-- the group at a place, if there is one
abbrev pub IsHomeOf : Scope → Option ℕ → Option Home → Type 0
IsHomeOf scope (Some place) (Some home) = IsHome scope place home
IsHomeOf scope None None = Unit {0}
IsHomeOf scope _ _ = ⊥

-- the group that an object is, if it is one
abbrev pub NamesGroup : Option Object → Option ℕ → Type 0
NamesGroup found (Some place) = found ≡ Some (a_group place)
NamesGroup found None = (place : ℕ) → found ≢ Some (a_group place)

-- both names stand for groups, and this is the map
pub record IsMap (scope : Scope) (all : List Arrow) (a b : Named) (o : declared.Object) : Type 0 where
  pub source : ℕ
  pub target : ℕ
  pub from : lookup scope.names a.text ≡ Some (a_group source)
  pub to : lookup scope.names b.text ≡ Some (a_group target)
  pub object : object_of o ≡ a_map source target (images scope source target all)

-- without a map one of the names shows a cause
abbrev pub IsMapOf : Scope → List Arrow → Named → Named → Option declared.Object → Type 0
IsMapOf scope all a b (Some o) = IsMap scope all a b o
IsMapOf scope all a b None = (rest : List Shown) → not_a_group a (lookup scope.names a.text) ++ (not_a_group b (lookup scope.names b.text) ++ rest) ≢ []
