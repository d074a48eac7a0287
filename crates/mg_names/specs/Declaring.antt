-- What reading a declaration brings.
use Rattle.std.specs.Prelude.{◌≡◌, ◌≢◌, ℤ, Option, Some, None, List, [], ◌∷◌, ◌++◌, map}
use Rattle.std.specs.List.{AllByRecursion, flat_map}
use Rattle.mg_names.specs.declared.scope.Object.{Object}
use Rattle.mg_lex.specs.declared.mark.Mark.TheVariants as mark
use Rattle.mg_names.specs.declared.home.Home.{Home}
use Rattle.mg_names.specs.Named.{Named, Word}
use Rattle.mg_names.specs.Scope.{Scope, lookup}
use Rattle.mg_names.specs.Meaning.{value, declaring}
use Rattle.mg_names.specs.Cause.{Shown, taken, not_a_group, of_group, in_word}
use Rattle.mg_names.specs.Least.{Gets}
use Rattle.mg_names.specs.Sign.{Sign, the_mark, listed, word_signs}
use Rattle.mg_names.specs.Within.{IsSizedWord}
use Rattle.mg_names.specs.Objects.{object_of}

-- the causes that declarations of a word and of a subgroup show
abbrev pub word_causes : Scope → (n g : Named) → Word → List Shown
word_causes scope n g w =
    taken scope n ++ (not_a_group g (lookup scope.names g.text)
    ++ of_group scope (λ place generators. in_word scope.names place generators w) (lookup scope.names g.text))

abbrev pub subgroup_causes : Scope → (n g : Named) → List Word → List Shown
subgroup_causes scope n g ws =
    taken scope n ++ (not_a_group g (lookup scope.names g.text)
    ++ of_group scope (λ place generators. flat_map (in_word scope.names place generators) ws) (lookup scope.names g.text))

-- with the object declared, the scope is this one
abbrev pub Declares : Scope → Named → Scope → Option Object → Type 0
Declares scope n end None = Unit {0}
Declares scope n end (Some o) = end ≡ declaring scope n (object_of o)

-- a declaration with these causes has been read; there is an object unless a cause is shown
pub record IsDeclared (scope : Scope) (n : Named) (causes : List Shown) (end : Scope) (before after : Option Shown) (object : Option Object) : Type 0 where
  pub gets : Gets causes before after
  pub declares : Declares scope n end object
  pub some : object ≡ None → causes ≢ []

-- words with commas between them, and the sign that ends them
abbrev pub words_signs : List Word → List Sign
words_signs ws = listed (map word_signs ws) ++ the_mark mark.Greater ∷ []

pub record AreWordsAhead (ss : List Sign) : Type 0 where
  pub words : List Word
  pub written : ss ≡ words_signs words
  pub sized : AllByRecursion IsSizedWord words

-- the first of some words have been read
pub record AreReadUpTo (home : Home) (ws : List Word) (before : Option Shown) (words : List (List ℤ)) (now : List Sign) (after : Option Shown) : Type 0 where
  pub done : List Word
  pub left : List Word
  pub split : ws ≡ done ++ left
  pub ahead : now ≡ words_signs left
  pub words_are : words ≡ map (value home.names.now home.place home.generators.now) done
  pub causes : Gets (flat_map (in_word home.names.now home.place home.generators.now) done) before after
