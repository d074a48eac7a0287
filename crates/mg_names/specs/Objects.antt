-- What the objects of the program stand for.
use Rattle.std.specs.Prelude.{ℕ, List, map, Vec}
use Rattle.std.specs.declared.alloc.Global.{Global}
use Rattle.mg_names.specs.declared.scope.Object.{Object}
use Rattle.mg_names.specs.declared.scope.Object.TheVariants as declared
use Rattle.mg_names.specs.Scope as meant
use Rattle.mg_names.specs.Scope.{Declared}

abbrev pub object_of : Object → meant.Object
object_of (declared.Group place) = meant.a_group place
object_of (declared.Word home w) = meant.a_word home w.letters
object_of (declared.Subgroup home words) = meant.a_subgroup home words
object_of (declared.Map source target images) = meant.a_map source target images
object_of (declared.Question place) = meant.a_question place

-- the names in a table, in order
abbrev pub declared_in : List (Vec ℕ Global × Object) → List Declared
declared_in entries = map (λ e. record { name = e.0.items; object = object_of e.1 }) entries
