use Rattle.std.proofs.Common.{◌≡◌, ℕ, List, take}
use Rattle.std.specs.Prelude.{map}
use Rattle.mg_names.specs.Cause.{lefts}
use Rattle.mg_names.specs.Meaning.{group_at, image_of_generator, value, value_or_none}
use Rattle.mg_names.specs.Name.{named_of}
use Rattle.mg_names.specs.Named.{Arrow}
use Rattle.mg_names.specs.Scope.{Scope}
use Rattle.mg_names.proofs.mapping.Arrows.in_order.Given as goal

abbrev pub invariant-loop-generator : goal.invariant-loop-generator
invariant-loop-generator l =
    (scope : Scope) (target : ℕ) (all : List Arrow) → map named_of l.self.names ≡ lefts all → l.self.images ≡ map (λ a. value scope.names target (group_at scope target).generators a.image) all →
    l.images ≡ map (λ g. value_or_none scope target (image_of_generator all g)) (take l.generator-index l.generators)
