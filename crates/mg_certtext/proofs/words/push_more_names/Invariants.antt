use Rattle.std.proofs.Common.{◌≡◌, [], ◌∷◌, ◌++◌, take}
use Rattle.std.specs.Prelude.{map}
use Rattle.mg_certtext.specs.Pieces.{spaced, more_listed}
use Rattle.mg_certtext.proofs.words.push_more_names.Given as goal

abbrev pub invariant-loop-name : goal.invariant-loop-name
invariant-loop-name l = l.out.items ≡ l.fn.out.items ++ spaced (more_listed (map (λ name. name ∷ []) (take l.name-index l.names)))
