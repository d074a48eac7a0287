use Rattle.std.proofs.Common.{◌≡◌, ◌++◌, take}
use Rattle.std.specs.Prelude.{map}
use Rattle.mg_certtext.specs.Models.{rule_pieces}
use Rattle.mg_certtext.specs.Pieces.{spaced, more_listed}
use Rattle.mg_certtext.proofs.models.push_more_pairs.Given as goal

abbrev pub invariant-loop-pair : goal.invariant-loop-pair
invariant-loop-pair l = l.out.items ≡ l.fn.out.items ++ spaced (more_listed (map (rule_pieces l.names) (take l.pair-index l.pairs)))
