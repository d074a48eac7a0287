use Rattle.std.proofs.Common.{◌≡◌, ◌++◌, take}
use Rattle.mg_certtext.specs.Pieces.{spaced}
use Rattle.mg_certtext.specs.Models.{numbers_pieces}
use Rattle.mg_certtext.proofs.models.push_numbers.Given as goal

abbrev pub invariant-loop-number : goal.invariant-loop-number
invariant-loop-number l = l.out.items ≡ l.fn.out.items ++ spaced (numbers_pieces (take l.number-index l.numbers))
