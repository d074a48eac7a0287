use Rattle.std.proofs.Common.{◌≡◌, ◌++◌, take}
use Rattle.std.specs.Prelude.{map, codes}
use Rattle.mg_certtext.specs.Pieces.{spaced}
use Rattle.mg_certtext.specs.Verdicts.{symbol_piece}
use Rattle.mg_certtext.proofs.verdicts.print_derivation.Given as goal

abbrev pub invariant-loop-symbol : goal.invariant-loop-symbol
invariant-loop-symbol l = l.out.items ≡ codes "yes derivation" ++ spaced (map (symbol_piece l.names) (take l.symbol-index l.symbol-items))
