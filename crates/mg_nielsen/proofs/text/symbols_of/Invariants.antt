use Rattle.std.proofs.Common.{◌≡◌, take}
use Rattle.mg_nielsen.specs.Turn.{text_of}
use Rattle.mg_nielsen.proofs.text.symbols_of.Given as goal

-- the parts before the place are written
abbrev pub invariant-loop-rest : goal.invariant-loop-rest
invariant-loop-rest l = l.text.items ≡ text_of (take l.rest-index l.rests)
