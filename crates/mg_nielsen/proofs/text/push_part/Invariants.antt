use Rattle.std.proofs.Common.{◌≡◌, ◌++◌, map, take}
use Rattle.mg_nielsen.specs.Turn.{symbol_of}
use Rattle.mg_nielsen.proofs.text.push_part.Given as goal

-- the signs before the place are appended
abbrev pub invariant-loop-sign : goal.invariant-loop-sign
invariant-loop-sign l = l.text.items ≡ l.fn.text.items ++ map symbol_of (take l.sign-index l.sign-items)
