use Rattle.std.proofs.Common.{◌≡◌, take}
use Rattle.mg_script.proofs.line.text_of.Given as goal

-- the bytes so far
abbrev pub invariant-loop-byte : goal.invariant-loop-byte
invariant-loop-byte l = l.text ≡ take l.byte-index l.bytes
