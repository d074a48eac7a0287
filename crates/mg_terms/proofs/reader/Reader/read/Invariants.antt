use Rattle.std.proofs.Common.{take}
use Rattle.mg_terms.proofs.Reached.{HasRead}
use Rattle.mg_terms.proofs.reader.Reader.read.Given as goal

-- the lexemes so far have been read
abbrev pub invariant-loop-place : goal.invariant-loop-place
invariant-loop-place l = HasRead (take l.place l.lexemes) l.self
