use Rattle.std.proofs.Common.{◌≡◌, take}
use Rattle.mg_cyclic.specs.Map.{residue_of_word}
use Rattle.mg_certs.proofs.summing.residue.Given as goal

-- the letters so far sum to the residue so far
abbrev pub invariant-loop-letter : goal.invariant-loop-letter
invariant-loop-letter l = l.residue ≡ residue_of_word l.map (take l.letter-index l.word)
