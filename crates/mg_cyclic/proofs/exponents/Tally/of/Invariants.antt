use Rattle.std.proofs.Common.{take}
use Rattle.mg_cyclic.specs.Exponents.{Tallies, IsTally}
use Rattle.mg_cyclic.proofs.exponents.Tally.of.Given as goal

-- the letters so far are counted
abbrev pub invariant-loop-letter : goal.invariant-loop-letter
invariant-loop-letter l = record {
  tallies : Tallies l.tally.plus l.tally.minus (take l.letter-index l.word);
  tally : IsTally l.letter-index l.tally.plus l.tally.minus;
}
