use Rattle.mg_cyclic.proofs.Tallies.{counts_forth, counts_back}
use Rattle.mg_cyclic.proofs.exponents.Tally.count.Goals as goal

pub returns-then-letter-clause-adds : goal.returns-then-letter-clause-adds
returns-then-letter-clause-adds c = λ t letter few.
    counts_back t c.args.self.now.plus c.args.self.now.minus c.letter.inside.generator c.requires.room.0 c.letter.inside.inverse c.args.letter c.letter.view_is c.if-letter.true c.requires.room.2 letter few

pub returns-clause-adds : goal.returns-clause-adds
returns-clause-adds c = λ t letter few.
    counts_forth t c.args.self.now.plus c.args.self.now.minus c.letter.inside.generator c.requires.room.0 c.letter.inside.inverse c.args.letter c.letter.view_is c.if-letter.false c.requires.room.2 letter few
